-- Which files are accepted? Exactly the bytes of the problems in range.
use mathlib.Core.Path.{◌≡◌, refl, sym, ap, ◌∙◌, subst}
use mathlib.Core.List.{List, [], ◌∷◌, ◌++◌, append_assoc, append-nil}
use mathlib.Core.Bool.{true, ◌&&◌}
use Prim.Native.Nat.{ℕ, ◌*◌, ◌/◌, ◌%◌, ◌^◌, ◌≤◌}
use native.Mathlib.Omega.{arith}
use borrow.Author.Tests.{eqb-true, eq-eqb, lt-ltb}
use lib.Dec.{eqb}
use lib.ListN.{length, take, drop, take-append-drop, length-append, length-drop}
use lib.Seq.{take_at, drop_at, drop-drop, drop-cons, length-take-le}
use Rattle.laws.specs.Z.{Within}
use Rattle.laws.specs.Lists.{every, gather}
use Rattle.laws.proofs.Lists.{and_l, and_r, and_both, every_append}
use Rattle.laws.proofs.Parts.{code_fields, every_take, every_drop}
use Rattle.laws.proofs.Each.{each_every}
use Rattle.meaning.specs.Problem.{Said, Problem, Format, version1, in_range}
use Rattle.meaning.specs.File.{got, read_of, bytes, signed_bytes, rule_bytes, bytes_of}
use Rattle.meaning.proofs.Faultless.{InRange, in_range_lem, range_in}
use Rattle.meaning.proofs.Rows.{accepted_when}
use Rattle.meaning.proofs.Table.{Known, known1, slot_count, rule_count, sets_in, behind_sets, weights_in, behind_weights, problem_in, HeadRight, WeightsRight, RulesRight, Accepted, accepted}
use Rattle.meaning.proofs.Bytes.{is_byte, below, fits, code_little, code_signed, within_fits}
use Rattle.meaning.proofs.Written.{Roomy, RulesWhole, rules_write, rules_read_again, rules_low}

known_roomy : {f : Format} → Known f → Roomy f
known_roomy known1 = omega arith

-- ---- a file that was read is written again
-- the head, byte by byte
head_whole : (s : List ℕ) → 7 ≤ length s → take 3 s ++ (take 2 (drop 3 s) ++ (slot_count s ∷ rule_count s ∷ drop 7 s)) ≡ s
head_whole s h =
    rw (← drop-cons s 6 0 h, ← drop-cons s 5 0 (omega arith), ← drop-drop 2 3 s, take-append-drop 2 (drop 3 s)) (take-append-drop 3 s)

-- the problem that a file is written from
data Says (s : List ℕ) (p : Problem) : Type 0 where
  says : {f : Format} → Known f → in_range f p ≡ true → s ≡ bytes_of f p → Says s p

module _ (s : List ℕ) (f : Format) (low : every is_byte s ≡ true) (w : WeightsRight s f) where
  abbrev set_part : List ℕ
  set_part = take (slot_count s * f.set_bytes) (drop 7 s)

  abbrev weight_part : List ℕ
  weight_part = take (slot_count s * 4) (behind_sets s f)

  set_part_long : length set_part ≡ slot_count s * f.set_bytes
  set_part_long = length-take-le (slot_count s * f.set_bytes) (drop 7 s) w.sets.complete

  weight_part_long : length weight_part ≡ slot_count s * 4
  weight_part_long = length-take-le (slot_count s * 4) (behind_sets s f) w.complete

  set_part_low : every is_byte set_part ≡ true
  set_part_low = every_take is_byte (slot_count s * f.set_bytes) (drop 7 s) (every_drop is_byte 7 s low)

  behind_low : every is_byte (behind_sets s f) ≡ true
  behind_low = every_drop is_byte (slot_count s * f.set_bytes) (drop 7 s) (every_drop is_byte 7 s low)

  weight_part_low : every is_byte weight_part ≡ true
  weight_part_low = every_take is_byte (slot_count s * 4) (behind_sets s f) behind_low

  sets_held : (every (below f.set_bytes) (sets_in s f) && eqb (length (sets_in s f)) (slot_count s)) ≡ true
  sets_held = (code_fields (code_little f.set_bytes) (slot_count s)).fits set_part set_part_long set_part_low

  weights_held : (every (fits 4) (weights_in s f) && eqb (length (weights_in s f)) (slot_count s)) ≡ true
  weights_held = (code_fields (code_signed 4) (slot_count s)).fits weight_part weight_part_long weight_part_low

  set_count : length (sets_in s f) ≡ slot_count s
  set_count = eqb-true (length (sets_in s f)) (slot_count s) (and_r (every (below f.set_bytes) (sets_in s f)) (eqb (length (sets_in s f)) (slot_count s)) sets_held)

  version_whole : take 2 (drop 3 s) ≡ bytes 2 f.version
  version_whole =
      let h = w.sets.head in
      sym ((code_little 2).writes (take 2 (drop 3 s)) (length-take-le 2 (drop 3 s) (omega (arith, length-drop 3 s, h.complete))) (every_take is_byte 2 (drop 3 s) (every_drop is_byte 3 s low)))
      ∙ ap (bytes 2) h.version

  module _ {rs : List Said} (o : RulesWhole f (slot_count s) (rule_count s) (behind_weights s f) rs []) where
    said_in_range : in_range f (problem_in s f rs) ≡ true
    said_in_range = range_in f (problem_in s f rs) (record {
      head = rw (set_count, o.count) w.sets.head.range;
      sets = w.sets.allowing;
      weights = w.range;
      rules = rw set_count o.right;
      fit = and_l (every (below f.set_bytes) (sets_in s f)) (eqb (length (sets_in s f)) (slot_count s)) sets_held;
      count = rw set_count (and_r (every (fits 4) (weights_in s f)) (eqb (length (weights_in s f)) (slot_count s)) weights_held);
      held = rw set_count o.held;
    })

    -- the bytes behind the head
    body_whole : drop 7 s ≡ gather (bytes f.set_bytes) (sets_in s f) ++ gather (signed_bytes 4) (weights_in s f) ++ gather (rule_bytes f) rs
    body_whole =
        let rules = gather (rule_bytes f) rs in
        rw (
          (code_fields (code_little f.set_bytes) (slot_count s)).writes set_part set_part_long set_part_low,
          (code_fields (code_signed 4) (slot_count s)).writes weight_part weight_part_long weight_part_low,
          append_assoc set_part weight_part rules,
          ← (o.whole ∙ append-nil rules),
          take-append-drop (slot_count s * 4) (behind_sets s f),
        )
        (sym (take-append-drop (slot_count s * f.set_bytes) (drop 7 s)))

    file_says : Says s (problem_in s f rs)
    file_says =
        let h = w.sets.head in
        says h.known said_in_range
        (sym (head_whole s h.complete) ∙ (λ i. h.marked i ++ (version_whole i ++ (sym set_count i ∷ sym o.count i ∷ body_whole i))))

-- ---- a problem in range, written and read again
module _ (f : Format) (p : Problem) (known : Known f) (r : InRange f p) where
  abbrev n : ℕ
  n = length p.sets

  abbrev s : List ℕ
  s = bytes_of f p

  abbrev set_bytes : List ℕ
  set_bytes = gather (bytes f.set_bytes) p.sets

  abbrev weight_bytes : List ℕ
  weight_bytes = gather (signed_bytes 4) p.weights

  abbrev rest : List ℕ
  rest = gather (rule_bytes f) p.rules

  sets_fit : (every (below f.set_bytes) p.sets && eqb n n) ≡ true
  sets_fit = and_both (every (below f.set_bytes) p.sets) (eqb n n) r.fit (eq-eqb n n refl)

  weights_fit : (every (fits 4) p.weights && eqb (length p.weights) n) ≡ true
  weights_fit =
      and_both (every (fits 4) p.weights) (eqb (length p.weights) n) (each_every (fits 4) (Within f.weight) (within_fits 4 f.weight (known_roomy known).weight) p.weights r.weights) r.count

  sets_long : length set_bytes ≡ n * f.set_bytes
  sets_long = (code_fields (code_little f.set_bytes) n).long p.sets sets_fit

  weights_long : length weight_bytes ≡ n * 4
  weights_long = (code_fields (code_signed 4) n).long p.weights weights_fit

  sets_again : sets_in s f ≡ p.sets
  sets_again =
      rw (append_assoc set_bytes weight_bytes rest, take_at set_bytes (weight_bytes ++ rest) (n * f.set_bytes) sets_long) ((code_fields (code_little f.set_bytes) n).reads p.sets sets_fit)

  after_sets : behind_sets s f ≡ weight_bytes ++ rest
  after_sets = rw (append_assoc set_bytes weight_bytes rest) (drop_at set_bytes (weight_bytes ++ rest) (n * f.set_bytes) sets_long)

  weights_again : weights_in s f ≡ p.weights
  weights_again = rw (after_sets, take_at weight_bytes rest (n * 4) weights_long) ((code_fields (code_signed 4) n).reads p.weights weights_fit)

  after_weights : behind_weights s f ≡ rest
  after_weights = rw after_sets (drop_at weight_bytes rest (n * 4) weights_long)

  head_again : HeadRight s f
  head_again = record {
    complete = omega arith;
    marked = refl;
    known = known;
    version = (code_little 2).reads f.version (lt-ltb f.version (256 ^ 2) (known_roomy known).version);
    range = r.head;
  }

  rules_again : RulesRight s f (length p.rules) p.rules []
  rules_again = record {
    weights = record {
      sets = record {
        head = head_again;
        complete = omega (arith, length-append (set_bytes ++ weight_bytes) rest, length-append set_bytes weight_bytes, sets_long);
        allowing = rw sets_again r.sets;
      };
      complete = rw after_sets (omega (arith, length-append weight_bytes rest, weights_long));
      range = rw weights_again r.weights;
    };
    rules = rw after_weights (rw (append-nil rest) at (rules_read_again f n (known_roomy known) (omega (arith, r.head.most)) p.rules [] r.rules r.held));
  }

  accepted_again : Accepted s p
  accepted_again = subst (Accepted s) (λ i. record { sets = sets_again i; weights = weights_again i; rules = p.rules }) (accepted rules_again)

  bytes_low : every is_byte s ≡ true
  bytes_low =
      let m = length p.rules in
      let v = f.version in
      rw (lt-ltb (v % 256) 256 (omega arith), lt-ltb (v / 256 % 256) 256 (omega arith), lt-ltb n 256 (omega (arith, r.head.most)), lt-ltb m 256 (omega (arith, r.head.rules)))
      (every_append is_byte (set_bytes ++ weight_bytes) rest
      (every_append is_byte set_bytes weight_bytes ((code_fields (code_little f.set_bytes) n).low p.sets) ((code_fields (code_signed 4) n).low p.weights))
      (rules_low f p.rules))

-- ---- the files of version 1
module _ (s : List ℕ) (p : Problem) (t : List ℕ) (low : every is_byte s ≡ true) (e : read_of s ≡ got p t) where
  written_from : (in_range version1 p ≡ true) × (s ≡ bytes_of version1 p)
  written_from = first_version (go ((accepted_when s p t).0 e).0)
    where
      go : {q : Problem} → Accepted s q → Says s q
      go (accepted {f = f} r) = file_says s f low r.weights (rules_write f (slot_count s) r.rules (every_drop is_byte (slot_count s * 4) (behind_sets s f) (behind_low s f low r.weights)))

      first_version : Says s p → (in_range version1 p ≡ true) × (s ≡ bytes_of version1 p)
      first_version (says known1 r w) = (r, w)

  pub accepted_in_range : (in_range version1 p ≡ true) × (t ≡ [])
  accepted_in_range = (written_from.0, ((accepted_when s p t).0 e).1)

  pub accepted_bytes : s ≡ bytes_of version1 p
  accepted_bytes = written_from.1

module _ (p : Problem) (r : in_range version1 p ≡ true) where
  pub bytes_accepted : read_of (bytes_of version1 p) ≡ got p []
  bytes_accepted = (accepted_when (bytes_of version1 p) p []).1 (accepted_again version1 p known1 (in_range_lem version1 p r))

  pub bytes_are_bytes : every is_byte (bytes_of version1 p) ≡ true
  bytes_are_bytes = bytes_low version1 p known1 (in_range_lem version1 p r)

-- a file is accepted exactly if its bytes are those of a problem in range
pub accepted_exactly : (s : List ℕ) (p : Problem) → every is_byte s ≡ true
    → (read_of s ≡ got p [] → (in_range version1 p ≡ true) × (s ≡ bytes_of version1 p)) × ((in_range version1 p ≡ true) × (s ≡ bytes_of version1 p) → read_of s ≡ got p [])
accepted_exactly s p low = (λ e. written_from s p [] low e, λ h. rw h.1 (bytes_accepted p h.0))
