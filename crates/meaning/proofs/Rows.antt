-- Does the reader give each number exactly when its row stands?
use mathlib.Core.Path.{◌≡◌, refl, sym, ap, ◌∙◌, subst}
use mathlib.Core.List.{List, [], ◌∷◌, map}
use mathlib.Core.Bool.{Bool, true, false, cond, true≢false}
use Prim.Native.Nat.{ℕ, zero, suc, ◌+◌, ◌*◌, ◌≤◌, ◌<◌}
use native.Mathlib.Nat.{add-zero}
use native.Mathlib.Omega.{arith}
use lib.Dec.{eqb, leb}
use lib.ListN.{length, take, drop}
use lib.Seq.{take-take, take-add, drop_at, get_or-take, length-take-le}
use borrow.Author.Tests.{eqb-true, eqb-false, ne_eqb, leb-true, leb-false, le-leb, lt-leb}
use Rattle.laws.specs.Lists.{every, parted, same}
use Rattle.laws.proofs.Lists.{no_true}
use Rattle.laws.proofs.Parts.{same_true, same_yes, same_no, Fails, fails, every_no, in_no}
use Rattle.meaning.specs.Problem.{Said, Problem, Format, version1, size, right_head, right_set, right_rule}
use Rattle.meaning.specs.File.{little, signed, Got, refused, got, Reader, onward, gives, part, fields_next, checked, refuses, among_body, sum_body, body_next, kind_next, rules_next, mark, format_next, problem_next, ended, read_of}
use Rattle.meaning.proofs.Faultless.{HeadRange, range_test, test_range, zero_in, nonzero_test, test_nonzero, RightFields, fields_test, test_fields, within_size, size_within, each_size, size_each}
use Rattle.meaning.proofs.Table.{Known, known1, slot_count, rule_count, sets_in, behind_sets, weights_in, behind_weights, problem_in, HeadRight, SetsRight, WeightsRight, Kind, kind_among, kind_sum, Rules, no_rules, rule_first, RulesRight, Row, head_ends, mark_wrong, version_wrong, head_wrong, sets_end, set_zero, weights_end, weight_wrong, kind_ends, kind_wrong, body_ends, field_wrong, bytes_left, Accepted, accepted}

-- ---- one step of a reader
-- the next k bytes are there or not
part_cases : {A : Type 0} (P : Got A → Type 0) (k : ℕ) (s : List ℕ) (r : List ℕ → Reader A)
    → (length s < k → P (refused 1)) → (k ≤ length s → P (r (take k s) (drop k s))) → P (onward (part k s) r)
part_cases P k s r a b = go (leb k (length s)) refl
  where
    go : (t : Bool) → leb k (length s) ≡ t → P (onward (cond t (got (take k s) (drop k s)) (refused 1)) r)
    go true e = b (leb-true k (length s) e)
    go false e = a (leb-false k (length s) e)

module _ {A : Type 0} (P : Got A → Type 0) where
  -- n fields are there or not
  fields_cases : {B : Type 0} (n k : ℕ) (g : List ℕ → B) (s : List ℕ) (r : List B → Reader A)
      → (length s < n * k → P (refused 1)) → (n * k ≤ length s → P (r (map g (parted n k (take (n * k) s))) (drop (n * k) s))) → P (onward (fields_next n k g s) r)
  fields_cases {B} n k g s r a b = part_cases (λ (x : Got (List B)). P (onward x r)) (n * k) s (λ c. gives (map g (parted n k c))) a b

  -- a test holds or not
  test_cases : (k : ℕ) (t : Bool) (s : List ℕ) (r : Reader A) → (t ≡ false → P (refused k)) → (t ≡ true → P (r s)) → P (onward (checked k t s) (λ u. r))
  test_cases k true s r a b = b refl
  test_cases k false s r a b = a refl

  -- the version is known or not
  version_cases : (v : ℕ) (s : List ℕ) (r : Format → Reader A)
      → ((v ≡ 1 → ⊥) → P (refused 3)) → ((f : Format) → Known f → v ≡ f.version → P (r f s)) → P (onward (format_next v s) r)
  version_cases v s r a b = go (eqb v 1) refl
    where
      go : (t : Bool) → eqb v 1 ≡ t → P (onward (cond t (gives version1) (refuses 3) s) r)
      go true e = b version1 known1 (eqb-true v 1 e)
      go false e = a (eqb-false v 1 e)

-- the number of the first rule's fault
data Fault (f : Format) (n : ℕ) : ℕ → List ℕ → Type 0 where
  no_kind : Fault f n 1 []
  no_body : {k l : ℕ} {g : List ℕ → Said} {t : List ℕ} → Kind f n k l g → length t < l → Fault f n 1 (k ∷ t)
  another_kind : {k : ℕ} {t : List ℕ} → (k ≡ 1 → ⊥) → (k ≡ 2 → ⊥) → Fault f n 6 (k ∷ t)
  wrong_field : {k l : ℕ} {g : List ℕ → Said} {t : List ℕ} → Kind f n k l g → l ≤ length t → (RightFields f n (g (take l t)) → ⊥) → Fault f n 6 (k ∷ t)

module _ (f : Format) (n : ℕ) where
  -- a rule behind its kind byte is right or not
  module _ {A : Type 0} (P : Got A → Type 0) (k : ℕ) (t : List ℕ) (r : Said → Reader A)
      (wrong : (e : ℕ) → Fault f n e (k ∷ t) → P (refused e))
      (right : (l : ℕ) (g : List ℕ → Said) → Kind f n k l g → l ≤ length t → RightFields f n (g (take l t)) → P (r (g (take l t)) (drop l t))) where
    body_cases : (m : ℕ) (g : List ℕ → Said) → Kind f n k (m + 8 + f.lead_bytes) g → P (onward (body_next f n m g t) r)
    body_cases m g d =
        let l = m + 8 + f.lead_bytes in
        part_cases (λ (x : Got Said). P (onward x r)) l t _
        (λ h. wrong 1 (no_body d h))
        (λ h. test_cases (λ (x : Got Said). P (onward x r)) 6 (right_rule f n (g (take l t))) (drop l t) _
        (λ e. wrong 6 (wrong_field d h (λ w. true≢false (sym (fields_test f n (g (take l t)) w) ∙ e))))
        (λ e. right l g d h (test_fields f n (g (take l t)) e)))

    rule_cases : P (onward (kind_next f n k t) r)
    rule_cases = go (eqb k 1) (eqb k 2) refl refl
      where
        go : (x y : Bool) → eqb k 1 ≡ x → eqb k 2 ≡ y
            → P (onward (cond x (body_next f n (f.set_bytes + 4) (among_body f)) (cond y (body_next f n (n * 2) (sum_body f n)) (refuses 6)) t) r)
        go true y e h = body_cases (f.set_bytes + 4) (among_body f) (rw (eqb-true k 1 e) kind_among)
        go false true e h = body_cases (n * 2) (sum_body f n) (rw (eqb-true k 2 h) kind_sum)
        go false false e h = wrong 6 (another_kind (eqb-false k 1 e) (eqb-false k 2 h))

  -- what comes of reading m rules
  data RulesOutcome (m : ℕ) (t : List ℕ) : Got (List Said) → Type 0 where
    stopped : {j k : ℕ} {rs : List Said} {u : List ℕ} → j < m → Rules f n j t rs u → Fault f n k u → RulesOutcome m t (refused k)
    done : {rs : List Said} {u : List ℕ} → Rules f n m t rs u → RulesOutcome m t (got rs u)

  rules_outcome : (m : ℕ) (t : List ℕ) → RulesOutcome m t (rules_next f n m t)
  rules_outcome zero t = done no_rules
  rules_outcome (suc m) [] = stopped {j = 0} (omega arith) no_rules no_kind
  rules_outcome (suc m) (k ∷ t) =
      rw (le-leb 1 (suc (length t)) (omega arith), add-zero k)
      (rule_cases (RulesOutcome (suc m) (k ∷ t)) k t _
      (λ e w. stopped {j = 0} (omega arith) no_rules w)
      (λ l g d h e. next (rules_next f n m (drop l t)) d h e (rules_outcome m (drop l t))))
    where
      next : {l : ℕ} {g : List ℕ → Said} (x : Got (List Said)) → Kind f n k l g → l ≤ length t → RightFields f n (g (take l t))
          → RulesOutcome m (drop l t) x → RulesOutcome (suc m) (k ∷ t) (onward x (λ rs. gives (g (take l t) ∷ rs)))
      next x d h e (stopped {j = j} b rs w) = stopped {j = suc j} (omega arith) (rule_first d h e rs) w
      next x d h e (done rs) = done (rule_first d h e rs)

  -- ---- reading rules of which these facts are known
  body_read : {k l : ℕ} {g : List ℕ → Said} (t : List ℕ) → Kind f n k l g
      → kind_next f n k t ≡ onward (part l t) (λ b u. onward (checked 6 (right_rule f n (g b)) u) (λ v. gives (g b)))
  body_read t kind_among = refl
  body_read t kind_sum = refl

  rule_read : {k l : ℕ} {g : List ℕ → Said} (t : List ℕ) (m : ℕ) → Kind f n k l g → l ≤ length t → RightFields f n (g (take l t))
      → rules_next f n (suc m) (k ∷ t) ≡ onward (rules_next f n m (drop l t)) (λ rs. gives (g (take l t) ∷ rs))
  rule_read {k} {l} {g} t m d h e = rw (le-leb 1 (suc (length t)) (omega arith), add-zero k, body_read t d, le-leb l (length t) h, fields_test f n (g (take l t)) e)

  fault_read : {k : ℕ} {t : List ℕ} (m : ℕ) → Fault f n k t → rules_next f n (suc m) t ≡ refused k
  fault_read m no_kind = refl
  fault_read m (no_body {k = k} {l = l} {t = t} d h) = rw (le-leb 1 (suc (length t)) (omega arith), add-zero k, body_read t d, lt-leb l (length t) h)
  fault_read m (another_kind {k = k} {t = t} a b) = rw (le-leb 1 (suc (length t)) (omega arith), add-zero k, ne_eqb k 1 a, ne_eqb k 2 b)
  fault_read m (wrong_field {k = k} {l = l} {g = g} {t = t} d h e) =
      rw (le-leb 1 (suc (length t)) (omega arith), add-zero k, body_read t d, le-leb l (length t) h, no_true (right_rule f n (g (take l t))) (λ w. e (test_fields f n (g (take l t)) w)))

  rules_read : {m : ℕ} {t u : List ℕ} {rs : List Said} → Rules f n m t rs u → rules_next f n m t ≡ got rs u
  rules_read no_rules = refl
  rules_read (rule_first {j = j} {t = t} d h e rs) = rule_read t j d h e ∙ rw (rules_read rs)

  rules_stop : {j k : ℕ} {t u : List ℕ} {rs : List Said} (m : ℕ) → j < m → Rules f n j t rs u → Fault f n k u → rules_next f n m t ≡ refused k
  rules_stop zero h rs w = absurd (omega arith)
  rules_stop (suc m) h no_rules w = fault_read m w
  rules_stop (suc m) h (rule_first {t = t} d b e rs) w = rule_read t m d b e ∙ rw (rules_stop m (omega arith) rs w)

-- ---- reading the head
format_read : {f : Format} {v : ℕ} (s : List ℕ) → Known f → v ≡ f.version → format_next v s ≡ got f s
format_read s known1 e = rw e

-- the version, in the head and in the file
version_in : (s : List ℕ) → 7 ≤ length s → take 2 (drop 3 (take 7 s)) ≡ take 2 (drop 3 s)
version_in s h = rw (take-add 3 4 s, drop_at (take 3 s) (take 4 (drop 3 s)) 3 (length-take-le 3 s (omega arith))) (take-take 2 4 (drop 3 s) (omega arith))

head_read : {f : Format} (s : List ℕ) → 7 ≤ length s → take 3 s ≡ mark → Known f → little (take 2 (drop 3 s)) ≡ f.version
    → read_of s ≡ problem_next f (slot_count s) (rule_count s) (drop 7 s)
head_read {f} s c m k v =
    rw (le-leb 7 (length s) c, take-take 3 7 s (omega arith), same_yes (take 3 s) mark m, version_in s c, format_read (drop 7 s) k v, get_or-take 7 s 5 0 (omega arith), get_or-take 7 s 6 0 (omega arith))

right_head_lem : {s : List ℕ} {f : Format} → HeadRight s f → read_of s ≡ problem_next f (slot_count s) (rule_count s) (drop 7 s)
right_head_lem {s} h = head_read s h.complete h.marked h.known h.version

-- ---- a row gives its number
no_range : (n m : ℕ) → (HeadRange n m → ⊥) → right_head n m ≡ false
no_range n m h = no_true (right_head n m) (λ e. h (test_range n m e))

module _ (s : List ℕ) where
  -- the bytes of the step sets and of the weights are there
  sets_there : (f : Format) → slot_count s * f.set_bytes ≤ length (drop 7 s) → leb (slot_count s * f.set_bytes) (length (drop 7 s)) ≡ true
  sets_there f h = le-leb (slot_count s * f.set_bytes) (length (drop 7 s)) h

  weights_there : (f : Format) → slot_count s * 4 ≤ length (behind_sets s f) → leb (slot_count s * 4) (length (behind_sets s f)) ≡ true
  weights_there f h = le-leb (slot_count s * 4) (length (behind_sets s f)) h

  -- and the step sets pass their test
  sets_right : (f : Format) → SetsRight s f → every right_set (sets_in s f) ≡ true
  sets_right f r = nonzero_test (sets_in s f) r.allowing

  right_weights : (f : Format) → WeightsRight s f
      → read_of s ≡ onward (rules_next f (slot_count s) (rule_count s) (behind_weights s f)) (λ rs u. onward (ended u) (λ v. gives (problem_in s f rs)))
  right_weights f r =
      right_head_lem r.sets.head ∙ rw (range_test r.sets.head.range, sets_there f r.sets.complete, sets_right f r.sets, weights_there f r.complete, each_size f.weight (weights_in s f) r.range)

  fault_number : {f : Format} {j k : ℕ} {rs : List Said} {t : List ℕ} → RulesRight s f j rs t → j < rule_count s → Fault f (slot_count s) k t → read_of s ≡ refused k
  fault_number {f} r h w = right_weights f r.weights ∙ rw (rules_stop f (slot_count s) (rule_count s) h r.rules w)

  row_read : {k : ℕ} → Row s k → read_of s ≡ refused k
  row_read (head_ends h) = rw (lt-leb 7 (length s) h)
  row_read (mark_wrong c h) = rw (le-leb 7 (length s) c, take-take 3 7 s (omega arith), same_no (take 3 s) mark h)
  row_read (version_wrong c m h) =
      rw (le-leb 7 (length s) c, take-take 3 7 s (omega arith), same_yes (take 3 s) mark m, version_in s c, ne_eqb (little (take 2 (drop 3 s))) 1 h)
  row_read (head_wrong c m k v h) = head_read s c m k v ∙ rw (no_range (slot_count s) (rule_count s) h)
  row_read (sets_end {f = f} r h) = right_head_lem r ∙ rw (range_test r.range, lt-leb (slot_count s * f.set_bytes) (length (drop 7 s)) h)
  row_read (set_zero {f = f} r c i) = right_head_lem r ∙ rw (range_test r.range, sets_there f c, in_no right_set i refl)
  row_read (weights_end {f = f} r h) =
      right_head_lem r.head ∙ rw (range_test r.head.range, sets_there f r.complete, sets_right f r, lt-leb (slot_count s * 4) (length (behind_sets s f)) h)
  row_read (weight_wrong {f = f} {w = w} r c i h) =
      right_head_lem r.head ∙ rw (range_test r.head.range, sets_there f r.complete, sets_right f r, weights_there f c, in_no (size f.weight) i (no_true (size f.weight w) (λ e. h (size_within f.weight w e))))
  row_read (kind_ends r h) = fault_number r h no_kind
  row_read (kind_wrong r h a b) = fault_number r h (another_kind a b)
  row_read (body_ends r h d l) = fault_number r h (no_body d l)
  row_read (field_wrong r h d l e) = fault_number r h (wrong_field d l e)
  row_read (bytes_left {f = f} {t = t} r h) = right_weights f r.weights ∙ rw (rules_read f (slot_count s) r.rules, ne_eqb (length t) 0 (omega arith))

  right_read : {f : Format} {rs : List Said} → RulesRight s f (rule_count s) rs [] → read_of s ≡ got (problem_in s f rs) []
  right_read {f} r = right_weights f r.weights ∙ rw (rules_read f (slot_count s) r.rules)

  -- ---- every file is right or has its row
  pub data Outcome : Got Problem → Type 0 where
    refusal : {k : ℕ} → Row s k → Outcome (refused k)
    right : {p : Problem} → Accepted s p → Outcome (got p [])

  fault_row : {f : Format} {j k : ℕ} {rs : List Said} {t : List ℕ} → RulesRight s f j rs t → j < rule_count s → Fault f (slot_count s) k t → Row s k
  fault_row r h no_kind = kind_ends r h
  fault_row r h (another_kind a b) = kind_wrong r h a b
  fault_row r h (no_body d l) = body_ends r h d l
  fault_row r h (wrong_field d l e) = field_wrong r h d l e

  after_rules : {f : Format} (x : Got (List Said)) → WeightsRight s f → RulesOutcome f (slot_count s) (rule_count s) (behind_weights s f) x
      → Outcome (onward x (λ rs u. onward (ended u) (λ v. gives (problem_in s f rs))))
  after_rules x w (stopped h rs e) = refusal (fault_row (record { weights = w; rules = rs }) h e)
  after_rules x w (done {u = []} rs) = right (accepted (record { weights = w; rules = rs }))
  after_rules x w (done {u = b ∷ u} rs) = rw (ne_eqb (suc (length u)) 0 (omega arith)) (refusal (bytes_left (record { weights = w; rules = rs }) (omega arith)))

  weight_row : {f : Format} → SetsRight s f → slot_count s * 4 ≤ length (behind_sets s f) → Fails (size f.weight) (weights_in s f) → Row s 5
  weight_row {f} r c (fails {x = w} i e) = weight_wrong r c i (λ h. true≢false (sym (within_size f.weight w h) ∙ e))

  behind_version : {f : Format} → 7 ≤ length s → take 3 s ≡ mark → Known f → little (take 2 (drop 3 s)) ≡ f.version
      → Outcome (problem_next f (slot_count s) (rule_count s) (drop 7 s))
  behind_version {f} c m k v =
      test_cases Outcome 4 (right_head (slot_count s) (rule_count s)) (drop 7 s) _
      (λ e. refusal (head_wrong c m k v (λ h. true≢false (sym (range_test h) ∙ e))))
      (λ e.
      let h : HeadRight s f = record { complete = c; marked = m; known = k; version = v; range = test_range (slot_count s) (rule_count s) e } in
      fields_cases Outcome (slot_count s) f.set_bytes little (drop 7 s) _
      (λ l. refusal (sets_end h l))
      (λ d.
      test_cases Outcome 5 (every right_set (sets_in s f)) (behind_sets s f) _
      (λ q. refusal (set_zero h d (zero_in (every_no right_set (sets_in s f) q))))
      (λ q.
      let r : SetsRight s f = record { head = h; complete = d; allowing = test_nonzero (sets_in s f) q } in
      fields_cases Outcome (slot_count s) 4 (signed 4) (behind_sets s f) _
      (λ l. refusal (weights_end r l))
      (λ b.
      test_cases Outcome 5 (every (size f.weight) (weights_in s f)) (behind_weights s f) _
      (λ w. refusal (weight_row r b (every_no (size f.weight) (weights_in s f) w)))
      (λ w. after_rules _ (record { sets = r; complete = b; range = size_each f.weight (weights_in s f) w }) (rules_outcome f (slot_count s) (rule_count s) (behind_weights s f)))))))

  pub outcome : Outcome (read_of s)
  outcome =
      part_cases Outcome 7 s _
      (λ l. refusal (head_ends l))
      (λ c.
      rw (take-take 3 7 s (omega arith), version_in s c, get_or-take 7 s 5 0 (omega arith), get_or-take 7 s 6 0 (omega arith))
      (test_cases Outcome 2 (same (take 3 s) mark) (drop 7 s) _
      (λ e. refusal (mark_wrong c (λ m. true≢false (sym (same_yes (take 3 s) mark m) ∙ e))))
      (λ e.
      let m = same_true (take 3 s) mark e in
      version_cases Outcome (little (take 2 (drop 3 s))) (drop 7 s) _ (λ h. refusal (version_wrong c m h)) (λ f k v. behind_version c m k v))))

-- ---- the table, and the files that have no row
module _ {A : Type 0} where
  abbrev number : Got A → ℕ
  number (refused k) = k
  number (got a s) = 0

  abbrev accepts : Got A → Bool
  accepts (refused k) = false
  accepts (got a s) = true

  abbrev value : A → Got A → A
  value d (refused k) = d
  value d (got a s) = a

  abbrev left : Got A → List ℕ
  left (refused k) = []
  left (got a s) = s

-- "given exactly when no earlier fault stands and"
pub refused_exactly : (s : List ℕ) (k : ℕ) → (read_of s ≡ refused k → Row s k) × (Row s k → read_of s ≡ refused k)
refused_exactly s k = (λ e. only (read_of s) (outcome s) e, row_read s)
  where
    only : (x : Got Problem) → Outcome s x → x ≡ refused k → Row s k
    only x (refusal r) e = subst (Row s) (ap number e) r
    only x (right r) e = absurd (true≢false (ap accepts e))

-- the numbers exclude each other
pub row_one : (s : List ℕ) (j k : ℕ) → Row s j → Row s k → j ≡ k
row_one s j k a b = ap number (sym (row_read s a) ∙ row_read s b)

-- no other number is given
pub refused_range : (s : List ℕ) (k : ℕ) → read_of s ≡ refused k → (1 ≤ k) × (k ≤ 7)
refused_range s k e = row_range ((refused_exactly s k).0 e)
  where
    row_range : {j : ℕ} → Row s j → (1 ≤ j) × (j ≤ 7)
    row_range (head_ends h) = omega arith
    row_range (mark_wrong c h) = omega arith
    row_range (version_wrong c m h) = omega arith
    row_range (head_wrong c m v w h) = omega arith
    row_range (sets_end r h) = omega arith
    row_range (set_zero r c h) = omega arith
    row_range (weights_end r h) = omega arith
    row_range (weight_wrong r c h w) = omega arith
    row_range (kind_ends r h) = omega arith
    row_range (kind_wrong r h a b) = omega arith
    row_range (body_ends r h d l) = omega arith
    row_range (field_wrong r h d l q) = omega arith
    row_range (bytes_left r h) = omega arith

-- and no other file is accepted than those whose parts are all right
pub accepted_when : (s : List ℕ) (p : Problem) (t : List ℕ) → (read_of s ≡ got p t → Accepted s p × (t ≡ [])) × (Accepted s p → read_of s ≡ got p [])
accepted_when s p t = (λ e. only (read_of s) (outcome s) e, whole p)
  where
    only : (x : Got Problem) → Outcome s x → x ≡ got p t → Accepted s p × (t ≡ [])
    only x (refusal r) e = absurd (true≢false (sym (ap accepts e)))
    only x (right r) e = (subst (Accepted s) (ap (value p) e) r, sym (ap left e))

    whole : (q : Problem) → Accepted s q → read_of s ≡ got q []
    whole q (accepted r) = right_read s r
