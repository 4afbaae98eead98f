-- What does the limit hold while a loop writes the bounds of the rules to it?
use mathlib.Core.Path.{◌≡◌, sym, ap, ◌∙◌}
use mathlib.Core.List.{List, [], ◌∷◌, ◌++◌, map}
use Prim.Native.Nat.{ℕ, ◌+◌, ◌<◌}
use native.Mathlib.Omega.{arith}
use lib.ListN.{length, get_or, set, length-append}
use lib.Seq.{set-append_left, set_at}
use lib.IntN.{ℤ, pos, neg_ℤ, ◌-ℤ◌}
use Rattle.laws.specs.Z.{Within, back, back_is}
use Rattle.laws.specs.Lists.{from, padded}
use Rattle.laws.proofs.Filled.{length-padded}
use Rattle.meaning.specs.Plan.{Rule}
use Rattle.meaning.specs.Problem.{version1, rule_of}
use Rattle.problem.specs.declared.Problem.{Problem}
use Rattle.problem.specs.Held.{said_at, campaign_of, fault_in}
use Rattle.problem.proofs.Faultless.{right}
use Rattle.lent.specs.Vec.{lanes_of, limit_vec}
use Rattle.rows.proofs.Free.{set_behind}
use Rattle.rows.proofs.Cells.{turned}
use Rattle.slot.specs.Tables.{leasts_in, mosts_in, leasts_of, mosts_of, Tabled}
use Rattle.slot.proofs.Laws.{entry_laid}
use Rattle.slot.proofs.Laid.{part_at}
use Rattle.slot.proofs.Said.{map-map, map-from, leasts_at, mosts_at}
use Rattle.numbers.specs.Whole.{Bounding, limit_lanes}

-- the bounds of the first r rules, the lower ones with their sign turned, all else out of reach
module _ (m : ℕ) (lbs ubs : List ℤ) where
  abbrev high : ℕ → ℤ
  high k = get_or ubs k (pos 0)

  abbrev low : ℕ → ℤ
  low k = neg_ℤ (get_or lbs k (pos 0))

  abbrev lanes : (ℕ → ℤ) → ℕ → List ℤ
  lanes f r = padded 8 (pos 2000000) (map f (from 0 r))

  pub record Bounds (x : List ℤ) (r : ℕ) : Type 0 where
    pub is : x ≡ lanes high r ++ lanes low r ++ (pos 2000000 ∷ [])

  eight : (f : ℕ → ℤ) (r : ℕ) → length (lanes f r) ≡ 8
  eight f r = length-padded (pos 2000000) 8 (map f (from 0 r))

  sixteen : (r k : ℕ) → length (lanes high r ++ lanes low k) ≡ 16
  sixteen r k = length-append (lanes high r) (lanes low k) ∙ omega (arith, eight high r, eight low k)

  bounds_more : {x : List ℤ} {r : ℕ} {a b : ℤ} → Bounds x r → r < 8 → a ≡ get_or ubs r (pos 0) → b ≡ neg_ℤ (get_or lbs r (pos 0)) → Bounds (set (set x r a) (8 + r) b) (r + 1)
  bounds_more {x} {r} {a} {b} s h ea eb =
      let end : List ℤ = pos 2000000 ∷ [] in
      let one : set x r a ≡ lanes high (r + 1) ++ lanes low r ++ end =
      (λ j. set (s.is j) r (ea j)) ∙ set-append_left (lanes high r ++ lanes low r) end r (high r) (omega (arith, sixteen r r))
      ∙ ap (λ (l : List ℤ). l ++ end) (set-append_left (lanes high r) (lanes low r) r (high r) (omega (arith, eight high r)) ∙ ap (λ (l : List ℤ). l ++ lanes low r) (entry_laid (pos 2000000) 8 high r (omega arith))) in
      let two : set (lanes high (r + 1) ++ lanes low r) (8 + r) (low r) ≡ lanes high (r + 1) ++ lanes low (r + 1) =
      ap (λ (k : ℕ). set (lanes high (r + 1) ++ lanes low r) (k + r) (low r)) (sym (eight high (r + 1))) ∙ set_behind (lanes high (r + 1)) (lanes low r) r (low r)
      ∙ ap (λ (l : List ℤ). lanes high (r + 1) ++ l) (entry_laid (pos 2000000) 8 low r (omega arith)) in
      record { is = (λ j. set (one j) (8 + r) (eb j)) ∙ set-append_left (lanes high (r + 1) ++ lanes low r) end (8 + r) (low r) (omega (arith, sixteen (r + 1) r)) ∙ ap (λ (l : List ℤ). l ++ end) two }

  pub bounds_end : {x : List ℤ} {r : ℕ} {c z : ℤ} → Bounds x r → r ≡ m → z ≡ c → set x 16 z ≡ limit_lanes m lbs ubs c
  bounds_end {x} {r} {c} s o e =
      let lows = map-map neg_ℤ (λ (k : ℕ). get_or lbs k (pos 0)) (from 0 m) in
      (λ j. set (s.is j) 16 (e j)) ∙ set_at (lanes high r ++ lanes low r) (pos 2000000) [] c 16 (sixteen r r) ∙ ap (λ (k : ℕ). lanes high k ++ lanes low k ++ (c ∷ [])) o
      ∙ sym (ap (λ (l : List ℤ). lanes high m ++ padded 8 (pos 2000000) l ++ (c ∷ [])) lows)

-- a rule's bounds where they stand in the table
module _ (coefs : List ℤ) {m r : ℕ} (b : Bounding m (leasts_in coefs) (mosts_in coefs)) (h : r < m) where
  few : r < 8
  few = omega (arith, b.few)

  pub least_is : get_or coefs (216 + r) (pos 0) ≡ get_or (leasts_in coefs) r (pos 0)
  least_is = sym (part_at 8 216 coefs (pos 0) r few)

  pub most_is : get_or coefs (224 + r) (pos 0) ≡ get_or (mosts_in coefs) r (pos 0)
  most_is = sym (part_at 8 224 coefs (pos 0) r few)

  pub least_within : Within 200000 (get_or coefs (216 + r) (pos 0))
  least_within = rw least_is (b.low r h)

  pub most_within : Within 200000 (get_or coefs (224 + r) (pos 0))
  most_within = rw most_is (b.high r h)

  -- the rule's own
  pub limit_more : {x : List ℤ} → Bounds m (leasts_in coefs) (mosts_in coefs) x r
      → Bounds m (leasts_in coefs) (mosts_in coefs) (set (set x r (back (get_or coefs (224 + r) (pos 0)))) (8 + r) (back (pos 0 -ℤ back (get_or coefs (216 + r) (pos 0))))) (r + 1)
  limit_more s = bounds_more m (leasts_in coefs) (mosts_in coefs) s few (back_is most_within tt ∙ most_is) (turned least_within tt ∙ ap neg_ℤ least_is)

-- of a problem's rules
module _ (p : Problem) where
  rules_map : (g : Rule → ℤ) → map g (campaign_of p).rules ≡ map (λ k. g (rule_of (said_at p k))) (from 0 p.rules)
  rules_map g = ap (map g) (map-map rule_of (said_at p) (from 0 p.rules)) ∙ map-map g (λ (k : ℕ). rule_of (said_at p k)) (from 0 p.rules)

  module _ {coefs : List ℤ} {values : List ℕ} (t : Tabled p coefs values) where
    pub limit_said : (c : ℤ) → limit_lanes p.rules (leasts_in coefs) (mosts_in coefs) c ≡ limit_vec c (campaign_of p)
    limit_said c =
        let ubs = map-from (λ k. get_or (mosts_of p) k (pos 0)) (λ k. (said_at p k).ub) 0 p.rules (λ k l. mosts_at p k) ∙ sym (rules_map (λ r. r.ub)) in
        let lbs = map-from (λ k. get_or (leasts_of p) k (pos 0)) (λ k. (said_at p k).lb) 0 p.rules (λ k l. leasts_at p k) ∙ sym (rules_map (λ r. r.lb)) in
        (λ j. limit_lanes p.rules (t.leasts_are j) (t.mosts_are j) c) ∙ (λ j. lanes_of (pos 2000000) (ubs j) (lbs j) c)

    pub bounding : fault_in version1 p ≡ 0 → Bounding p.rules (leasts_in coefs) (mosts_in coefs)
    bounding h =
        let ok = right version1 p h in
        let said : Bounding p.rules (leasts_of p) (mosts_of p) = record { few = ok.head.rules; low = λ r l. rw (leasts_at p r) (ok.rule r l).fields.low; high = λ r l. rw (mosts_at p r) (ok.rule r l).fields.high } in
        rw (t.leasts_are, t.mosts_are) said
