-- What do the tests of a step say, and what are the totals behind it?
use mathlib.Core.Path.{◌≡◌, refl, sym, ap, ◌∙◌}
use mathlib.Core.List.{List, [], ◌∷◌}
use mathlib.Core.Bool.{Bool, true, false, not, ◌&&◌, cond, true≢false}
use Prim.Native.Nat.{ℕ, ◌+◌, ◌*◌, ◌/◌, ◌^◌, ◌≤◌, ◌<◌}
use native.Mathlib.Nat.{mod-lt}
use native.Mathlib.Omega.{arith}
use lib.Dec.{T, leb}
use lib.ListN.{length, get_or, take, drop}
use lib.IntN.{ℤ, pos, ◌+ℤ◌, ◌-ℤ◌}
use lib.Signed.{le_z, lt_z}
use mir.Syntax.{w32}
use mir.Val.{SFits}
use Rattle.laws.specs.Z.{Within, zarith, parts, dif, back, back_is, widen, fits32}
use Rattle.laws.specs.Lists.{every, from}
use Rattle.laws.proofs.Lists.{cond_first, cond_second}
use Rattle.laws.proofs.Left.{places_go, places_stop, places_end}
use Rattle.laws.proofs.Each.{Each, each_take, each_drop}
use Rattle.laws.proofs.Filled.{take_within}
use Rattle.lanes.proofs.Laws.{length-zipped, zipped_at, each_sums}
use Rattle.lent.specs.Lanes.{sums}
use Rattle.slot.specs.Rows.{lane_of, lanes_of}
use Rattle.slot.specs.Tables.{coefs_in, values_in}
use Rattle.slot.proofs.Laid.{part_long, part_at}
use Rattle.slot.proofs.Laws.{lane_within, lanes_long, lanes_at}
use Rattle.step.specs.Steps.{totals_at, here_at}

-- ---- one rule's test: the totals with its low up and its high up
abbrev pub keeps_at : List ℤ → List ℤ → List ℤ → ℕ → List ℤ → ℕ → Bool
keeps_at lb ub cells at totals r =
    le_z (get_or totals r (pos 0) +ℤ get_or cells (at + 4 * r + 3) (pos 0)) (get_or ub r (pos 0)) && le_z (get_or lb r (pos 0)) (get_or totals r (pos 0) +ℤ get_or cells (at + 4 * r + 4) (pos 0))

-- ---- a flag that falls at the first rule that fails, and stays down: what it tells of the places below k
abbrev pub Flagged : (ℕ → Bool) → ℕ → ℕ → Bool → Type 0
Flagged p m k t = (t ≡ false → false ≡ every p (from 0 m)) × (t ≡ true → every p (from 0 m) ≡ every p (drop k (from 0 m)))

module _ (p : ℕ → Bool) (m k : ℕ) where
  pub flagged_falls : (t : Bool) → k < m → p k ≡ false → Flagged p m k t → Flagged p m (k + 1) false
  flagged_falls true h e f = (λ _. places_stop p m k h e (f.1 refl), λ g. absurd (true≢false (sym g)))
  flagged_falls false h e f = (λ _. f.0 refl, λ g. absurd (true≢false (sym g)))

  pub flagged_stands : (t : Bool) → k < m → p k ≡ true → Flagged p m k t → Flagged p m (k + 1) t
  flagged_stands t h e f = (f.0, λ g. places_go p m k h e (f.1 g))

  pub flagged_ends : (t : Bool) → m ≤ k → Flagged p m k t → t ≡ every p (from 0 m)
  flagged_ends true h f = places_end p m k h (f.1 refl)
  flagged_ends false h f = f.0 refl

-- what an operation makes of two i32, where that is one
module _ (f : ℤ → ℤ → ℤ) {t x : ℤ} {m n k : ℕ} (h : Within m t) (l : Within n x) (w : Within k (f t x)) (a : T (leb m 2147483647)) (b : T (leb n 2147483647)) (c : T (leb k 2147483647)) where
  both : f (back t) (back x) ≡ f t x
  both = λ i. f (back_is h a i) (back_is l b i)

  pub both_fits : SFits w32 (f (back t) (back x))
  both_fits = rw both (fits32 (widen c w))

  pub both_is : back (f (back t) (back x)) ≡ f t x
  both_is = rw both (back_is w c)

-- at most is not above
pub le_not : (a b : ℤ) (t : Bool) → lt_z a b ≡ t → le_z b a ≡ not t
le_not a b true e = omega (zarith, e)
le_not a b false e = omega (zarith, e)

-- a difference in range
pub less_within : {t x : ℤ} {m n : ℕ} → Within m t → Within n x → Within (m + n) (t -ℤ x)
less_within {t} {x} h l = record { size = omega (arith, dif t x, parts t, parts x, parts (t -ℤ x), h.size, l.size) }

-- ---- the totals behind a step
module _ (coefs : List ℤ) (values : List ℕ) (i v : ℕ) (trail : List ℤ) where
  -- the parts of the slot, and the totals before it
  abbrev cs : List ℤ
  cs = take 8 (drop (i * 8) coefs)

  abbrev bs : List ℕ
  bs = take 8 (drop (i * 8) values)

  abbrev ts : List ℤ
  ts = totals_at i trail

  module _ (few : i < 24) where
    here_is : here_at coefs values i v trail ≡ sums ts (lanes_of cs bs v)
    here_is = rw (take_within (i * 8) 8 192 coefs (omega arith), take_within (i * 8) 8 192 values (omega arith)) refl

    module _ (a : length coefs ≡ 232) (b : length values ≡ 216) (c : length trail ≡ 225) where
      coefs_eight : length cs ≡ 8
      coefs_eight = part_long 8 (i * 8) coefs (omega arith)

      values_eight : length bs ≡ 8
      values_eight = part_long 8 (i * 8) values (omega arith)

      totals_eight : length ts ≡ 8
      totals_eight = part_long 8 (i * 9) trail (omega arith)

      lanes_eight : length (lanes_of cs bs v) ≡ 8
      lanes_eight = lanes_long cs bs v (coefs_eight ∙ sym values_eight) ∙ coefs_eight

      pub here_long : length (here_at coefs values i v trail) ≡ 8
      here_long = ap length here_is ∙ length-zipped ◌+ℤ◌ ts (lanes_of cs bs v) (totals_eight ∙ sym lanes_eight) ∙ totals_eight

      pub here_at_lem : (r : ℕ) → r < 8 → get_or (here_at coefs values i v trail) r (pos 0) ≡ get_or trail (i * 9 + r) (pos 0) +ℤ lane_of (get_or coefs (i * 8 + r) (pos 0)) (get_or values (i * 8 + r) 0) v
      here_at_lem r h =
          ap (λ l. get_or l r (pos 0)) here_is
          ∙ zipped_at ◌+ℤ◌ ts (lanes_of cs bs v) r (omega (arith, totals_eight)) (omega (arith, lanes_eight))
          ∙ (λ t. get_or ts r (pos 0) +ℤ lanes_at cs bs v r (omega (arith, coefs_eight)) (coefs_eight ∙ sym values_eight) t)
          ∙ (λ t. part_at 8 (i * 9) trail (pos 0) r h t +ℤ lane_of (part_at 8 (i * 8) coefs (pos 0) r h t) (part_at 8 (i * 8) values 0 r h t) v)

-- lanes of coefficients within 1,000
lanes_within : (cs : List ℤ) (bs : List ℕ) (v : ℕ) → v < 8 → Each (Within 1000) cs → Each (Within 7001) (lanes_of cs bs v)
lanes_within [] bs v h e = tt
lanes_within (c ∷ cs) [] v h e = tt
lanes_within (c ∷ cs) (b ∷ bs) v h e = (lane_within e.0 h (mod-lt (b / 2 ^ v) (omega arith)), lanes_within cs bs v h e.1)

-- the totals grow by no more
pub here_within : (m : ℕ) (coefs : List ℤ) (values : List ℕ) (i v : ℕ) (trail : List ℤ) → v < 8 → Each (Within 1000) (coefs_in coefs) → Each (Within m) (totals_at i trail) → Each (Within (m + 7001)) (here_at coefs values i v trail)
here_within m coefs values i v trail h e f =
    let cs = take 8 (drop (i * 8) (coefs_in coefs)) in
    let bs = take 8 (drop (i * 8) (values_in values)) in
    each_sums m 7001 (totals_at i trail) (lanes_of cs bs v) f (lanes_within cs bs v h (each_take (Within 1000) 8 (drop (i * 8) (coefs_in coefs)) (each_drop (Within 1000) (i * 8) (coefs_in coefs) e)))

-- ---- whether the walk goes on, and the trail where it does and where it does not
pub goes_not : {A : Type 0} (t : Bool) (a b : A) → t ≡ false → (false ≡ t) × (b ≡ cond t a b)
goes_not t a b e = (sym e, sym (cond_second t a b e))

pub goes_so : {A : Type 0} (t : Bool) (a b : A) → t ≡ true → (true ≡ t) × (a ≡ cond t a b)
goes_so t a b e = (sym e, sym (cond_first t a b e))
