-- What does a level of the trail hold, and what stays below it?
use mathlib.Core.Path.{◌≡◌, sym, ap, ◌∙◌}
use mathlib.Core.List.{List, [], ◌∷◌, ◌++◌, append_assoc}
use Prim.Native.Nat.{ℕ, suc, ◌+◌, ◌*◌, ◌<◌}
use native.Mathlib.Numerals.{add-one}
use native.Mathlib.Omega.{arith}
use lib.ListN.{length, get_or, take, drop, length-drop, length-append}
use lib.Seq.{length-take-le, take-take, take_at, get_or-take, get_or-drop, get_or_at, length-paste}
use lib.IntN.{ℤ, pos}
use Rattle.laws.proofs.Filled.{take_within, part_pasted}
use Rattle.step.specs.Steps.{totals_at, budget_at, rest_at, here_at, trod}

-- ---- trails that agree in their first n numbers agree in what these say
agree : {B : Type 0} (n : ℕ) (f : List ℤ → B) → ((l : List ℤ) → f (take n l) ≡ f l) → (x y : List ℤ) → take n x ≡ take n y → f x ≡ f y
agree n f own x y e = sym (own x) ∙ ap f e ∙ own y

pub level_totals : (i : ℕ) (x y : List ℤ) → take ((i + 1) * 9) x ≡ take ((i + 1) * 9) y → totals_at i x ≡ totals_at i y
level_totals i = agree ((i + 1) * 9) (totals_at i) (λ l. take_within (i * 9) 8 ((i + 1) * 9) l (omega arith))

pub level_budget : (i : ℕ) (x y : List ℤ) → take ((i + 1) * 9) x ≡ take ((i + 1) * 9) y → budget_at i x ≡ budget_at i y
level_budget i = agree ((i + 1) * 9) (budget_at i) (λ l. get_or-take ((i + 1) * 9) l (i * 9 + 8) (pos 0) (omega arith))

pub below : (i : ℕ) (x y : List ℤ) → take ((suc i + 1) * 9) x ≡ take ((suc i + 1) * 9) y → take ((i + 1) * 9) x ≡ take ((i + 1) * 9) y
below i = agree ((suc i + 1) * 9) (take ((i + 1) * 9)) (λ l. take-take ((i + 1) * 9) ((suc i + 1) * 9) l (omega arith))

-- a level has eight totals
pub totals_long : (i : ℕ) → i < 24 → (x : List ℤ) → length x ≡ 225 → length (totals_at i x) ≡ 8
totals_long i h x e = length-take-le 8 (drop (i * 9) x) (rw (length-drop (i * 9) x, e) (omega arith))

-- ---- the trail with the level behind step v of slot i
module _ (coefs : List ℤ) (values : List ℕ) (i v : ℕ) (trail : List ℤ) (few : i < 24) (long : length trail ≡ 225) (eight : length (here_at coefs values i v trail) ≡ 8) where
  -- the level that is laid
  abbrev level : List ℤ
  level = here_at coefs values i v trail ++ (rest_at coefs i v trail ∷ [])

  level_long : length level ≡ 9
  level_long = omega (arith, length-append (here_at coefs values i v trail) (rest_at coefs i v trail ∷ []), eight)

  -- it stands where the next slot has its own
  laid : take 9 (drop (suc i * 9) (trod coefs values i v trail)) ≡ level
  laid = rw (← add-one i) (part_pasted trail ((i + 1) * 9) level 9 (omega arith) level_long)

  pub trod_below : take ((i + 1) * 9) (trod coefs values i v trail) ≡ take ((i + 1) * 9) trail
  trod_below =
      let at = (i + 1) * 9 in
      ap (take at) (append_assoc (take at trail) (take 9 level) (drop (at + 9) trail))
      ∙ take_at (take at trail) (take 9 level ++ drop (at + 9) trail) at (length-take-le at trail (omega arith))

  pub trod_totals : totals_at (suc i) (trod coefs values i v trail) ≡ here_at coefs values i v trail
  trod_totals =
      sym (take-take 8 9 (drop (suc i * 9) (trod coefs values i v trail)) (omega arith))
      ∙ ap (take 8) laid
      ∙ take_at (here_at coefs values i v trail) (rest_at coefs i v trail ∷ []) 8 eight

  pub trod_budget : budget_at (suc i) (trod coefs values i v trail) ≡ rest_at coefs i v trail
  trod_budget =
      let rest = drop (suc i * 9) (trod coefs values i v trail) in
      sym (get_or-take 9 rest 8 (pos 0) (omega arith) ∙ get_or-drop (suc i * 9) (trod coefs values i v trail) 8 (pos 0))
      ∙ ap (λ l. get_or l 8 (pos 0)) laid
      ∙ get_or_at (here_at coefs values i v trail) (rest_at coefs i v trail) [] (pos 0) 8 eight

  pub trod_long : length (trod coefs values i v trail) ≡ 225
  trod_long = length-paste trail ((i + 1) * 9) level 9 (omega arith) (omega (arith, level_long)) ∙ long
