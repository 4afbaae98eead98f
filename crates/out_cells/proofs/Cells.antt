-- What stands in `out` behind a call?
use Rattle.std.proofs.Common.{◌≡◌, refl, sym, ap, ◌∙◌, arith, ℕ, zero, suc, ◌+◌, ◌-◌, List, [], ◌∷◌, ◌++◌, length, take}
use Rattle.std.specs.Prelude.{replicate, min}
use Rattle.std.proofs.lemmas.List.{take_min}
use Rattle.laws.specs.Lists.{padded}
use Rattle.laws.proofs.Filled.{padded_none}

-- as many of l as there is room for, and d behind them
filled : {A : Type 0} (n : ℕ) (d : A) (l : List A) → take n l ++ replicate (n - length l) d ≡ padded n d l
filled zero d l = let none : 0 - length l ≡ 0 = omega arith in rw none refl
filled (suc n) d [] = let all : suc n - 0 ≡ suc n = omega arith in rw all (sym (padded_none d (suc n)))
filled {A} (suc n) d (x ∷ l) = let less : suc n - suc (length l) ≡ n - length l = omega arith in rw less (ap (λ (r : List A). x ∷ r) (filled n d l))

-- of n cells k are the front
pub padded_parts : {A : Type 0} (n k r : ℕ) (d : A) (l : List A) → k ≡ min n (length l) → r + k ≡ n → take k l ++ replicate r d ≡ padded n d l
padded_parts {A} n k r d l e h =
    let rest : r ≡ n - length l = omega arith in
    (λ i. take (e i) l ++ replicate (rest i) d) ∙ ap (λ (f : List A). f ++ replicate (n - length l) d) (take_min n l) ∙ filled n d l
