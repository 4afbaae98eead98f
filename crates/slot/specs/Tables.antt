-- What do the tables of a problem hold: all that the passes and the walk read of it?
use Rattle.std.specs.Prelude.{◌≡◌, List, map, ℕ, length, take, drop, ℤ, pos}
use Rattle.laws.specs.Lists.{gather, from, padded}
use Rattle.problem.specs.declared.Problem.{Problem}
use Rattle.problem.specs.declared.Terms.{Terms}
use Rattle.slot.specs.Rows.{coef_parts, value_parts}

-- the coefficient of each rule in each of n slots, eight to a slot, zero past them
abbrev pub coef_table : ℕ → ℕ → List Terms → List ℤ
coef_table n m terms = padded 192 (pos 0) (gather (λ i. coef_parts m i terms) (from 0 n))

-- the same of the values that it counts
abbrev pub value_table : ℕ → ℕ → List Terms → List ℕ
value_table n m terms = padded 192 0 (gather (λ i. value_parts m i terms) (from 0 n))

-- what the rules count in each of 24 slots, eight to a slot; behind it the weights, lbs and ubs, and the step sets
abbrev pub coefs_in : List ℤ → List ℤ
coefs_in x = take 192 x

abbrev pub weights_in : List ℤ → List ℤ
weights_in x = take 24 (drop 192 x)

abbrev pub leasts_in : List ℤ → List ℤ
leasts_in x = take 8 (drop 216 x)

abbrev pub mosts_in : List ℤ → List ℤ
mosts_in x = take 8 (drop 224 x)

abbrev pub values_in : List ℕ → List ℕ
values_in x = take 192 x

abbrev pub sets_in : List ℕ → List ℕ
sets_in x = take 24 (drop 192 x)

-- the lbs of a problem's rules, and the ubs
abbrev pub leasts_of : Problem → List ℤ
leasts_of p = map (λ b. b.lb) p.bounds

abbrev pub mosts_of : Problem → List ℤ
mosts_of p = map (λ b. b.ub) p.bounds

-- the tables are those of the problem
pub record Tabled (p : Problem) (coefs : List ℤ) (values : List ℕ) : Type 0 where
  pub long : length coefs ≡ 232
  pub wide : length values ≡ 216
  pub coefs_are : coefs_in coefs ≡ coef_table p.slots p.rules p.terms
  pub weights_are : weights_in coefs ≡ p.weights
  pub leasts_are : leasts_in coefs ≡ leasts_of p
  pub mosts_are : mosts_in coefs ≡ mosts_of p
  pub values_are : values_in values ≡ value_table p.slots p.rules p.terms
  pub sets_are : sets_in values ≡ p.sets
