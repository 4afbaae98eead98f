-- What is a campaign, which plans are lawful, what do they cost, and in which order do they stand?
use Rattle.std.specs.Prelude.{List, [], ◌∷◌, map, Bool, true, false, ◌&&◌, ◌||◌, cond, ℕ, suc, ◌/◌, ◌%◌, ◌^◌, eqb, ltb, length, ℤ, pos, ◌+ℤ◌}
use Rattle.std.proofs.Math.Option.{Option, none, some}
use Rattle.std.specs.Int.Signed.{le_z, lt_z}
use Rattle.laws.specs.Lists.{keep, every, gather, from}

-- a rule: its "share of slot i and step v", lb, ub, and the total that it starts with
pub record Rule : Type 0 where
  pub share : ℕ → ℕ → ℤ
  pub lb : ℤ
  pub ub : ℤ
  pub start : ℤ

-- a campaign: the number of steps, "one step set per slot", the price of slot i and step v, the rules
pub record Campaign : Type 0 where
  pub steps : ℕ
  pub sets : List ℕ
  pub price : ℕ → ℕ → ℤ
  pub rules : List Rule

-- n
abbrev pub slots : Campaign → ℕ
slots q = length q.sets

-- bit v of s
abbrev pub bit : ℕ → ℕ → Bool
bit s v = eqb (s / 2 ^ v % 2) 1

-- "bit v set: step v allowed", v one of the first k steps
abbrev pub allows : ℕ → ℕ → ℕ → Bool
allows k s v = ltb v k && bit s v

-- a plan is "n steps, each from its slot's own set"
abbrev pub allowed : ℕ → List ℕ → List ℕ → Bool
allowed k [] [] = true
allowed k [] (v ∷ p) = false
allowed k (s ∷ ss) [] = false
allowed k (s ∷ ss) (v ∷ p) = allows k s v && allowed k ss p

-- the sum of f over the steps p, from slot i on
abbrev pub summed : (ℕ → ℕ → ℤ) → ℕ → List ℕ → ℤ
summed f i [] = pos 0
summed f i (v ∷ p) = f i v +ℤ summed f (suc i) p

-- what the steps p, from slot i on, add to a rule's total
abbrev pub total : Rule → ℕ → List ℕ → ℤ
total r i p = summed r.share i p

-- the total "lies in lb..ub"
abbrev pub keeps_rule : List ℕ → Rule → Bool
keeps_rule p r = let t = r.start +ℤ total r 0 p in le_z r.lb t && le_z t r.ub

-- "lawful if it keeps every rule"
abbrev pub lawful : Campaign → List ℕ → Bool
lawful q p = allowed q.steps q.sets p && every (keeps_rule p) q.rules

-- "its cost is the sum of weight times step": of the prices
abbrev pub cost : Campaign → List ℕ → ℤ
cost q p = summed q.price 0 p

-- the steps of a set, rising
abbrev pub steps_of : ℕ → ℕ → List ℕ
steps_of k s = keep (bit s) (from 0 k)

-- all plans over the sets, in dictionary order
abbrev pub plans : ℕ → List ℕ → List (List ℕ)
plans k [] = [] ∷ []
plans k (s ∷ ss) = let rest = plans k ss in gather (λ v. map (λ p. v ∷ p) rest) (steps_of k s)

-- all lawful plans, in dictionary order
abbrev pub lawfuls : Campaign → List (List ℕ)
lawfuls q = keep (lawful q) (plans q.steps q.sets)

-- "strictly after the start in dictionary order (byte by byte)"; the empty start stands before every plan
abbrev pub after : List ℕ → List ℕ → Bool
after [] [] = false
after [] (v ∷ p) = true
after (u ∷ s) [] = false
after (u ∷ s) (v ∷ p) = ltb u v || (eqb u v && after s p)

-- the first costs less than the second
abbrev pub costs_less : Campaign → List ℕ → List ℕ → Bool
costs_less q p b = lt_z (cost q p) (cost q b)

-- the cheapest of some plans and, "of equal ones, the first"
abbrev pub cheaper : Campaign → List ℕ → Option (List ℕ) → Option (List ℕ)
cheaper q p none = some p
cheaper q p (some b) = cond (costs_less q b p) (some b) (some p)

-- none of no plans
abbrev pub cheapest : Campaign → List (List ℕ) → Option (List ℕ)
cheapest q [] = none
cheapest q (p ∷ ps) = cheaper q p (cheapest q ps)
