-- What is the greatest of a slot's steps, and the greatest size of a share over them, and what does the guard answer?
use Rattle.std.specs.Prelude.{◌≡◌, List, [], ◌∷◌, Bool, cond, ℕ, ◌≤◌, ◌<◌, leb, length, pos, Result, Ok, Err, ⊤}
use Rattle.meaning.specs.Plan.{steps_of}
use Rattle.meaning.specs.Problem.{step_count, limit, share_of, right_head, first_fault}
use Rattle.meaning.specs.Running.{greatest_size, sizes, guard}
use Rattle.refusal.specs.declared.Refusal.{Refusal}
use Rattle.refusal.specs.Refusals.{number_of}
use Rattle.problem.specs.Held.{said_terms, campaign_of}
use Rattle.problem.specs.declared.Problem.{Problem}
use Rattle.problem.specs.declared.Terms.{Terms}

-- the greatest of a set, 0 where it is empty; 7 bounds it
pub record LastStep (set r : ℕ) : Type 0 where
  pub is : r ≡ greatest_size pos (steps_of step_count set)
  pub most : r ≤ 7

-- of the share that the terms say, of however many slots, over the steps of a set; seven times 2,147,483,648 bounds it
pub record GreatestSize (t : Terms) (i set r : ℕ) : Type 0 where
  pub is : (n : ℕ) → i < n → r ≡ greatest_size (share_of (said_terms n t) i) (steps_of step_count set)
  pub most : r ≤ 15032385536

-- the sum over the slots of these sets, and whether it is within the limit
abbrev pub size_in : List ℕ → Terms → ℕ
size_in ss t = sizes step_count (share_of (said_terms (length ss) t)) 0 ss

abbrev pub fits : List ℕ → Terms → Bool
fits ss t = leb (size_in ss t) limit

-- 9 "when no earlier fault stands": n or m outside its range is 4
abbrev pub guard_in : Problem → ℕ
guard_in p = cond (right_head p.slots p.rules) (first_fault ((9, guard (campaign_of p)) ∷ [])) 0

-- the number of an answer in code, 0 for none
abbrev pub guard_told : Result ⊤ Refusal → ℕ
guard_told (Ok u) = 0
guard_told (Err e) = number_of e
