-- What do the slots decide of a plan, what does one rule decide, and what do they say together?
use mathlib.Core.Path.{◌≡◌, refl, sym, ap, ◌∙◌}
use mathlib.Core.List.{List, [], ◌∷◌, map}
use mathlib.Core.Bool.{Bool, true, false, ◌&&◌, true≢false}
use Prim.Native.Nat.{ℕ, ◌<◌}
use native.Mathlib.Omega.{arith}
use borrow.Author.Tests.{ltb-true}
use lib.Dec.{ltb}
use lib.ListN.{length, take}
use lib.Seq.{length-take-le}
use Rattle.std.specs.Prelude.{zip}
use Rattle.std.specs.List.{list_all}
use Rattle.laws.specs.Lists.{every, from}
use Rattle.laws.proofs.Lists.{and_l, and_r, no_true}
use Rattle.laws.proofs.Each.{Each}
use Rattle.laws.proofs.Left.{every_map}
use Rattle.meaning.specs.Plan.{allows, allowed, bit, keeps_rule}
use Rattle.meaning.specs.Problem.{step_count, version1, rule_of}
use Rattle.meaning.proofs.Order.{allowed_length}
use Rattle.problem.specs.declared.Problem.{Problem}
use Rattle.problem.specs.Held.{said_at, campaign_of}
use Rattle.problem.proofs.Faultless.{Right}
use Rattle.judge.specs.Answers.{Steps}

-- ---- the slots
module _ (k : ℕ) where
  allowed_below : (ss p : List ℕ) → allowed k ss p ≡ true → Each (λ v. v < k) p
  allowed_below [] [] e = tt
  allowed_below [] (v ∷ p) e = absurd (true≢false (sym e))
  allowed_below (s ∷ ss) [] e = absurd (true≢false (sym e))
  allowed_below (s ∷ ss) (v ∷ p) e =
      (ltb-true v k (and_l (ltb v k) (bit s v) (and_l (allows k s v) (allowed k ss p) e)), allowed_below ss p (and_r (allows k s v) (allowed k ss p) e))

  -- of as many steps as sets, each decides
  pub allowed_zip : (ss p : List ℕ) → length p ≡ length ss → allowed k ss p ≡ list_all (λ q. allows k q.0 q.1) (zip ss p)
  allowed_zip [] [] e = refl
  allowed_zip [] (v ∷ p) e = absurd (omega arith)
  allowed_zip (s ∷ ss) [] e = absurd (omega arith)
  allowed_zip (s ∷ ss) (v ∷ p) e = ap (λ (b : Bool). allows k s v && b) (allowed_zip ss p (omega arith))

  -- a plan of another length
  pub wrong_length : (ss p : List ℕ) → (length p ≡ length ss → ⊥) → allowed k ss p ≡ false
  wrong_length ss p h = no_true (allowed k ss p) (λ e. h (allowed_length k ss p e))

-- ---- the rules of a problem
abbrev pub kept_at : List ℕ → Problem → ℕ → Bool
kept_at plan p k = keeps_rule plan (rule_of (said_at p k))

-- all of them
pub kept_all : (plan : List ℕ) (p : Problem) → every (keeps_rule plan) (campaign_of p).rules ≡ every (kept_at plan p) (from 0 p.rules)
kept_all plan p = every_map (keeps_rule plan) rule_of (map (said_at p) (from 0 p.rules)) ∙ every_map (λ r. keeps_rule plan (rule_of r)) (said_at p) (from 0 p.rules)

-- ---- the plan of a problem without fault that has allowed steps alone
pub allowed_steps : (p : Problem) (plan : List ℕ) → Right version1 p → length p.sets ≡ 24 → allowed step_count (take p.slots p.sets) plan ≡ true → (length plan ≡ p.slots) × Steps plan
allowed_steps p plan r l e =
    let most = r.head.most in
    let long = allowed_length step_count (take p.slots p.sets) plan e ∙ length-take-le p.slots p.sets (omega arith) in
    (long, record { count = omega arith; below = allowed_below step_count (take p.slots p.sets) plan e })
