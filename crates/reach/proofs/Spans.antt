-- How does the least over a slot's steps come about, step by step?
use mathlib.Core.Path.{◌≡◌, refl, sym, ap, ◌∙◌}
use mathlib.Core.List.{List, ◌∷◌}
use mathlib.Core.Bool.{Bool, true, false, ◌&&◌, cond}
use Prim.Native.Nat.{ℕ, suc, ◌+◌, ◌-◌, ◌<◌}
use native.Mathlib.Omega.{arith}
use native.Mathlib.Numerals.{add-one}
use lib.Dec.{ltb}
use lib.IntN.{ℤ}
use borrow.Author.Tests.{lt-ltb}
use Rattle.laws.specs.Lists.{keep, from}
use Rattle.laws.proofs.Lists.{and_r}
use Rattle.meaning.specs.Plan.{bit, allows, steps_of}
use Rattle.lent.specs.Lanes.{leasts}
use Rattle.lent.specs.Passes.{nowhere}
use Rattle.reach.specs.Spans.{least_more}

-- ---- the loop over the steps
-- the steps of the set from v on
abbrev ahead : ℕ → ℕ → List ℕ
ahead set v = keep (bit set) (from v (8 - v))

-- the steps before v are in s
pub record Spanned (lanes : ℕ → List ℤ) (set v : ℕ) (s : List ℤ) : Type 0 where
  pub is : least_more lanes s (ahead set v) ≡ least_more lanes nowhere (steps_of 8 set)

-- the step's bit is what `allows` says
step_bit : (set v : ℕ) (t : Bool) → v < 8 → allows 8 set v ≡ t → bit set v ≡ t
step_bit set v true h e = and_r (ltb v 8) (bit set v) e
step_bit set v false h e = sym (ap (λ b. b && bit set v) (lt-ltb v 8 h)) ∙ e

-- the step itself, where the set has it, and then those behind it
next : (set v : ℕ) (t : Bool) → v < 8 → allows 8 set v ≡ t → ahead set v ≡ cond t (v ∷ ahead set (v + 1)) (ahead set (v + 1))
next set v t h e =
    let o : 8 - v ≡ suc (8 - (v + 1)) = omega arith in
    ap (λ n. keep (bit set) (from v n)) o ∙ rw (step_bit set v t h e, add-one) refl

module _ {lanes : ℕ → List ℤ} {set v : ℕ} {s : List ℤ} (p : Spanned lanes set v s) where
  -- a step of the set
  pub span_yes : v < 8 → allows 8 set v ≡ true → (u : List ℤ) → u ≡ leasts s (lanes v) → Spanned lanes set (v + 1) u
  span_yes h e u f = record { is = ap (λ z. least_more lanes z (ahead set (v + 1))) f ∙ sym (ap (least_more lanes s) (next set v true h e)) ∙ p.is }

  -- a step that it has not
  pub span_no : v < 8 → allows 8 set v ≡ false → (u : List ℤ) → u ≡ s → Spanned lanes set (v + 1) u
  span_no h e u f = record { is = (λ d. least_more lanes (f d) (sym (next set v false h e) d)) ∙ p.is }
