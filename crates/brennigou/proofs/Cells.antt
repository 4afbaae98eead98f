-- What does a number stand for?
use mathlib.Core.Path.{◌≡◌, refl}
use Prim.Native.Nat.{ℕ, zero, suc}
use Rattle.meaning.specs.Calls.{unless}

-- one that is not 0 is a refusal, 0 none
module _ {A : Type 0} (refusal : ℕ → A) (done : A) where
  pub unless_no : (k : ℕ) → (k ≡ 0 → ⊥) → unless k refusal done ≡ refusal k
  unless_no zero f = absurd (f refl)
  unless_no (suc k) f = refl

  pub unless_yes : {k : ℕ} → k ≡ 0 → unless k refusal done ≡ done
  unless_yes e = rw e refl
