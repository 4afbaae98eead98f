-- Which plan is the cheapest of some? One of them, none of them costs less, and of those that cost the same it is the first.
use mathlib.Core.Path.{◌≡◌, refl, sym, ◌∙◌, subst}
use mathlib.Core.List.{List, [], ◌∷◌}
use mathlib.Core.Bool.{Bool, true, false}
use mathlib.Core.Option.{Option, none, some, none-ne-some, some-injective}
use mathlib.Core.Logic.{◌⊎◌, inl, inr, ⊎_elim}
use Prim.Native.Nat.{ℕ}
use lib.Signed.{le_z, ◌≤ℤ◌, ◌<ℤ◌}
use Rattle.laws.specs.Z.{zarith}
use Rattle.laws.specs.Lists.{every}
use Rattle.laws.proofs.Lists.{cond_first, cond_second, In, here, there, in_either, every_in, Ordered}
use Rattle.meaning.specs.Plan.{Campaign, cost, after, costs_less, cheaper, cheapest}

-- "the cheapest .. and, of equal ones, the first in dictionary order"
pub record Cheapest (q : Campaign) (ps : List (List ℕ)) (b : List ℕ) : Type 0 where
  pub one : In b ps
  pub least : (p : List ℕ) → In p ps → cost q b ≤ℤ cost q p
  pub first : (p : List ℕ) → In p ps → cost q p ≡ cost q b → (p ≡ b) ⊎ (after b p ≡ true)

module _ (q : Campaign) where
  -- of two plans, which one is taken
  taken : (x c : List ℕ) {b : Option (List ℕ)} → cheaper q x (some c) ≡ b → ((cost q c <ℤ cost q x) × (some c ≡ b)) ⊎ ((cost q x ≤ℤ cost q c) × (some x ≡ b))
  taken x c {b} e = go (le_z (cost q x) (cost q c)) refl
    where
      go : (t : Bool) → le_z (cost q x) (cost q c) ≡ t → ((cost q c <ℤ cost q x) × (some c ≡ b)) ⊎ ((cost q x ≤ℤ cost q c) × (some x ≡ b))
      go true f = let less : costs_less q c x ≡ false = omega zarith in inr (omega zarith, sym (cond_second (costs_less q c x) (some c) (some x) less) ∙ e)
      go false f = let less : costs_less q c x ≡ true = omega zarith in inl (omega zarith, sym (cond_first (costs_less q c x) (some c) (some x) less) ∙ e)

  pub some_cheapest : (ps : List (List ℕ)) {p : List ℕ} → In p ps → cheapest q ps ≡ none → ⊥
  some_cheapest [] {p = p} i e = elim i [ ]
  some_cheapest (x ∷ ps) i e = go (cheapest q ps) e
    where
      go : (o : Option (List ℕ)) → cheaper q x o ≡ none → ⊥
      go none e = none-ne-some x (sym e)
      go (some c) e = ⊎_elim (λ h. none-ne-some c (sym h.1)) (λ h. none-ne-some x (sym h.1)) (taken x c e)

  lead : (x : List ℕ) (ps : List (List ℕ)) → ((p : List ℕ) → In p ps → cost q x ≤ℤ cost q p) → every (after x) ps ≡ true → Cheapest q (x ∷ ps) x
  lead x ps h o = record {
    one = here;
    least = λ p i. in_either (λ p. cost q x ≤ℤ cost q p) (omega zarith) (h p) i;
    first = λ p i e. in_either (λ p. (p ≡ x) ⊎ (after x p ≡ true)) (inl refl) (λ j. inr (every_in (after x) ps o j)) i;
  }

  follow : (x c : List ℕ) (ps : List (List ℕ)) → cost q c <ℤ cost q x → Cheapest q ps c → Cheapest q (x ∷ ps) c
  follow x c ps l h = record {
    one = there h.one;
    least = λ p i. in_either (λ p. cost q c ≤ℤ cost q p) (omega zarith) (h.least p) i;
    first = λ p i. in_either (λ p. cost q p ≡ cost q c → (p ≡ c) ⊎ (after c p ≡ true)) (λ e. absurd (omega zarith)) (h.first p) i;
  }

  pub cheapest_is : (ps : List (List ℕ)) → Ordered after ps → (b : List ℕ) → cheapest q ps ≡ some b → Cheapest q ps b
  cheapest_is [] o b e = absurd (none-ne-some b e)
  cheapest_is (x ∷ ps) o b e = go (cheapest q ps) refl (λ c f. cheapest_is ps o.1 c f) e
    where
      is : {c : List ℕ} → some c ≡ some b → Cheapest q (x ∷ ps) c → Cheapest q (x ∷ ps) b
      is {c} e h = subst (Cheapest q (x ∷ ps)) (some-injective c b e) h

      go : (m : Option (List ℕ)) → cheapest q ps ≡ m → ((c : List ℕ) → cheapest q ps ≡ some c → Cheapest q ps c) → cheaper q x m ≡ some b → Cheapest q (x ∷ ps) b
      go none f r e = is e (lead x ps (λ p i. absurd (some_cheapest ps i f)) o.0)
      go (some c) f r e =
          ⊎_elim (λ h. is h.1 (follow x c ps h.0 (r c f))) (λ h. is h.1 (lead x ps (λ p i. let d = (r c f).least p i in let l = h.0 in omega zarith) o.0)) (taken x c e)
