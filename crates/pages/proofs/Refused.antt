-- When is a page refused, and with what? 8, 10 and 11 as their tests say; 9 never, for a problem without fault.
use mathlib.Core.Path.{◌≡◌, refl, ap, ◌∙◌}
use mathlib.Core.List.{List, [], ◌∷◌}
use mathlib.Core.Bool.{Bool, true, false}
use mathlib.Core.Option.{Option, none, some}
use Prim.Native.Nat.{ℕ}
use lib.IntN.{ℤ}
use Rattle.meaning.specs.Plan.{Campaign}
use Rattle.meaning.specs.Problem.{version1, first_fault}
use Rattle.meaning.specs.Diagram.{relaxed, is_exact}
use Rattle.meaning.specs.Bound.{dual}
use Rattle.meaning.specs.Running.{relaxed_numbers, leaves}
use Rattle.meaning.specs.Calls.{Lent, unless, guarded, wrong_numbers, short_diagram, bound_of, no_bound, relaxed_done, relaxed_of}
use Rattle.refusal.specs.declared.Refusal.{Refusal}
use Rattle.refusal.specs.Refusals.{number_of}
use Rattle.problem.specs.declared.Problem.{Problem}
use Rattle.problem.specs.Held.{campaign_of, fault_in}
use Rattle.std.specs.Prelude.{Err}
use Rattle.diagram.specs.Answers.{bounded_as}
use Rattle.diagram.proofs.Refused.{numbered, relaxed_stays}
use Rattle.diagram.proofs.Refused as diagram

-- ---- the refusals, whatever is done
module _ {A : Type 0} (a b d : Bool) (zs : List ℤ) (refusal : ℕ → A) (done : A) where
  abbrev answered : A
  answered = unless (first_fault ((8, a) ∷ (10, b) ∷ (11, d) ∷ [])) refusal (guarded zs refusal done)

  pub refused_11 : a ≡ false → b ≡ false → d ≡ true → answered ≡ refusal 11
  refused_11 e f g = rw (e, f, g)

  pub served : a ≡ false → b ≡ false → d ≡ false → leaves zs ≡ false → answered ≡ done
  served e f g h = rw (e, f, g, h)

-- ---- the builder behind right numbers: 11, or the diagram
module _ (p : Problem) (e : fault_in version1 p ≡ 0) (w n : ℕ) (c : ℤ) (l : Lent) (right : wrong_numbers w n c ≡ false) where
  abbrev q : Campaign
  q = campaign_of p

  no_number : (z : Option ℤ) (t : Bool) → (bound_of z t).number ≡ 0
  no_number none t = refl
  no_number (some z) t = refl

  short : short_diagram q w l ≡ true → relaxed_of q w n c l ≡ no_bound l 11
  short s = diagram.refused_11 (wrong_numbers w n c) (short_diagram q w l) (relaxed_numbers q w n c) (no_bound l) (relaxed_done q w n c l) right s

  -- it serves where there is room
  pub done : short_diagram q w l ≡ false → relaxed_of q w n c l ≡ relaxed_done q w n c l
  done s = diagram.served (wrong_numbers w n c) (short_diagram q w l) (relaxed_numbers q w n c) (no_bound l) (relaxed_done q w n c l) right s (relaxed_stays p e w n c)

  -- it gives a number
  pub builder_short : ((relaxed_of q w n c l).answer.number ≡ 0 → ⊥) → (short_diagram q w l ≡ true) × (relaxed_of q w n c l ≡ no_bound l 11)
  builder_short f = go (short_diagram q w l) refl
    where
      go : (t : Bool) → short_diagram q w l ≡ t → (short_diagram q w l ≡ true) × (relaxed_of q w n c l ≡ no_bound l 11)
      go true s = (s, short s)
      go false s = absurd (f (ap (λ x. x.answer.number) (done s) ∙ no_number (dual q w n c) (is_exact relaxed q w)))

  -- it refuses
  pub builder_refuses : (e : Refusal) → bounded_as (Err e) ≡ (relaxed_of q w n c l).answer → (short_diagram q w l ≡ true) × (number_of e ≡ 11)
  builder_refuses r same =
      let no = builder_short (λ z. numbered r (ap (λ x. x.number) same ∙ z)) in
      (no.0, ap (λ x. x.number) same ∙ ap (λ x. x.answer.number) no.1)
