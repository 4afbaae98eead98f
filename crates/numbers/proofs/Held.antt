-- Which arcs do the bytes of a diagram hold, and are they of the form that the passes ask for?
use mathlib.Core.Path.{◌≡◌, sym, ap, ◌∙◌}
use mathlib.Core.List.{List, [], append-nil}
use Prim.Native.Nat.{ℕ, ◌*◌}
use native.Mathlib.Nat.{mul_assoc, mul_comm}
use lib.ListN.{length}
use Rattle.meaning.specs.Plan.{Campaign, slots}
use Rattle.meaning.specs.Diagram.{Arcs}
use Rattle.meaning.specs.Buffers.{arcs_need, arcs_in}
use Rattle.lent.specs.Wide.{wide, laid}
use Rattle.lent.proofs.Wide.{laid_long, wide_front}
use Rattle.lent.proofs.Shape.{Shaped, form_true}
use Rattle.numbers.specs.Whole.{Formed}

module _ (q : Campaign) (w : ℕ) (a : Arcs) (h : Shaped q w a) (b : List ℕ) (is : b ≡ laid q.steps w a) where
  pub held_arcs : arcs_in q w b ≡ wide q.steps w a
  held_arcs = ap (arcs_in q w) (is ∙ sym (append-nil (laid q.steps w a))) ∙ wide_front q w a [] h.long h.sized

  pub held_long : length b ≡ arcs_need q w
  held_long =
      let k = q.steps in
      ap length is ∙ laid_long k w a h.sized ∙ ap (λ (n : ℕ). n * (w * k)) h.long
      ∙ sym (mul_assoc (slots q) w k) ∙ mul_comm (slots q * w) k ∙ sym (mul_assoc k (slots q) w)

  pub held_formed : Formed q w b
  held_formed = record { long = held_long; form = rw held_arcs (form_true q.steps w a h.form) }
