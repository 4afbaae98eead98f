-- Along which arcs, and by which numbers, does a page's walk go, and what does it bring? The fronts of both buffers that the builder left.
use mathlib.Core.Path.{◌≡◌, refl, sym, ap, ◌∙◌}
use mathlib.Core.List.{List}
use Prim.Native.Nat.{ℕ}
use native.Mathlib.Omega.{arith}
use lib.ListN.{length, take}
use lib.Seq.{take_at}
use lib.IntN.{ℤ, pos}
use Rattle.laws.proofs.Lists.{keep_agree}
use Rattle.laws.proofs.Filled.{length-padded, take-padded, padded_full}
use Rattle.meaning.specs.Plan.{Campaign}
use Rattle.meaning.specs.Diagram.{Arcs}
use Rattle.meaning.specs.Filter.{down_numbers, up_numbers, relaxed_arcs}
use Rattle.meaning.specs.Bound.{is_path}
use Rattle.meaning.specs.Buffers.{arcs_need, arc_bytes, arcs_in, cells_need, node_need, all_cells, number_cells}
use Rattle.meaning.specs.Page.{listed, walked, page_of, page}
use Rattle.meaning.proofs.Pages.{page_along}
use Rattle.problem.specs.declared.Problem.{Problem}
use Rattle.problem.specs.Held.{campaign_of}
use Rattle.lent.specs.Wide.{wide, laid}
use Rattle.lent.proofs.Wide.{wide_cells, wide_walks}
use Rattle.lent.proofs.Shape.{Shaped}
use Rattle.numbers.specs.Whole.{Formed}
use Rattle.numbers.proofs.Passes.{setting, need_is}
use Rattle.numbers.proofs.Held.{held_arcs, held_long, held_formed}
use Rattle.diagram.proofs.Refused.{problem_small}
use Rattle.diagram.proofs.Rounds.{relaxed_shaped}
use Rattle.diagram.proofs.Cells.{cells_behind}
use Rattle.diagram.specs.Open.{Open}
use Rattle.walk.proofs.Steered.{cells_count}

module _ {p : Problem} {w : ℕ} {arcs : List ℕ} {cells : List ℤ} (o : Open p w arcs cells) (n : ℕ) (c : ℤ) where
  abbrev q : Campaign
  q = campaign_of p

  abbrev a : Arcs
  a = relaxed_arcs q w n c

  shaped : Shaped q w a
  shaped = relaxed_shaped c q w o.ready.some n

  -- ---- the bytes of the need: the diagram's arcs
  module _ {k : ℕ} (need : k ≡ arcs_need q w) (x : List ℕ) (is : x ≡ arc_bytes q w (length arcs) a) where
    front : take k x ≡ laid 8 w a
    front =
        let l = laid 8 w a in
        let long : length l ≡ arcs_need q w = held_long q w a shaped l refl in
        (λ i. take ((need ∙ sym long) i) (is i)) ∙ take-padded 0 (length arcs) l (omega (arith, long, o.bytes))

    pub front_long : k ≡ length (take k x)
    front_long = need ∙ sym (held_long q w a shaped (take k x) front)

    pub front_formed : Formed q w (take k x)
    front_formed = held_formed q w a shaped (take k x) front

    arcs_are : arcs_in q w (take k x) ≡ wide 8 w a
    arcs_are = held_arcs q w a shaped (take k x) front

    -- the walk along them brings the page
    pub front_page : (r : ℕ) (s : List ℕ) → page_of r (walked (arcs_in q w (take k x)) q c s) ≡ page q c r s
    front_page r s =
        ap (λ (b : Arcs). page_of r (walked b q c s)) arcs_are
        ∙ ap (page_of r) (keep_agree (is_path (wide 8 w a)) (is_path a) (listed q c s) (λ b i. wide_walks 8 w a shaped.sized 0 b))
        ∙ page_along q w n c r s o.ready.some

    -- ---- the cells of the need: the numbers of these bytes' arcs
    module _ {m : ℕ} (needs : m ≡ cells_need q w) (y : List ℤ) (are : y ≡ number_cells q w (length cells) a) where
      own : take m y ≡ number_cells q w (cells_need q w) a
      own =
          (λ i. take (needs i) (are i)) ∙ ap (take (cells_need q w)) (cells_behind q (problem_small p o.ready.right) w a shaped (length cells) o.room)
          ∙ take_at (number_cells q w (cells_need q w) a) _ (cells_need q w) (length-padded (pos 0) (cells_need q w) _)

      pub cells_long : m ≡ length (take m y)
      cells_long = needs ∙ sym (ap length own ∙ length-padded (pos 0) (cells_need q w) _)

      pub cells_are : take m y ≡ all_cells (node_need q) w (down_numbers q (arcs_in q w (take k x))) (up_numbers q (arcs_in q w (take k x)))
      cells_are =
          own ∙ sym (wide_cells q 8 w (cells_need q w) a shaped.sized) ∙ ap (number_cells q w (cells_need q w)) (sym arcs_are)
          ∙ padded_full (cells_need q w) (pos 0) _ (cells_count (setting o.ready front_formed o.long) ∙ sym (need_is o.ready o.long))
