-- `next_up` meets its contract: rooms, up numbers, cells if they are to stay, then the row.
use mathlib.Core.Path.{sym, ap, ◌∙◌}
use mathlib.Core.List.{◌++◌}
use Prim.Native.Nat.{◌+◌, ◌*◌}
use lib.ListN.{drop}
use Rattle.laws.specs.Lists.{flat, parted}
use Rattle.laws.proofs.Lists.{cond_first, cond_second}
use Rattle.lent.specs.Passes.{test_layer, layer_cells}
use Rattle.rows.proofs.UpLayer.{layer_taken, layer_cells_lem, layer_within, rooms_back}
use borrow.Author.Rules.{rules}
use native.Mathlib.Omega.{arith}
use mathlib.Core.Path.{refl}
use mathlib.Core.Bool.{Bool, not, ◌&&◌, ◌||◌}
use Rattle.rows.proofs.next_up.Goals as goal
use Rattle.rows.proofs.next_up.Goals.{then-free, then-free-via-then-free, then-free-via-else-free+then-not-fell, else-free+else-not-fell}

pub put_ups-requires : goal.put_ups-requires
put_ups-requires c =
    let a = c.args in
    let p = c.requires in
    (p.0, p.1, search rules, layer_within a.m a.w a.row.now a.next.now a.arcs.now p.2 p.3 p.7 p.6 (drop (a.w * 17) a.spare.now) c.raise-fell.ensures.here, p.8)

pub returns : goal.returns
returns c =
    let a = c.args in
    let p = c.requires in
    let row = a.row.now in
    let next = a.next.now in
    let arcs = a.arcs.now in
    let cells = a.cells.now in
    let spare = drop (a.w * 17) a.spare.now in
    let up = c.raise-fell.ensures in
    let rooms = rooms_back a.m a.w a.free a.limit.now cells (drop (a.w * 17) a.room.now) p.4 c.rooms.ensures in
    let stays : Bool = a.free || (a.whole && not c.raise-fell.result) in
    let new = flat (layer_cells row next a.m (parted a.w 8 arcs) (parted a.w (4 * a.m + 3) cells)) in
    record {
      next = ap (λ l. l ++ drop (a.w * 17) next) (c.copy_from_slice.ensures.after ∙ layer_taken a.m a.w row next arcs p.2 p.3 p.7 p.6 spare up.here);
      arcs = up.arcs ∙ ap (λ l. flat (test_layer row next (parted a.w 8 arcs) l)) rooms;
      cells = elim c.if-free.branch [
        | then-free w ↦ w.cells-is ∙ w.put_ups.ensures ∙ layer_cells_lem a.m a.w row next arcs p.2 p.3 p.7 p.6 spare up.here cells ∙ sym (cond_first stays new cells (elim w.then-free.branch [
          | then-free-via-then-free y ↦ rw y.if-free.true refl
          | then-free-via-else-free+then-not-fell y ↦ grind arith
        ]))
        | else-free+else-not-fell w ↦ w.cells-is ∙ sym (cond_second stays new cells (grind arith))
      ];
      fell = up.fell;
      lengths = search rules;
    }
