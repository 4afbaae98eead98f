-- `check_room` meets its contract: the needs are the meanings', and both tests stand.
use mathlib.Core.Path.{◌≡◌, refl, ◌∙◌}
use mathlib.Core.List.{[]}
use Prim.Native.Nat.{◌≤◌}
use native.Mathlib.Omega.{arith}
use lib.ListN.{length}
use Rattle.meaning.specs.Buffers.{arcs_need, cells_need}
use Rattle.meaning.specs.Calls.{Lent}
use Rattle.meaning.specs.Plan.{Campaign}
use Rattle.meaning.specs.Problem.{version1}
use Rattle.problem.specs.Held.{campaign_of}
use Rattle.problem.proofs.Faultless.{right}
use Rattle.problem.proofs.Arrays.{long}
use Rattle.diagram.specs.Answers.{lent_of}
use Rattle.diagram.proofs.Refused.{short_arcs, short_cells, enough, arcs_need_lem, cells_need_lem}
use Rattle.diagram.proofs.check_room.Goals as goal
use Rattle.diagram.proofs.check_room.Goals.{Start, After-cells_need-numbers, then-arcs-bytes-via-then-arcs-bytes, then-arcs-bytes-via-else-arcs-bytes+then-cells-numbers}

module _ (s : Start) where
  abbrev q : Campaign
  q = campaign_of s.args.p

  abbrev lent : Lent
  lent = lent_of s.args.arcs.now s.args.cells.now []

  sets_long : length s.args.p.sets ≡ 24
  sets_long = search long

-- its needs are the campaign's
module _ (c : After-cells_need-numbers) where
  abbrev s : Start
  s = (goal.at.After-cells_need-numbers c).Start

  bytes_need : c.arcs_need-bytes.result ≡ arcs_need (q s) c.args.w
  bytes_need = c.arcs_need-bytes.ensures ∙ arcs_need_lem c.args.p c.requires.right (sets_long s) c.args.w

  numbers_need : c.cells_need-numbers.result ≡ cells_need (q s) c.args.w
  numbers_need = c.cells_need-numbers.ensures ∙ cells_need_lem c.args.p c.requires.right (sets_long s) c.args.w

pub arcs_need-bytes-requires : goal.arcs_need-bytes-requires
arcs_need-bytes-requires c = ((right version1 c.args.p c.requires.right).head.most, c.requires.few)

pub cells_need-numbers-requires : goal.cells_need-numbers-requires
cells_need-numbers-requires c =
    let head = (right version1 c.args.p c.requires.right).head in
    (head.most, head.rules, c.requires.few)

pub returns-then-arcs-bytes-clause-err : goal.returns-then-arcs-bytes-clause-err
returns-then-arcs-bytes-clause-err c =
    let k = (goal.at.returns-then-arcs-bytes-clause-err c).After-cells_need-numbers in
    let a = c.args in
    elim c.then-arcs-bytes.branch [
      | then-arcs-bytes-via-then-arcs-bytes w ↦ (refl, short_arcs (q (s k)) a.w (lent (s k)) (omega (arith, w.if-arcs-bytes.true, bytes_need k)))
      | then-arcs-bytes-via-else-arcs-bytes+then-cells-numbers w ↦ (refl, short_cells (q (s k)) a.w (lent (s k)) (omega (arith, w.if-cells-numbers.true, numbers_need k)))
    ]

pub returns-clause-ok : goal.returns-clause-ok
returns-clause-ok c =
    let k = (goal.at.returns-clause-ok c).After-cells_need-numbers in
    let bytes : arcs_need (q (s k)) c.args.w ≤ length c.args.arcs.now = omega (arith, c.if-arcs-bytes.false, bytes_need k) in
    let room : cells_need (q (s k)) c.args.w ≤ length c.args.cells.now = omega (arith, c.if-cells-numbers.false, numbers_need k) in
    (enough (q (s k)) c.args.w (lent (s k)) bytes room, record { ready = c.requires; long = sets_long (s k); bytes = bytes; room = room })
