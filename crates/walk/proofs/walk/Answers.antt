-- `walk` meets its contract: the sweep leaves arcs of the form whose numbers are in the cells; along them the walk finds the same plans.
use mathlib.Core.Path.{◌≡◌, refl}
use Prim.Native.Nat.{◌/◌}
use native.Mathlib.Omega.{arith}
use lib.ListN.{length}
use mir.Facts.{to_z-of_z}
use Rattle.laws.specs.Z.{back_within}
use Rattle.meaning.specs.Plan.{slots}
use Rattle.meaning.specs.Problem.{version1}
use Rattle.problem.specs.Held.{campaign_of}
use Rattle.problem.proofs.Faultless.{right}
use Rattle.problem.proofs.Arrays.{long}
use Rattle.walk.proofs.Sweeping.{formed, same_cells, same_answer, same_page}
use Rattle.walk.proofs.walk.Goals as goal
use Rattle.walk.proofs.walk.Goals.{Start}

sets_long : (s : Start) → length s.args.p.sets ≡ 24
sets_long s = search long

pub put_parts-requires : goal.put_parts-requires
put_parts-requires c =
    let head = (right version1 c.args.p c.requires.0.right).head in
    (head.most, head.rules, refl, refl)

pub sweep-requires : goal.sweep-requires
sweep-requires c =
    (c.requires.0, c.put_parts.ensures, c.requires.3, c.requires.4, record { most = omega arith; are = λ h. absurd (omega arith) })

pub list-requires : goal.list-requires
list-requires c =
    let w = c.sweep in
    let s = (goal.at.list-requires c).Start in
    let sets = sets_long s in (
      c.requires.0,
      c.put_parts.ensures,
      back_within c.requires.1 tt,
      c.requires.2,
      formed c.requires.0 sets c.requires.3 w.ensures.arcs,
      same_cells c.requires.0 sets c.requires.3 w.ensures.arcs w.ensures.cells,
      c.requires.5,
    )

pub returns : goal.returns
returns c =
    let l = c.list in
    let w = c.sweep in
    let s = (goal.at.returns c).Start in
    let a = c.args in
    let n = length a.page.now in
    let k = n / slots (campaign_of a.p) in
    let is = to_z-of_z c.ranges.ceiling in record { value = same_answer c.requires.0 (sets_long s) c.requires.3 w.ensures.arcs is a.start.now k l.ensures.value; page = same_page c.requires.0 (sets_long s) c.requires.3 w.ensures.arcs is a.start.now n k l.ensures.page; arcs = w.ensures.arcs; cells = w.ensures.cells }
