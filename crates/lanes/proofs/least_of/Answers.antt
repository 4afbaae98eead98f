use mathlib.Core.Path.{◌∙◌}
use borrow.Author.Rules.{rules}
use lib.ListN.{get_or}
use lib.IntN.{pos}
use mir.Syntax.{w32}
use mir.Val.{SFits}
use mir.Facts.{to_z-of_z}
use Rattle.laws.specs.Z.{min_z, told}
use Rattle.lanes.proofs.Laws.{zipped_more, zipped_all}
use Rattle.lanes.proofs.least_of.Goals as goal

pub loop-k-preserved : goal.loop-k-preserved
loop-k-preserved c =
    let a = c.args in
    let l = c.loop-k in
    let x : SFits w32 (get_or a.x l.k (pos 0)) = search rules in
    let y : SFits w32 (get_or a.y l.k (pos 0)) = search rules in
    zipped_more min_z a.x a.y (search rules) (search rules) _ l.invariant c.loop-k-test.true (told c.lesser.result c.lesser.type_inv ∙ c.lesser.ensures ∙ rw (to_z-of_z x, to_z-of_z y))

pub returns : goal.returns
returns c = zipped_all min_z c.args.x c.args.y (search rules) (search rules) c.loop-k.invariant c.loop-k-test.false
