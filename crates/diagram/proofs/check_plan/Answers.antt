-- `check_plan` meets its contract: the problem's slots are the campaign's.
use mathlib.Core.Path.{◌≡◌, refl}
use mathlib.Core.List.{[]}
use Prim.Native.Nat.{◌≤◌}
use native.Mathlib.Omega.{arith}
use borrow.Author.Tests.{lt-ltb}
use lib.ListN.{length}
use Rattle.meaning.specs.Plan.{slots}
use Rattle.problem.specs.Held.{campaign_of}
use Rattle.problem.proofs.Arrays.{long}
use Rattle.diagram.specs.Answers.{lent_of}
use Rattle.diagram.proofs.Refused.{slots_are, enough_plan}
use Rattle.diagram.proofs.check_plan.Goals as goal
use Rattle.diagram.proofs.check_plan.Goals.{Start}

slot_count : (s : Start) → slots (campaign_of s.args.p) ≡ s.args.p.slots
slot_count s = slots_are s.args.p s.requires (search long)

pub returns-then-plan-p-clause-err : goal.returns-then-plan-p-clause-err
returns-then-plan-p-clause-err c =
    (refl, lt-ltb (length c.args.plan.now) (slots (campaign_of c.args.p)) (omega (arith, c.if-plan-p.true, slot_count (goal.at.returns-then-plan-p-clause-err c).Start)))

pub returns-clause-ok : goal.returns-clause-ok
returns-clause-ok c =
    let room : slots (campaign_of c.args.p) ≤ length c.args.plan.now = omega (arith, c.if-plan-p.false, slot_count (goal.at.returns-clause-ok c).Start) in
    (enough_plan (campaign_of c.args.p) (lent_of [] [] c.args.plan.now) room, c.if-plan-p.false)
