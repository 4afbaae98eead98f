-- `arrive` meets its contract: a state that a class has, or one class more.
use Rattle.state.specs.Pairs.{pairs}
use Rattle.classes.proofs.Turns.{arrived_old, arrived_new}
use Rattle.classes.proofs.Chains.arrive.Goals as goal

pub returns-in-Some : goal.returns-in-Some
returns-in-Some c = arrived_old (pairs c.args.t) c.requires.1 c.in-Some.class c.in-Some.ensures

pub returns-in-None : goal.returns-in-None
returns-in-None c = arrived_new (pairs c.args.t) c.requires.1 c.args.f c.args.bucket c.requires.2 c.requires.3 c.in-None.ensures
