use mathlib.Core.Path.{◌≡◌, ap, ◌∙◌}
use native.Mathlib.Omega.{arith}
use Rattle.laws.specs.Z.{told}
use Rattle.state.specs.Pairs.{key_of}
use Rattle.classes.proofs.Children.{keys_node, keys_step, keys_all}
use Rattle.classes.proofs.keys_of.Goals as goal

pub loop-j-preserved : goal.loop-j-preserved
loop-j-preserved c =
    rw (told c.key.result c.key.type_inv) (keys_node (omega (arith, c.requires.1.few)) c.loop-j.invariant c.key.result (c.key.ensures ∙ ap key_of c.taken.ensures))

pub loop-v-preserved : goal.loop-v-preserved
loop-v-preserved c =
    rw (told c.key-in-loop-v.result c.key-in-loop-v.type_inv) (keys_step c.requires.1.few (omega arith) c.loop-v.invariant c.key-in-loop-v.result (c.key-in-loop-v.ensures ∙ ap key_of c.shares.ensures))

pub returns : goal.returns
returns c =
    let e : c.loop-v.v ≡ 8 = omega arith in
    keys_all c.requires.0 c.requires.1 (rw e at c.loop-v.invariant)
