use Prim.Native.Nat.{◌-◌, ◌<◌}
use mathlib.Core.Path.{◌≡◌, sym, ap, ◌∙◌}
use native.Mathlib.Nat.{mod-lt}
use native.Mathlib.Omega.{arith}
use lib.ListN.{get_or}
use Rattle.meaning.specs.Diagram.{eq_state}
use Rattle.state.specs.Pairs.{pairs, bucket_of}
use Rattle.classes.specs.Classes.{classes_of, no_node, latest}
use Rattle.classes.proofs.Lists.{classes_long, class_is}
use Rattle.classes.proofs.Buckets.{bucket_at, walked_start, walked_next, walked_less, walked_found, walked_end}
use Rattle.classes.proofs.Chains.class_of.Goals as goal
use Rattle.classes.proofs.Chains.class_of.Goals.{After-same, In-loop-c}

pub loop-c-init : goal.loop-c-init
loop-c-init c =
    let a = c.args in
    let chains = a.self.now in
    walked_start (pairs a.t) (classes_of a.here.now a.row.now chains) chains.count (get_or chains.heads a.bucket 0) (classes_long a.here.now a.row.now chains.firsts chains.count)
    (rw c.requires.2 (c.requires.1.each (bucket_of (pairs a.t)) (mod-lt _ (omega arith))))

-- the class that the walk is at
low : (c : In-loop-c) → c.loop-c.c - 1 < c.args.self.now.count
low c =
    let a = c.args in
    omega (arith, c.loop-c.invariant.low, classes_long a.here.now a.row.now a.self.now.firsts a.self.now.count)

pub bounds-self-c : goal.bounds-self-c
bounds-self-c c = omega (arith, low (goal.at.bounds-self-c c).In-loop-c, c.requires.1.laid.few)

pub child_state-requires : goal.child_state-requires
child_state-requires c =
    (c.requires.0, c.requires.1.laid.low (c.loop-c.c - 1) (low (goal.at.child_state-requires c).In-loop-c))

-- the test of the class that the walk is at
test : (c : After-same) →
    let a = c.args in
    c.same.result ≡ eq_state (pairs a.t) (get_or (classes_of a.here.now a.row.now a.self.now) (c.loop-c.c - 1) no_node).0
test c =
    let a = c.args in
    let j = c.loop-c.c - 1 in
    c.same.ensures
    ∙ ap (eq_state (pairs a.t)) (c.child_state.ensures ∙ sym (ap (λ n. n.0) (class_is a.here.now a.row.now a.self.now.firsts a.self.now.count j (low (goal.at.After-same c).In-loop-c))))

pub returns-then-same : goal.returns-then-same
returns-then-same c =
    let a = c.args in
    walked_found (pairs a.t) (classes_of a.here.now a.row.now a.self.now) c.loop-c.invariant c.loop-c-test.true (sym (test (goal.at.returns-then-same c).After-same) ∙ c.if-same.true)

pub bounds-self-c-in-loop-c : goal.bounds-self-c-in-loop-c
bounds-self-c-in-loop-c c = omega (arith, low (goal.at.bounds-self-c-in-loop-c c).In-loop-c, c.requires.1.laid.few)

-- where the next older class of the bucket stands
next : (c : In-loop-c) →
    let ts = classes_of c.args.here.now c.args.row.now c.args.self.now in
    let j = c.loop-c.c - 1 in
    get_or c.args.self.now.older j 0 ≡ latest ts (bucket_at ts j) j
next c =
    c.requires.1.linked.link (c.loop-c.c - 1) (omega (arith, low c, classes_long c.args.here.now c.args.row.now c.args.self.now.firsts c.args.self.now.count))

pub loop-c-smaller : goal.loop-c-smaller
loop-c-smaller c =
    let a = c.args in
    walked_less (pairs a.t) (classes_of a.here.now a.row.now a.self.now) c.loop-c.invariant c.loop-c-test.true (get_or a.self.now.older (c.loop-c.c - 1) 0) (next (goal.at.loop-c-smaller c).In-loop-c)

pub loop-c-preserved : goal.loop-c-preserved
loop-c-preserved c =
    let a = c.args in
    walked_next (pairs a.t) (classes_of a.here.now a.row.now a.self.now) c.loop-c.invariant c.loop-c-test.true (get_or a.self.now.older (c.loop-c.c - 1) 0)
    (sym (test (goal.at.loop-c-preserved c).After-same) ∙ c.if-same.false) (next (goal.at.loop-c-preserved c).In-loop-c)

pub returns : goal.returns
returns c =
    let a = c.args in
    walked_end (pairs a.t) (classes_of a.here.now a.row.now a.self.now) c.loop-c.c c.loop-c-test.false c.loop-c.invariant
