-- `fields_of` meets its contract: none at first, and one more by each step.
use borrow.Author.Rules.{rules}
use mathlib.Core.Path.{◌≡◌, sym}
use Prim.Native.Nat.{◌+◌, ◌*◌, ◌-◌}
use native.Mathlib.Numerals.{add-one}
use native.Mathlib.Omega.{arith}
use Rattle.laws.proofs.Filled.{padded_none}
use Rattle.cursor.proofs.Filled.{field_more, fields_front}
use Rattle.cursor.proofs.fields_of.Goals as goal

pub loop-k-init : goal.loop-k-init
loop-k-init g c = sym (padded_none c.args.blank g.row.N)

pub loop-k-preserved : goal.loop-k-preserved
loop-k-preserved g c =
    let k = c.loop-k.k in
    let size = c.size-size.result in
    let more = field_more g.F.Form.of_bytes c.args.blank g.F.Form.size g.row.N k c.args.bytes.now (search rules) in
    let width : k * size + size - k * size ≡ size = omega arith in
    let read = rw (width, c.size-size.ensures) at c.of_bytes.ensures in
    rw (c.loop-k.invariant, read, add-one) more

pub returns : goal.returns
returns g c =
    let last : c.loop-k.k ≡ c.args.n = omega arith in
    let all = rw last at c.loop-k.invariant in
    let front = fields_front g.F.Form.of_bytes c.args.blank g.F.Form.size g.row.N c.args.n c.args.bytes.now c.requires.few all in
    record { fields = front.0; blank = front.1 }
