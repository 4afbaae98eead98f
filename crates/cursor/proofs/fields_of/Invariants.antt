-- The first k fields are in their places.
use mathlib.Core.Path.{◌≡◌}
use mathlib.Core.List.{map}
use Rattle.laws.specs.Lists.{parted, padded}
use Rattle.cursor.proofs.fields_of.Given as goal

abbrev pub invariant-loop-k : goal.invariant-loop-k
invariant-loop-k g l = l.fields ≡ padded g.row.N l.fn.blank (map g.F.Form.of_bytes (parted l.k g.F.Form.size l.bytes))
