-- What the rules from here on lay is what is to be read.
use mathlib.Core.Path.{◌≡◌}
use Prim.Native.Nat.{◌-◌}
use Rattle.meaning.specs.Problem.{version1}
use Rattle.meaning.specs.File.{rules_next}
use Rattle.rtp.specs.Reading.{onto, all_parts}
use Rattle.rtp.proofs.Rules.{laid}
use Rattle.rtp.proofs.rules_at.Given as goal

abbrev pub invariant-loop-k : goal.invariant-loop-k
invariant-loop-k l = laid l.n (l.m - l.k) l.k l.terms l.bounds l.next.rest.now ≡ onto all_parts (rules_next version1 l.n l.m l.cursor.rest.now)
