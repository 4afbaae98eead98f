-- What stands in `out` behind a builder's answer?
use Rattle.std.specs.Prelude.{List, [], ◌∷◌, length, ℤ, pos}
use Rattle.laws.specs.Lists.{padded}
use Rattle.meaning.specs.Calls.{Bound, unless}
use Rattle.meaning.specs.Interface.{flag}

-- a refusal changes nothing; "present 0/1", the bound "(0 if none), exact 0/1"
abbrev pub bound_out : List ℤ → Bound → List ℤ
bound_out o b = unless b.number (λ k. o) (padded (length o) (pos 0) (flag b.present ∷ b.bound ∷ flag b.exact ∷ []))
