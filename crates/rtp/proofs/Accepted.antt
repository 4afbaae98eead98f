-- What does the reader's answer say of an accepted file? The problem is the one that the file says, and it has no fault.
use mathlib.Core.Path.{◌≡◌, refl, ap, ◌∙◌}
use mathlib.Core.List.{List}
use Prim.Native.Nat.{ℕ}
use native.Mathlib.Omega.{arith}
use Rattle.std.specs.Prelude.{Ok}
use Rattle.meaning.specs.Problem.{version1}
use Rattle.meaning.specs.Problem as paper
use Rattle.meaning.specs.File.{Got, refused, got, read_of}
use Rattle.meaning.specs.Calls.{read}
use Rattle.meaning.proofs.Rows.{refused_range}
use Rattle.problem.specs.declared.Problem.{Problem}
use Rattle.problem.specs.Held.{held, fault_in}
use Rattle.problem.proofs.Again.{accepted_held}
use Rattle.rtp.specs.Reading.{Reading, reading_of, read_as}

-- the file says q, and p is q by value
pub record Says (f : List ℕ) (p : Problem) : Type 0 where
  pub said : paper.Problem
  pub rest : List ℕ
  pub accepted : read_of f ≡ got said rest
  pub is : p ≡ held said

pub says : (f : List ℕ) (p : Problem) → reading_of (Ok p) ≡ read_as (read f) → Says f p
says f p e = go (read_of f) refl
  where
    go : (g : Got paper.Problem) → read_of f ≡ g → Says f p
    go (refused k) h =
        let none : 0 ≡ k = ap (λ (x : Reading). x.number) e ∙ rw h refl in
        absurd (omega (arith, refused_range f k h))
    go (got q t) h = record { said = q; rest = t; accepted = h; is = ap (λ (x : Reading). x.problem) e ∙ rw h refl }

pub faultless : (f : List ℕ) (p : Problem) → reading_of (Ok p) ≡ read_as (read f) → fault_in version1 p ≡ 0
faultless f p e =
    let s = says f p e in
    ap (fault_in version1) s.is ∙ (accepted_held f s.said s.rest s.accepted).1
