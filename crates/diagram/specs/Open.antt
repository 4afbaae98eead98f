-- Past the refusals: is the width right, and have the buffers that are lent room?
use Rattle.std.specs.Prelude.{◌≡◌, List, ℕ, ◌≤◌, length, ℤ}
use Rattle.meaning.specs.Buffers.{arcs_need, cells_need}
use Rattle.problem.specs.declared.Problem.{Problem}
use Rattle.problem.specs.Held.{campaign_of}
use Rattle.numbers.specs.Whole.{Ready}

pub record Open (p : Problem) (w : ℕ) (arcs : List ℕ) (cells : List ℤ) : Type 0 where
  pub ready : Ready p w
  pub long : length p.sets ≡ 24
  pub bytes : arcs_need (campaign_of p) w ≤ length arcs
  pub room : cells_need (campaign_of p) w ≤ length cells
