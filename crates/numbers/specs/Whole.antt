-- When may the passes run, and what stands in the cells between them?
use Rattle.std.specs.Prelude.{◌≡◌, List, map, Bool, true, false, ℕ, suc, ◌+◌, ◌*◌, ◌≤◌, ◌<◌, length, get_or, take, replicate, ℤ, pos}
use Rattle.laws.specs.Z.{Within}
use Rattle.laws.specs.Lists.{flat, from, padded}
use Rattle.meaning.specs.Plan.{Campaign, slots}
use Rattle.meaning.specs.Problem.{version1}
use Rattle.meaning.specs.Filter.{Numbers, zeros, down_numbers}
use Rattle.meaning.specs.Buffers.{arcs_need, arcs_in, of_form, node_need, node_cells}
use Rattle.lent.specs.Vec.{lanes_of}
use Rattle.problem.specs.Held.{fault_in}
use Rattle.problem.specs.declared.Problem.{Problem}

-- the problem has no fault, and the width is in range
pub record Ready (p : Problem) (w : ℕ) : Type 0 where
  pub right : fault_in version1 p ≡ 0
  pub some : 1 ≤ w
  pub few : w ≤ 16

-- n slots, m rules and w nodes to a layer, and as many bytes of arcs and cells as they need
pub record Sized (n m w bytes numbers : ℕ) : Type 0 where
  pub slots : n ≤ 24
  pub rules : m ≤ 8
  pub width : w ≤ 16
  pub arcs : bytes ≡ n * (w * 8)
  pub cells : numbers ≡ n * (w * (4 * m + 3)) + w * (4 * m + 3)
  pub few : numbers ≤ 14000

-- at most eight rules, each bound in its range
pub record Bounding (m : ℕ) (lbs ubs : List ℤ) : Type 0 where
  pub few : m ≤ 8
  pub low : (r : ℕ) → r < m → Within 200000 (get_or lbs r (pos 0))
  pub high : (r : ℕ) → r < m → Within 200000 (get_or ubs r (pos 0))

-- the limit of a round: the bounds of m rules and the ceiling
abbrev pub limit_lanes : ℕ → List ℤ → List ℤ → ℤ → List ℤ
limit_lanes m lbs ubs c = lanes_of (pos 2000000) (map (λ k. get_or ubs k (pos 0)) (from 0 m)) (map (λ k. get_or lbs k (pos 0)) (from 0 m)) c

-- bytes of exactly the need, of the form "0 to W, for the last slot 0 or 1", whoever made them
pub record Formed (q : Campaign) (w : ℕ) (b : List ℕ) : Type 0 where
  pub long : length b ≡ arcs_need q w
  pub form : of_form w (arcs_in q w b) ≡ true

-- between the passes: the down numbers of every node, the up numbers at zero
abbrev pub half_cells : Campaign → ℕ → List (List Numbers) → List ℤ
half_cells q w ds = flat (map (λ l. flat (padded w (replicate (node_need q) (pos 0)) (map (λ d. node_cells (node_need q) d (zeros q)) l))) ds)

-- the down numbers of the layers up to `from` stand in the cells already, unless it is the first
pub record Standing (q : Campaign) (w from : ℕ) (arcs : List ℕ) (cells : List ℤ) : Type 0 where
  pub most : from ≤ slots q
  pub are : 0 < from → let k = suc from * (w * node_need q) in take k cells ≡ take k (half_cells q w (down_numbers q (arcs_in q w arcs)))

-- r is the first of n layers that lost an arc, or n: above it no byte changed, and, if the test is not free, no cell up to it
pub record Fell (n bytes size : ℕ) (arcs arcs' : List ℕ) (cells cells' : List ℤ) (free : Bool) (r : ℕ) : Type 0 where
  pub most : r ≤ n
  pub none : r ≡ n → arcs' ≡ arcs
  pub above : take (r * bytes) arcs' ≡ take (r * bytes) arcs
  pub up_to : free ≡ false → r < n → take (suc r * size) cells' ≡ take (suc r * size) cells
  pub long : length cells' ≡ length cells
