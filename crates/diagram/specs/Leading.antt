-- Along which step does a node's cost up lead, as the cells tell it, and when may the path be followed?
use Rattle.std.specs.Prelude.{◌≡◌, List, [], ◌∷◌, Bool, false, cond, ℕ, zero, suc, ◌+◌, ◌*◌, ◌≤◌, length, get_or, ℤ, pos, ◌+ℤ◌, ◌*ℤ◌}
use Rattle.laws.specs.Z.{eq_z, Within}
use Rattle.laws.proofs.Each.{Each}
use Rattle.meaning.specs.Plan.{slots}
use Rattle.meaning.specs.Filter.{restricted_arcs}
use Rattle.meaning.specs.Buffers.{cells_need, number_cells}
use Rattle.problem.specs.declared.Problem.{Problem}
use Rattle.problem.specs.Held.{campaign_of}
use Rattle.lent.specs.Wide.{laid}
use Rattle.numbers.specs.Whole.{Ready}

-- an arc with step v reaches the cost: the child's cost up, which is the last of its 4m + 3 cells, plus the price
abbrev pub reached_cell : ℕ → ℤ → List ℤ → ℤ → ℕ → ℕ → Bool
reached_cell m weight cells cost v zero = false
reached_cell m weight cells cost v (suc k) = eq_z (get_or cells (k * (4 * m + 3) + 4 * m + 2) (pos 0) +ℤ weight *ℤ pos v) cost

-- the first step, from v on, whose byte does; the one behind the last where none does
abbrev pub first_cell : ℕ → ℤ → List ℤ → ℤ → ℕ → List ℕ → ℕ
first_cell m weight cells cost v [] = v
first_cell m weight cells cost v (b ∷ bs) = cond (reached_cell m weight cells cost v b) v (first_cell m weight cells cost (suc v) bs)

-- a node's eight bytes lead to nodes whose cells stand there
pub record Led (m : ℕ) (weight : ℤ) (arcs : List ℕ) (cells : List ℤ) : Type 0 where
  pub few : m ≤ 8
  pub small : Within 10000 weight
  pub eight : length arcs ≡ 8
  pub there : Each (λ b. b * (4 * m + 3) ≤ length cells) arcs
  pub inside : Each (Within 4000000) cells

-- the buffers hold the restricted diagram, and its source is present
pub record Leads (p : Problem) (w : ℕ) (arcs : List ℕ) (cells : List ℤ) : Type 0 where
  pub ready : Ready p w
  pub slots_are : slots (campaign_of p) ≡ p.slots
  pub arcs_are : arcs ≡ laid 8 w (restricted_arcs (campaign_of p) w)
  pub cells_are : cells ≡ number_cells (campaign_of p) w (cells_need (campaign_of p) w) (restricted_arcs (campaign_of p) w)
  pub present : get_or cells 0 (pos 0) ≡ pos 0 → ⊥
