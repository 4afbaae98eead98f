-- Which campaigns are small enough for 17 lanes to a node, and how large do a node's numbers get after some slots?
use Rattle.std.specs.Prelude.{◌≡◌, ℕ, ◌*◌, ◌≤◌, ◌<◌, length, ℤ, pos}
use Rattle.std.proofs.Math.Option.{none, some}
use Rattle.laws.specs.Z.{Within}
use Rattle.laws.proofs.Each.{Each}
use Rattle.meaning.specs.Plan.{Campaign}
use Rattle.meaning.specs.Diagram.{Pair, State, Arcs}
use Rattle.meaning.specs.Filter.{Numbers}

-- 8 steps, at most 24 slots and 8 rules; shares, prices and bounds of version 1, and no lead-ins
pub record Small (q : Campaign) : Type 0 where
  pub steps : q.steps ≡ 8
  pub slots : length q.sets ≤ 24
  pub rules : length q.rules ≤ 8
  pub shares : Each (λ r. (i v : ℕ) → v < 8 → Within 7000 (r.share i v)) q.rules
  pub prices : (i v : ℕ) → v < 8 → Within 70000 (q.price i v)
  pub starts : Each (λ r. r.start ≡ pos 0) q.rules
  pub bounds : Each (λ r. Within 200000 r.lb × Within 200000 r.ub) q.rules

-- a pair after h slots
abbrev pub FitPair : ℕ → Pair → Type 0
FitPair h p = Within (7000 * h) p.0 × Within (7000 * h) p.1

-- numbers after h slots: a pair for each rule, and a cost
pub record FitSome (q : Campaign) (h : ℕ) (a : State × ℤ) : Type 0 where
  pub long : length a.0 ≡ length q.rules
  pub pairs : Each (FitPair h) a.0
  pub cost : Within (70000 * h) a.1

-- if there are any
abbrev pub Fit : Campaign → ℕ → Numbers → Type 0
Fit q h none = Unit {0}
Fit q h (some a) = FitSome q h a

-- no node has more than 8 bytes
abbrev pub FewBytes : Arcs → Type 0
FewBytes a = Each (Each (λ bs. length bs ≤ 8)) a
