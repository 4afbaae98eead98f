-- Which states do the children of a layer's nodes have, and which of them are one class?
use Rattle.std.specs.Prelude as rust
use Rattle.std.specs.Prelude.{Some, None, MatchOption, ◌≡◌, List, [], ◌∷◌, map, true, false, ◌&&◌, cond, ℕ, zero, suc, ◌+◌, ◌*◌, ◌/◌, ◌%◌, ◌<◌, ◌≤◌, eqb, length, get_or, ℤ, pos}
use Rattle.std.proofs.Math.Option.{Option, none, some}
use Rattle.laws.specs.Lists.{place, from}
use Rattle.laws.specs.Z.{Within}
use Rattle.laws.proofs.Each.{Each}
use Rattle.meaning.specs.Plan.{allows}
use Rattle.meaning.specs.Problem.{step_count}
use Rattle.meaning.specs.Diagram.{State, eq_state, Node, has, distinct}
use Rattle.state.specs.Pairs.{Inside, added, fits_in, pairs_at, shares_at, key_of, bucket_of}
use Rattle.lent.proofs.FirstOrder.{AllDiffer}
use Rattle.classes.specs.declared.Chains.{Chains}

-- ---- children
-- a layer's row has 17 lanes for each of 16 nodes, a slot's row 8 shares for each of 8 steps and their prices; shares within 10,000
pub record Held (here row : List ℤ) : Type 0 where
  pub nodes : length here ≡ 272
  pub slot : length row ≡ 72
  pub wide : Each (Within 4000000) here
  pub shares : (v : ℕ) → v < 8 → Inside 10000 (shares_at row v)

-- the first nodes have totals within 190,000; behind them stand nodes without numbers
pub record Totalled (here : List ℤ) (nodes : ℕ) : Type 0 where
  pub few : nodes ≤ 16
  pub totals : (j : ℕ) → j < nodes → Inside 190000 (pairs_at here (j * 17))

-- the state of child f: step f % 8 of node f / 8
abbrev pub state_at : List ℤ → List ℤ → ℕ → State
state_at here row f = added (pairs_at here (f / 8 * 17)) (shares_at row (f % 8))

-- child f, where the arc exists
abbrev pub arrival_at : List ℤ → List ℤ → ℕ → State → ℕ → Option Node
arrival_at here row set limit f =
    let c = state_at here row f in
    cond (allows step_count set (f % 8) && fits_in c limit) (some (c, pos 0)) none

-- the keys of the first nodes, and from place 16 on those of the steps' shares
pub record Keyed (here row : List ℤ) (nodes : ℕ) (keys : List ℤ) : Type 0 where
  pub few : nodes ≤ 16
  pub long : length keys ≡ 24
  pub node : (j : ℕ) → j < nodes → get_or keys j (pos 0) ≡ key_of (pairs_at here (j * 17))
  pub step : (v : ℕ) → v < 8 → get_or keys (16 + v) (pos 0) ≡ key_of (shares_at row v)
  pub node_small : (j : ℕ) → j < nodes → Within 720000000 (get_or keys j (pos 0))
  pub steps_small : (v : ℕ) → v < 8 → Within 40000000 (get_or keys (16 + v) (pos 0))

-- ---- classes
-- the first classes, each by its first child
abbrev pub classes_in : List ℤ → List ℤ → List ℕ → ℕ → List Node
classes_in here row firsts count = map (λ k. (state_at here row (get_or firsts k 0), pos 0)) (from 0 count)

abbrev pub classes_of : List ℤ → List ℤ → Chains → List Node
classes_of here row chains = classes_in here row chains.firsts chains.count

abbrev pub no_node : Node
no_node = ([], pos 0)

-- the class of an arrival plus 1, 0 for no arc
abbrev pub class_byte : List Node → Option Node → ℕ
class_byte ts none = 0
class_byte ts (some c) = suc (place (has c.0) ts)

-- as code says it
abbrev pub byte_of : rust.Option ℕ → ℕ
byte_of None = 0
byte_of (Some k) = k + 1

-- the newest of the first k nodes in a bucket, plus 1; 0 for none
abbrev pub latest : List Node → ℕ → ℕ → ℕ
latest ts s zero = 0
latest ts s (suc k) = cond (eqb (bucket_of (get_or ts k no_node).0) s) (suc k) (latest ts s k)

-- the first `count` entries are children
pub record Laid (firsts : List ℕ) (count : ℕ) : Type 0 where
  pub long : length firsts ≡ 128
  pub few : count ≤ 128
  pub low : (k : ℕ) → k < count → get_or firsts k 0 < 128

-- each class is linked to the next older one of its bucket
pub record Linked (ts : List Node) (older : List ℕ) : Type 0 where
  pub long : length older ≡ 128
  pub link : (k : ℕ) → k < length ts → get_or older k 0 ≡ latest ts (bucket_of (get_or ts k no_node).0) k

-- the classes so far: all different, linked, with a head for each bucket
pub record Seen (here row : List ℤ) (chains : Chains) : Type 0 where
  pub laid : Laid chains.firsts chains.count
  pub linked : Linked (classes_of here row chains) chains.older
  pub long : length chains.heads ≡ 256
  pub each : (s : ℕ) → s < 256 → get_or chains.heads s 0 ≡ latest (classes_of here row chains) s chains.count
  pub differ : AllDiffer (classes_of here row chains)

-- child f has the state t, and there is room for one class more
pub record Fresh (here row : List ℤ) (f count : ℕ) (t : State) : Type 0 where
  pub below : f < 128
  pub room : count ≤ f
  pub is : t ≡ state_at here row f

-- no node has the state, or node k has it
abbrev pub Found : State → List Node → rust.Option ℕ → Type 0
Found t ts o = MatchOption o (Each (λ n. eq_state t n.0 ≡ false) ts) (λ k. (k < length ts) × (eq_state t (get_or ts k no_node).0 ≡ true))

-- the classes after one arrival, and the arrival's class
pub record Classed (here row : List ℤ) (before after : Chains) (o : Option Node) (class : rust.Option ℕ) : Type 0 where
  pub is : classes_of here row after ≡ distinct (classes_of here row before) (o ∷ [])
  pub seen : Seen here row after
  pub grows : after.count ≤ before.count + 1
  pub low : byte_of class ≤ after.count
  pub byte : byte_of class ≡ class_byte (classes_of here row after) o

abbrev pub Arrived : List ℤ → List ℤ → Chains → Chains → State → ℕ → Type 0
Arrived here row before after t k = Classed here row before after (some (t, pos 0)) (Some k)
