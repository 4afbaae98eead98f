-- Which plans does a beginning of a plan lead to, along any arcs, and in which order does the walk lay them on the page?
use Rattle.std.specs.Prelude.{◌≡◌, List, [], ◌∷◌, ◌++◌, map, Bool, true, not, ◌&&◌, cond, ℕ, suc, ◌+◌, ◌*◌, ◌-◌, ◌≤◌, ◌<◌, eqb, length, get_or, take, drop, ℤ, pos, ◌+ℤ◌, ◌*ℤ◌}
use Rattle.std.proofs.Math.Option.{none}
use Rattle.std.specs.Int.Signed.{le_z}
use Rattle.laws.specs.Z.{Within}
use Rattle.laws.specs.Lists.{keep}
use Rattle.laws.proofs.Each.{Each}
use Rattle.meaning.specs.Plan.{Rule, Campaign, slots, summed, total, plans, after, allows}
use Rattle.meaning.specs.Diagram.{Arcs}
use Rattle.meaning.specs.Filter.{down_numbers, up_numbers}
use Rattle.meaning.specs.Bound.{walks}
use Rattle.meaning.specs.Buffers.{node_need, arcs_in, of_form, all_cells}
use Rattle.slot.specs.Rows.{lanes_of}
use Rattle.step.specs.Steps.{Laid, laying}

-- ---- the rest of a plan, from slot i on
-- it keeps every rule, from the totals ts on
abbrev pub keeps_from : List Rule → ℕ → List ℤ → List ℕ → Bool
keeps_from [] i ts p = true
keeps_from (r ∷ rs) i [] p = true
keeps_from (r ∷ rs) i (t ∷ ts) p = (le_z r.lb (t +ℤ total r i p) && le_z (t +ℤ total r i p) r.ub) && keeps_from rs i ts p

-- it leads from node j to the sink, keeps every rule, and costs at most what is left of the ceiling
abbrev pub fits : Campaign → ℕ → Arcs → ℕ → List ℤ → ℤ → List ℕ → Bool
fits q i a j ts c p = walks a j p && (keeps_from q.rules i ts p && le_z (summed q.price i p) c)

-- "strictly after the start", whose own rest is s, if the steps so far are the start's own
abbrev pub behind : Bool → List ℕ → List ℕ → Bool
behind own s p = cond own (after s p) true

-- every rest that fits, in dictionary order
abbrev pub rests : Campaign → Arcs → ℕ → ℕ → List ℤ → ℤ → Bool → List ℕ → List (List ℕ)
rests q a i j ts c own s = keep (behind own s) (keep (fits q i (drop i a) j ts c) (plans q.steps (drop i q.sets)))

-- plans that come by one after the other
abbrev pub lay_all : ℕ → ℕ → Laid → List (List ℕ) → Laid
lay_all n cap s [] = s
lay_all n cap s (p ∷ ps) = lay_all n cap (laying n cap s p) ps

-- ---- a step
-- where the steps begin: at the start's own
abbrev pub first_of : Bool → List ℕ → ℕ
first_of own s = cond own (get_or s 0 0) 0

-- an arc of a step that the slot allows, to a node whose cost up, the last of its 4m + 3 cells, is within the budget
abbrev pub is_open : ℕ → ℕ → ℕ → ℕ → ℕ → List ℤ → ℤ → Bool
is_open m set v b next cells budget =
    not (eqb b 0) && (allows 8 set v && le_z (get_or cells ((next + b - 1) * (4 * m + 3) + 4 * m + 2) (pos 0)) budget)

-- ---- what the arrays and buffers say
-- the arrays and buffers are long enough, and what they hold is in range
pub record Walkable (n m w : ℕ) (weights coefs : List ℤ) (arcs : List ℕ) (cells : List ℤ) : Type 0 where
  pub slots_few : n ≤ 24
  pub rules_few : m ≤ 8
  pub nodes_some : 1 ≤ w
  pub nodes_few : w ≤ 16
  pub bytes : length arcs ≡ 8 * n * w
  pub numbers : length cells ≡ suc n * w * (4 * m + 3)
  pub lead : Each (λ b. b ≤ w) arcs
  pub inside : Each (Within 4000000) cells
  pub priced : (i : ℕ) → i < n → Within 10000 (get_or weights i (pos 0))
  pub counted : Each (Within 1000) coefs

-- they say the campaign q; the bytes are those of the arcs a, "0 to W, for the last slot 0 or 1", and the cells hold the numbers of a
pub record Steers (q : Campaign) (a : Arcs) (n m w : ℕ) (sets : List ℕ) (weights lb ub coefs : List ℤ) (values arcs : List ℕ) (cells : List ℤ) : Type 0 where
  pub eight : q.steps ≡ 8
  pub sets_are : q.sets ≡ take n sets
  pub slots_are : slots q ≡ n
  pub rules_are : length q.rules ≡ m
  pub prices_are : (i v : ℕ) → i < n → v < 8 → q.price i v ≡ get_or weights i (pos 0) *ℤ pos v
  pub shares_are : (i v : ℕ) → i < n → v < 8 → map (λ r. r.share i v) q.rules ≡ take m (lanes_of (take 8 (drop (i * 8) coefs)) (take 8 (drop (i * 8) values)) v)
  pub lbs_are : map (λ r. r.lb) q.rules ≡ take m lb
  pub ubs_are : map (λ r. r.ub) q.rules ≡ take m ub
  pub arcs_are : a ≡ arcs_in q w arcs
  pub formed : of_form w a ≡ true
  pub cells_are : cells ≡ all_cells (node_need q) w (down_numbers q a) (up_numbers q a)

-- a beginning stands at node j of layer i: arcs lead there from the source, and at the sink it is a plan that fits
pub record Stands (q : Campaign) (a : Arcs) (i j : ℕ) (ts : List ℤ) (c : ℤ) : Type 0 where
  pub reached : get_or (get_or (down_numbers q a) i []) j none ≡ none → ⊥
  pub ends : i ≡ slots q → fits q i [] j ts c [] ≡ true

-- what the recursion promises at node j of layer i: for whatever campaign and arcs they say, every rest of the plan's first i steps
-- comes by, in order; the plan's other steps are the start's rest, where its first i are the start's own
abbrev pub Finds : ℕ → ℕ → ℕ → List ℕ → List ℤ → List ℤ → List ℤ → List ℤ → List ℕ → List ℕ → List ℤ → Bool → ℕ → ℕ → List ℤ → ℤ → List ℕ → ℕ → List ℕ → ℕ → List ℕ → ℕ → Type 0
Finds n m w sets weights lb ub coefs values arcs cells own i j totals budget plan cap page seen later r =
    (q : Campaign) (a : Arcs) → Steers q a n m w sets weights lb ub coefs values arcs cells → Stands q a i j (take m totals) budget
    → record { page = later; seen = r } ≡ lay_all n cap (record { page = page; seen = seen }) (map (λ p. take i plan ++ p) (rests q a i j (take m totals) budget own (take (n - i) (drop i plan))))
