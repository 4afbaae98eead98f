-- What is lane by lane the least of a slot's row over some steps, and what stands in the table of reaches?
use Rattle.std.specs.Prelude.{◌≡◌, List, [], ◌∷◌, ◌++◌, map, ℕ, ◌*◌, ◌≤◌, length, drop, replicate, ℤ, pos, neg_ℤ}
use Rattle.laws.specs.Lists.{padded}
use Rattle.meaning.specs.Plan.{Campaign, slots}
use Rattle.meaning.specs.Diagram.{reaches}
use Rattle.lent.specs.Lanes.{leasts}
use Rattle.slot.specs.Rows.{lanes_of}
use Rattle.lent.specs.Passes.{nowhere}
use Rattle.state.specs.Pairs.{Inside, pairs_at}

-- eight shares by a slot's parts, eight with their sign turned, no price
abbrev pub step_lanes : List ℤ → List ℕ → ℕ → List ℤ
step_lanes coefs values v = lanes_of coefs values v ++ map neg_ℤ (lanes_of coefs values v) ++ (pos 0 ∷ [])

-- the least of some lanes and those of some steps more
abbrev pub least_more : (ℕ → List ℤ) → List ℤ → List ℕ → List ℤ
least_more lanes s [] = s
least_more lanes s (v ∷ vs) = least_more lanes (leasts s (lanes v)) vs

-- over some steps; of none it is zero
abbrev pub least_over : (ℕ → List ℤ) → List ℕ → List ℤ
least_over lanes [] = replicate 17 (pos 0)
least_over lanes (v ∷ vs) = least_more lanes nowhere (v ∷ vs)

-- the reach of every layer, 17 lanes to a layer
pub record Reached (q : Campaign) (table : List ℤ) : Type 0 where
  pub long : length table ≡ 425
  pub is : (i : ℕ) → i ≤ slots q → pairs_at table (i * 17) ≡ padded 8 (pos 0, pos 0) (reaches q i (drop i q.sets))
  pub small : (i : ℕ) → i ≤ slots q → Inside 200000 (pairs_at table (i * 17))
