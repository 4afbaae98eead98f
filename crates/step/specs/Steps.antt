-- What does one step of the walk read, and what does the page hold when a plan comes by?
use Rattle.std.specs.Prelude.{List, [], ◌∷◌, ◌++◌, Bool, ◌&&◌, cond, ℕ, suc, ◌+◌, ◌*◌, ltb, get_or, take, drop, ℤ, pos, ◌+ℤ◌, ◌-ℤ◌, ◌*ℤ◌}
use Rattle.std.proofs.Math.Seq.{paste}
use Rattle.std.specs.Int.Signed.{le_z}
use Rattle.laws.specs.Lists.{every, from}
use Rattle.meaning.specs.Plan.{allows}
use Rattle.lent.specs.Lanes.{sums}
use Rattle.slot.specs.Rows.{lanes_of}
use Rattle.slot.specs.Tables.{coefs_in, weights_in, leasts_in, mosts_in, values_in, sets_in}

-- the totals with rule r's low up and high up, which stand at 4r + 3 and 4r + 4 of the node's cells, may lie in lb..ub
abbrev pub may_keep : ℕ → List ℤ → List ℤ → List ℤ → ℕ → List ℤ → Bool
may_keep m lb ub cells at totals =
    let z = pos 0 in
    every (λ r. le_z (get_or totals r z +ℤ get_or cells (at + 4 * r + 3) z) (get_or ub r z) && le_z (get_or lb r z) (get_or totals r z +ℤ get_or cells (at + 4 * r + 4) z)) (from 0 m)

-- eight totals with the shares of slot i and step v, by the tables of parts
abbrev pub with_shares : List ℤ → List ℕ → ℕ → ℕ → List ℤ → List ℤ
with_shares coefs values i v totals = sums totals (lanes_of (take 8 (drop (i * 8) coefs)) (take 8 (drop (i * 8) values)) v)

-- ---- the trail: for each slot the totals before it and what is left of the ceiling
abbrev pub totals_at : ℕ → List ℤ → List ℤ
totals_at i trail = take 8 (drop (i * 9) trail)

abbrev pub budget_at : ℕ → List ℤ → ℤ
budget_at i trail = get_or trail (i * 9 + 8) (pos 0)

-- what step v of slot i leaves of the ceiling
abbrev pub rest_at : List ℤ → ℕ → ℕ → List ℤ → ℤ
rest_at coefs i v trail = budget_at i trail -ℤ get_or (weights_in coefs) i (pos 0) *ℤ pos v

-- the totals behind it
abbrev pub here_at : List ℤ → List ℕ → ℕ → ℕ → List ℤ → List ℤ
here_at coefs values i v trail = with_shares (coefs_in coefs) (values_in values) i v (totals_at i trail)

-- the slot allows the step, the sink is within what it leaves, and every rule may still be kept
abbrev pub goes_on : ℕ → List ℤ → List ℕ → ℕ → ℕ → List ℤ → ℕ → List ℤ → Bool
goes_on m coefs values i v cells at trail =
    (allows 8 (get_or (sets_in values) i 0) v && le_z (get_or cells (at + 4 * m + 2) (pos 0)) (rest_at coefs i v trail))
    && may_keep m (leasts_in coefs) (mosts_in coefs) cells at (here_at coefs values i v trail)

-- the trail with the level behind step v of slot i
abbrev pub trod : List ℤ → List ℕ → ℕ → ℕ → List ℤ → List ℤ
trod coefs values i v trail = paste trail ((i + 1) * 9) (here_at coefs values i v trail ++ (rest_at coefs i v trail ∷ [])) 9

-- what stands on a page, and how many plans came by: at most one more than it has room for
pub record Laid : Type 0 where
  pub page : List ℕ
  pub seen : ℕ

-- a plan of n steps comes by, on a page with room for cap
abbrev pub laying : ℕ → ℕ → Laid → List ℕ → Laid
laying n cap s p =
    let page = cond (ltb s.seen cap) (paste s.page (s.seen * n) p n) s.page in
    cond (ltb cap s.seen) s (record { page = page; seen = suc s.seen })
