-- Which state do the shares of a step make, and what does a loop over them add or take at each turn?
use mathlib.Core.Path.{◌≡◌, refl, sym, ap, ◌∙◌}
use mathlib.Core.List.{List, [], ◌∷◌, ◌++◌, map}
use Prim.Native.Nat.{ℕ, ◌+◌, ◌*◌, ◌≤◌, ◌<◌}
use native.Mathlib.Omega.{arith}
use lib.IntN.{ℤ, pos, neg_ℤ, ◌+ℤ◌, ◌-ℤ◌}
use lib.ListN.{length, get_or, set, take, drop, length-map, length-drop, length-append}
use lib.Seq.{length-take-le, get_or-take, get_or-drop}
use mir.Syntax.{w32}
use mir.Val.{SFits}
use Rattle.laws.specs.Z.{zarith, dif, neg, Within, back, back_is}
use Rattle.laws.proofs.Lists.{get_or_map}
use Rattle.laws.proofs.Each.{Each, each_map, each_take, each_drop, each_at}
use Rattle.lent.specs.Lanes.{arc_at, sums}
use Rattle.lent.proofs.Lanes.{neg_neg, neg_sum, zipped_append}
use Rattle.meaning.specs.Diagram as paper
use Rattle.state.specs.declared.Pair.{Pair}
use Rattle.state.specs.Pairs.{pair_of, Inside, added, shares_at, unpaired}
use Rattle.state.proofs.Joined.{no_pair, add}
use Rattle.state.proofs.Sizes.{sum_back, dif_fits, dif_back}
use Rattle.state.proofs.Turns.{filled, stored, zero_pair, inside_at, JoinedTo, join_more}
use Rattle.state.proofs.Rows.{unpaired_length, unpaired-added}

-- ---- the lanes of shares: the shares, and the same with their signs turned
share_lows : (l : List ℤ) → map (λ (p : paper.Pair). p.0) (map (λ z. (z, z)) l) ≡ l
share_lows [] = refl
share_lows (z ∷ l) = ap (λ (m : List ℤ). z ∷ m) (share_lows l)

share_highs : (l : List ℤ) → map (λ (p : paper.Pair). neg_ℤ p.1) (map (λ z. (z, z)) l) ≡ map neg_ℤ l
share_highs [] = refl
share_highs (z ∷ l) = ap (λ (m : List ℤ). neg_ℤ z ∷ m) (share_highs l)

-- no greater than the numbers of the row
pub inside_shares : (b : ℕ) (row : List ℤ) (v : ℕ) → Each (Within b) row → Inside b (shares_at row v)
inside_shares b row v h =
    each_map (Within b) (λ p. Within b p.0 × Within b p.1) (λ z. (z, z)) (λ z k. (k, k)) (take 8 (drop (v * 8) row)) (each_take (Within b) 8 (drop (v * 8) row) (each_drop (Within b) (v * 8) row h))

module _ (row : List ℤ) (v : ℕ) (h : v < 8) (room : 64 ≤ length row) where
  eight : length (take 8 (drop (v * 8) row)) ≡ 8
  eight = length-take-le 8 (drop (v * 8) row) (omega (arith, length-drop (v * 8) row))

  pub shares_length : length (shares_at row v) ≡ 8
  shares_length = length-map (take 8 (drop (v * 8) row)) (λ z. (z, z)) ∙ eight

  -- the pair of place k
  shares_at_lem : (k : ℕ) → k < 8 → get_or (shares_at row v) k no_pair ≡ (get_or row (v * 8 + k) (pos 0), get_or row (v * 8 + k) (pos 0))
  shares_at_lem k b =
      let there : get_or (take 8 (drop (v * 8) row)) k (pos 0) ≡ get_or row (v * 8 + k) (pos 0) = get_or-take 8 (drop (v * 8) row) k (pos 0) b ∙ get_or-drop (v * 8) row k (pos 0) in
      get_or_map (λ z. (z, z)) (take 8 (drop (v * 8) row)) k (pos 0) no_pair (omega (arith, eight)) ∙ ap (λ (z : ℤ). (z, z)) there

  -- how large its share is
  pub share_within : (b k : ℕ) → k < 8 → Inside b (shares_at row v) → Within b (get_or row (v * 8 + k) (pos 0))
  share_within b k l i =
      (rw (shares_at_lem k l) at (each_at (λ p. Within b p.0 × Within b p.1) (shares_at row v) k no_pair (record { size = omega arith }, record { size = omega arith }) i)).0

  -- a child's lanes and cost are its parent's with those of the arc added
  pub arc_lanes : (t : paper.State) (cost : ℤ) → length t ≡ 8 → unpaired (added t (shares_at row v)) ++ ((cost +ℤ get_or row (64 + v) (pos 0)) ∷ []) ≡ sums (unpaired t ++ (cost ∷ [])) (arc_at row v)
  arc_lanes t cost long =
      let shares = take 8 (drop (v * 8) row) in
      let same = unpaired-added t (shares_at row v) (long ∙ sym shares_length) in
      let halves : unpaired (shares_at row v) ≡ shares ++ map neg_ℤ shares = (λ i. share_lows shares i ++ share_highs shares i) in
      rw (same, halves)
      (sym
      (zipped_append ◌+ℤ◌ (unpaired t) (shares ++ map neg_ℤ shares) (cost ∷ []) (get_or row (64 + v) (pos 0) ∷ [])
      (unpaired_length t ∙ omega (arith, length-append shares (map neg_ℤ shares), length-map shares neg_ℤ, eight))))

  -- ---- turns of the loops that add the shares to a state, and take them for one
  module _ (k : ℕ) (l : k < 8) (j : Inside 10000000 (shares_at row v)) where
    pub child_more : (s t : List Pair) → length s ≡ 8 → Inside 10000000 (map pair_of s) → JoinedTo add s (shares_at row v) k t
        → JoinedTo add s (shares_at row v) (k + 1) (set t k (record { lo = back (back (get_or s k zero_pair).lo +ℤ back (get_or row (v * 8 + k) (pos 0))); hi = back (back (get_or s k zero_pair).hi -ℤ back (get_or row (v * 8 + k) (pos 0))) }))
    child_more s t long i e =
        let p = get_or s k zero_pair in
        let x = get_or row (v * 8 + k) (pos 0) in
        let f = inside_at 10000000 s k i in
        let g = share_within 10000000 k l j in
        let high : neg_ℤ (p.hi -ℤ x) ≡ neg_ℤ p.hi +ℤ x = neg_sum p.hi (neg_ℤ x) ∙ ap (λ (z : ℤ). neg_ℤ p.hi +ℤ z) (neg_neg x) in
        join_more add s (shares_at row v) long shares_length t k (record { lo = back (back p.lo +ℤ back x); hi = back (back p.hi -ℤ back x) }) l e
        (rw (sum_back f.0 g, dif_back f.1 g, shares_at_lem k l) (ap (λ (z : ℤ). (p.lo +ℤ x, z)) high))

    zero_within : Within 10000000 (pos 0)
    zero_within = record { size = omega arith }

    pub turned_fits : SFits w32 (pos 0 -ℤ back (get_or row (v * 8 + k) (pos 0)))
    turned_fits = dif_fits zero_within (share_within 10000000 k l j)

    pub shares_more : (s : List Pair) (a : paper.State) → length a ≡ 8 → map pair_of s ≡ filled k (shares_at row v) a
        → map pair_of (set s k (record { lo = back (get_or row (v * 8 + k) (pos 0)); hi = back (pos 0 -ℤ back (get_or row (v * 8 + k) (pos 0))) })) ≡ filled (k + 1) (shares_at row v) a
    shares_more s a n e =
        let x = get_or row (v * 8 + k) (pos 0) in
        let g = share_within 10000000 k l j in
        let high : neg_ℤ (pos 0 -ℤ x) ≡ x = omega (zarith, dif (pos 0) x, neg (pos 0 -ℤ x)) in
        stored pair_of s k (record { lo = back x; hi = back (pos 0 -ℤ back x) }) (shares_at row v) a no_pair (omega (arith, shares_length)) (omega arith) e
        (rw (dif_back zero_within g, back_is g tt, shares_at_lem k l) (ap (λ (z : ℤ). (x, z)) high))
