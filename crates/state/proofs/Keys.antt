-- How large does the key of a state become, do equal states have one bucket, and what is the key of a sum?
use mathlib.Core.Path.{◌≡◌, refl, sym, ap, ◌∙◌}
use mathlib.Core.List.{List, [], ◌∷◌, map}
use mathlib.Core.Bool.{true, ◌&&◌, true≢false}
use Prim.Native.Nat.{ℕ, zero, suc, ◌+◌, ◌*◌, ◌≤◌, ◌<◌}
use native.Mathlib.Nat.{mul-le-mul, mul-le-mul_right, mul-add, add-mul}
use native.Mathlib.Numerals.{add-one}
use native.Mathlib.Omega.{arith}
use lib.IntN.{ℤ, pos, negsuc, nat_abs, ◌+ℤ◌, ◌*ℤ◌, +ℤ_idl, +ℤ_idr, *ℤ-negsuc}
use lib.ListN.{length, get_or, take, length-map}
use Rattle.laws.specs.Z.{zarith, up, dn, sum, neg, assoc, mul_size, sum_size, Within, back, back_is, eq_z, eq_z→}
use Rattle.laws.proofs.Lists.{get_or_map, and_l, and_r}
use Rattle.lent.proofs.Lanes.{neg_sum}
use Rattle.meaning.specs.Diagram as paper
use Rattle.state.specs.declared.Pair.{Pair}
use Rattle.state.specs.Pairs.{pair_of, Inside, added, keyed, key_of, bucket_of}
use Rattle.state.proofs.Joined.{no_pair}
use Rattle.state.proofs.Turns.{zero_pair, inside_at}

-- the numbers of the eight places
abbrev pub times : List ℤ
times = pos 613 ∷ pos 397 ∷ pos 511 ∷ pos 301 ∷ pos 459 ∷ pos 547 ∷ pos 271 ∷ pos 653 ∷ []

-- ---- sizes
abbrev total : List ℤ → ℕ
total [] = 0
total (x ∷ xs) = nat_abs x + total xs

total_take : (k : ℕ) (xs : List ℤ) → total (take k xs) ≤ total xs
total_take zero xs = omega arith
total_take (suc k) [] = omega arith
total_take (suc k) (x ∷ xs) = omega (arith, total_take k xs)

total_at : (k : ℕ) (xs : List ℤ) → nat_abs (get_or xs k (pos 0)) ≤ total xs
total_at k [] = omega arith
total_at zero (x ∷ xs) = omega arith
total_at (suc k) (x ∷ xs) = omega (arith, total_at k xs)

keyed_size : (b : ℕ) (xs : List ℤ) (t : paper.State) → Inside b t → nat_abs (keyed xs t) ≤ b * total xs
keyed_size b [] t h = omega arith
keyed_size b (x ∷ xs) [] h = omega arith
keyed_size b (x ∷ xs) (p ∷ t) h =
    let one = mul-le-mul_right (nat_abs x) h.0.0.size in
    omega (arith, sum_size (p.0 *ℤ x) (keyed xs t) {m = b * nat_abs x} {n = b * total xs} (omega (arith, mul_size p.0 x)) (keyed_size b xs t h.1), mul-add b (nat_abs x) (total xs))

-- of the key, by the size of the totals
pub key_within : (b : ℕ) (t : paper.State) → Inside b t → Within (b * 3752) (key_of t)
key_within b t h = record { size = keyed_size b times t h }

-- ---- a loop that adds up the key: its value after k places
abbrev pub key_to : ℕ → paper.State → ℤ
key_to k t = keyed (take k times) t

pub key_size : (k : ℕ) (t : paper.State) → Inside 200000 t → Within 750400000 (key_to k t)
key_size k t h = record { size = omega (arith, keyed_size 200000 (take k times) t h, total_take k times) }

keyed_more : (k : ℕ) (xs : List ℤ) (t : paper.State) → k < length xs → k < length t
    → keyed (take (suc k) xs) t ≡ keyed (take k xs) t +ℤ (get_or t k no_pair).0 *ℤ get_or xs k (pos 0)
keyed_more k [] t h l = absurd (omega arith)
keyed_more k (x ∷ xs) [] h l = absurd (omega arith)
keyed_more zero (x ∷ xs) (p ∷ t) h l = +ℤ_idr (p.0 *ℤ x) ∙ sym (+ℤ_idl (p.0 *ℤ x))
keyed_more (suc k) (x ∷ xs) (p ∷ t) h l = rw (keyed_more k xs t (omega arith) (omega arith)) (sym (assoc (p.0 *ℤ x) (keyed (take k xs) t) ((get_or t k no_pair).0 *ℤ get_or xs k (pos 0))))

-- of the pairs of a state by value, as code computes it
module _ (s : List Pair) (k : ℕ) (h : Inside 200000 (map pair_of s)) where
  -- the low of place k times the place's number
  pub step_size : Within 750400000 ((get_or s k zero_pair).lo *ℤ get_or times k (pos 0))
  step_size = record { size = omega (arith, mul_size (get_or s k zero_pair).lo (get_or times k (pos 0)), mul-le-mul (inside_at 200000 s k h).0.size (total_at k times)) }

  pub step_is : back (get_or s k zero_pair).lo *ℤ back (get_or times k (pos 0)) ≡ (get_or s k zero_pair).lo *ℤ get_or times k (pos 0)
  step_is =
      let number : Within 3752 (get_or times k (pos 0)) = record { size = total_at k times } in
      rw (back_is (inside_at 200000 s k h).0 tt, back_is number tt)

  pub key_more : (z : ℤ) → length s ≡ 8 → k < 8 → z ≡ key_to k (map pair_of s)
      → z +ℤ back (back (get_or s k zero_pair).lo *ℤ back (get_or times k (pos 0))) ≡ key_to (k + 1) (map pair_of s)
  key_more z n l e =
      let value = get_or_map pair_of s k zero_pair no_pair (omega arith) in
      rw (step_is, back_is step_size tt, e, add-one, keyed_more k times (map pair_of s) (omega arith) (omega (arith, length-map s pair_of)), value)

-- ---- equal states
keyed_same : (xs : List ℤ) (a b : paper.State) → paper.eq_state a b ≡ true → keyed xs a ≡ keyed xs b
keyed_same [] a b e = refl
keyed_same (x ∷ xs) [] [] e = refl
keyed_same (x ∷ xs) [] (q ∷ b) e = absurd (true≢false (sym e))
keyed_same (x ∷ xs) (p ∷ a) [] e = absurd (true≢false (sym e))
keyed_same (x ∷ xs) (p ∷ a) (q ∷ b) e =
    let here = eq_z p.0 q.0 && eq_z p.1 q.1 in
    let low = eq_z→ p.0 q.0 (and_l (eq_z p.0 q.0) (eq_z p.1 q.1) (and_l here (paper.eq_state a b) e)) in
    let rest = keyed_same xs a b (and_r here (paper.eq_state a b) e) in
    λ i. low i *ℤ x +ℤ rest i

pub same_bucket : (a b : paper.State) → paper.eq_state a b ≡ true → bucket_of a ≡ bucket_of b
same_bucket a b e = rw (keyed_same times a b e)

-- ---- sums
-- a sum times a number
times_pos : (a : ℤ) (n : ℕ) → (up (a *ℤ pos n) ≡ up a * n) × (dn (a *ℤ pos n) ≡ dn a * n)
times_pos (pos a) n = omega arith
times_pos (negsuc a) n = omega (arith, neg (pos (suc a * n)))

spread_pos : (a b : ℤ) (n : ℕ) → (a +ℤ b) *ℤ pos n ≡ a *ℤ pos n +ℤ b *ℤ pos n
spread_pos a b n =
    let c = a +ℤ b in
    let e = ap (λ (x : ℕ). x * n) (sum a b) in
    omega (zarith, e, add-mul (up c) (dn a + dn b) n, add-mul (dn a) (dn b) n, add-mul (dn c) (up a + up b) n, add-mul (up a) (up b) n, times_pos a n, times_pos b n, times_pos c n, sum (a *ℤ pos n) (b *ℤ pos n))

spread : (a b c : ℤ) → (a +ℤ b) *ℤ c ≡ a *ℤ c +ℤ b *ℤ c
spread a b (pos n) = spread_pos a b n
spread a b (negsuc n) =
    rw (*ℤ-negsuc (a +ℤ b) n, *ℤ-negsuc a n, *ℤ-negsuc b n, spread_pos a b (suc n)) (neg_sum (a *ℤ pos (suc n)) (b *ℤ pos (suc n)))

-- place by place
keyed-added : (xs : List ℤ) (a b : paper.State) → length a ≡ length b → keyed xs (added a b) ≡ keyed xs a +ℤ keyed xs b
keyed-added [] a b e = refl
keyed-added (x ∷ xs) [] [] e = refl
keyed-added (x ∷ xs) [] (q ∷ b) e = absurd (omega arith)
keyed-added (x ∷ xs) (p ∷ a) [] e = absurd (omega arith)
keyed-added (x ∷ xs) (p ∷ a) (q ∷ b) e =
    rw (spread p.0 q.0 x, keyed-added xs a b (omega arith)) (cross (p.0 *ℤ x) (q.0 *ℤ x) (keyed xs a) (keyed xs b))
  where
    cross : (k l m n : ℤ) → (k +ℤ l) +ℤ (m +ℤ n) ≡ (k +ℤ m) +ℤ (l +ℤ n)
    cross k l m n = omega (zarith, sum k l, sum m n, sum (k +ℤ l) (m +ℤ n), sum k m, sum l n, sum (k +ℤ m) (l +ℤ n))

-- the key of a sum is the sum of the keys
pub key_added : (a b : paper.State) → length a ≡ length b → key_of (added a b) ≡ key_of a +ℤ key_of b
key_added a b e = keyed-added times a b e
