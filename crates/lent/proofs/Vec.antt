-- Do lanes that stand for numbers add up and meet as the numbers do, and where do they stand in a row?
use mathlib.Core.Path.{◌≡◌, refl, sym, ◌∙◌, ap}
use mathlib.Core.List.{List, [], ◌∷◌, ◌++◌, map, append_assoc}
use mathlib.Core.Bool.{Bool, true, false, cond}
use mathlib.Core.Option.{none, some}
use Prim.Native.Nat.{ℕ, zero, suc, ◌+◌, ◌*◌, ◌-◌, ◌≤◌, ◌<◌}
use native.Mathlib.Omega.{arith}
use native.Mathlib.Nat.{zero-add, zero-mul}
use lib.ListN.{length, get_or, set, take, drop, replicate, length-map, length-set, length-drop, length-append, length-replicate, replicate-append-replicate}
use lib.Seq.{paste, take_all, take_at, drop_at, take-append-add, drop-append-add, take-append-le, drop-append-le, get_or-append-add}
use lib.IntN.{ℤ, pos, neg_ℤ, ◌+ℤ◌}
use lib.Signed.{le_z}
use Rattle.laws.specs.Z.{zarith, neg, parts, min_z, Within, widen, eq_z_no}
use Rattle.laws.specs.Lists.{gather, from, padded}
use Rattle.laws.proofs.Lists.{length_from, get_or-from, get_or_map}
use Rattle.laws.proofs.Filled.{length-padded, length_rows, each_padded}
use Rattle.laws.proofs.Each.{Each, each_more, each_append, each_map, each_gather, each_from}
use Rattle.meaning.specs.Plan.{Rule, Campaign}
use Rattle.meaning.specs.Diagram.{State, merged_state, child}
use Rattle.meaning.specs.Filter.{Numbers, meet, over}
use Rattle.meaning.proofs.Sizes.{larger}
use Rattle.lent.specs.Lanes.{lanes_at, arc_at, sums, leasts}
use Rattle.lent.specs.Passes.{Slot, Row, far}
use Rattle.lent.specs.Vec.{vec, arc_vec, slot_vec, row_vec, limit_vec}
use Rattle.lent.specs.Small.{Small, FitPair, FitSome, Fit}
use Rattle.lent.proofs.Lanes.{length-block, each_block, block_cost, padded_at, zipped-block, neg_sum, neg_max}

-- ---- 17 lanes
pub length-vec : (d : Numbers) → length (vec d) ≡ 17
length-vec none = refl
length-vec (some a) = length-block (pos 0) (map (λ p. p.0) a.0) (map neg_ℤ (map (λ p. p.1) a.0)) a.1

pub length_limit : (c : ℤ) (q : Campaign) → length (limit_vec c q) ≡ 17
length_limit c q = length-block (pos 2000000) (map (λ r. r.ub) q.rules) (map neg_ℤ (map (λ r. r.lb) q.rules)) c

-- ---- the lanes' sizes
within_zero : {m : ℕ} → Within m (pos 0)
within_zero = record { size = omega arith }

neg_within : {m : ℕ} {z : ℤ} → Within m z → Within m (neg_ℤ z)
neg_within {m} {z} h = record { size = omega (arith, h.size, neg z, parts z, parts (neg_ℤ z)) }

each_neg : (m : ℕ) (l : List ℤ) → Each (Within m) l → Each (Within m) (map neg_ℤ l)
each_neg m l h = each_map (Within m) (Within m) neg_ℤ (λ x k. neg_within k) l h

pub some_within : (q : Campaign) (h : ℕ) (a : State × ℤ) → FitSome q h a → Each (Within (70000 * h)) (vec (some a))
some_within q h a f =
    let n = 70000 * h in
    let low = each_map (FitPair h) (Within n) (λ p. p.0) (λ p k. larger (omega arith) k.0) a.0 f.pairs in
    let high = each_map (FitPair h) (Within n) (λ p. p.1) (λ p k. larger (omega arith) k.1) a.0 f.pairs in
    each_block (Within n) (pos 0) (map (λ p. p.0) a.0) (map neg_ℤ (map (λ p. p.1) a.0)) a.1 within_zero low (each_neg n (map (λ p. p.1) a.0) high) f.cost

pub vec_within : (q : Campaign) (h : ℕ) → h ≤ 24 → (d : Numbers) → Fit q h d → Each (Within 4000000) (vec d)
vec_within q h few none f = each_padded (Within 4000000) 17 (pos 4000000) [] (record { size = omega arith }) tt
vec_within q h few (some a) f = each_more (Within (70000 * h)) (Within 4000000) (λ z k. larger (omega arith) k) (vec (some a)) (some_within q h a f)

module _ (q : Campaign) (s : Small q) where
  share_within : (i v : ℕ) → v < 8 → Each (Within 4000000) (map (λ r. r.share i v) q.rules)
  share_within i v l = each_map (λ (r : Rule). (i v : ℕ) → v < 8 → Within 7000 (r.share i v)) (Within 4000000) (λ r. r.share i v) (λ r k. widen tt (k i v l)) q.rules s.shares

  pub limit_within : {c : ℤ} → Within 2000000 c → Each (Within 4000000) (limit_vec c q)
  limit_within {c} h =
      let highs = each_map (λ (r : Rule). Within 200000 r.lb × Within 200000 r.ub) (Within 4000000) (λ r. r.ub) (λ r k. widen tt k.1) q.rules s.bounds in
      let lows = each_map (λ (r : Rule). Within 200000 r.lb × Within 200000 r.ub) (Within 4000000) (λ r. r.lb) (λ r k. widen tt k.0) q.rules s.bounds in
      let lbs = map (λ (r : Rule). r.lb) q.rules in
      each_block (Within 4000000) (pos 2000000) (map (λ r. r.ub) q.rules) (map neg_ℤ lbs) c (record { size = omega arith }) highs (each_neg 4000000 lbs lows) (widen tt h)

pub turned_padded : (n : ℕ) (l : List ℤ) → map neg_ℤ (padded n (pos 0) l) ≡ padded n (pos 0) (map neg_ℤ l)
turned_padded zero l = refl
turned_padded (suc n) [] = ap (λ (m : List ℤ). pos 0 ∷ m) (turned_padded n [])
turned_padded (suc n) (x ∷ l) = ap (λ (m : List ℤ). neg_ℤ x ∷ m) (turned_padded n l)

-- ---- rows of 17 lanes
module _ {A : Type 0} where
  -- nothing to fill up
  padded_all : (n : ℕ) (z : A) (l : List A) → length l ≡ n → padded n z l ≡ l
  padded_all zero z [] e = refl
  padded_all zero z (x ∷ l) e = absurd (omega arith)
  padded_all (suc n) z [] e = absurd (omega arith)
  padded_all (suc n) z (x ∷ l) e = ap (λ (r : List A). x ∷ r) (padded_all n z l (omega arith))

-- the lanes of place k
row_lanes : {A : Type 0} (w : ℕ) (g : A → List ℤ) → ((x : A) → length (g x) ≡ w) → (l : List A) (k : ℕ) (d : A) → k < length l → take w (drop (k * w) (gather g l)) ≡ g (get_or l k d)
row_lanes w g wide [] k d h = absurd (omega arith)
row_lanes w g wide (x ∷ l) zero d h = rw (zero-mul w) (take_at (g x) (gather g l) w (wide x))
row_lanes w g wide (x ∷ l) (suc k) d h =
    let place : suc k * w ≡ length (g x) + k * w = omega (arith, wide x) in
    rw (place, drop-append-add (g x) (gather g l) (k * w)) (row_lanes w g wide l k d (omega arith))

module _ {A : Type 0} (g : A → List ℤ) (wide : (x : A) → length (g x) ≡ 17) where
  -- other lanes there
  row_paste : (l : List A) (k : ℕ) (x : A) → k < length l → paste (gather g l) (k * 17) (g x) 17 ≡ gather g (set l k x)
  row_paste [] k x h = absurd (omega arith)
  row_paste (y ∷ l) zero x h = rw (take_all 17 (g x) (omega (arith, wide x)), drop_at (g y) (gather g l) 17 (wide y))
  row_paste (y ∷ l) (suc k) x h =
      let all = gather g l in
      let at : suc k * 17 ≡ length (g y) + k * 17 = omega (arith, wide y) in
      let behind : suc k * 17 + 17 ≡ length (g y) + (k * 17 + 17) = omega (arith, wide y) in
      rw (behind, at, take-append-add (g y) all (k * 17), drop-append-add (g y) all (k * 17 + 17), append_assoc (g y) (take (k * 17) all) (take 17 (g x)))
      (append_assoc (g y) (take (k * 17) all ++ take 17 (g x)) (drop (k * 17 + 17) all) ∙ ap (λ (r : List ℤ). g y ++ r) (row_paste l k x (omega arith)))

pub row_at : (ds : List Numbers) (j : ℕ) → j < 16 → lanes_at (row_vec ds) (j * 17) ≡ vec (get_or ds j none)
row_at ds j h = row_lanes 17 vec length-vec (padded 16 none ds) j none (rw (length-padded {A = Numbers} none 16 ds) h) ∙ ap vec (padded_at 16 none ds j h)

pub row_set : (l : List Numbers) (k : ℕ) (x : Numbers) → length l ≡ 16 → k < 16 → paste (row_vec l) (k * 17) (vec x) 17 ≡ row_vec (set l k x)
row_set l k x e h =
    let here : padded 16 none l ≡ l = padded_all 16 none l e in
    let there : padded 16 none (set l k x) ≡ set l k x = padded_all 16 none (set l k x) (length-set l k x ∙ e) in
    rw (here, there) (row_paste vec length-vec l k x (omega arith))

pub length_row : (ds : List Numbers) → length (row_vec ds) ≡ 272
length_row ds = length_rows vec 17 length-vec (padded 16 none ds) ∙ ap (λ (n : ℕ). n * 17) (length-padded none 16 ds)

pub row_vec_lem : (q : Campaign) (h : ℕ) → h ≤ 24 → (ds : List Numbers) → Each (Fit q h) ds → Row (row_vec ds)
row_vec_lem q h few ds f = record { long = length_row ds; inside = each_gather (Fit q h) (Within 4000000) vec (vec_within q h few) (padded 16 none ds) (each_padded (Fit q h) 16 none ds tt f) }

-- ---- a row by its own nodes: behind them every lane is out of reach
no_nodes : (n : ℕ) → gather vec (padded n none []) ≡ replicate (n * 17) (pos 4000000)
no_nodes zero = refl
no_nodes (suc n) = let o : suc n * 17 ≡ 17 + n * 17 = omega arith in rw (o, no_nodes n) (replicate-append-replicate 17 (n * 17) (pos 4000000))

own_from : (n : ℕ) (us : List Numbers) → length us ≤ n → gather vec (padded n none us) ≡ gather vec us ++ replicate ((n - length us) * 17) (pos 4000000)
own_from n [] h = let o : n - 0 ≡ n = omega arith in rw o (no_nodes n)
own_from zero (u ∷ us) h = absurd (omega arith)
own_from (suc n) (u ∷ us) h =
    let o : suc n - suc (length us) ≡ n - length us = omega arith in
    rw (o, own_from n us (omega arith)) (sym (append_assoc (vec u) (gather vec us) (replicate ((n - length us) * 17) (pos 4000000))))

pub row_own : (us : List Numbers) → length us ≤ 16 → row_vec us ≡ gather vec us ++ replicate ((16 - length us) * 17) (pos 4000000)
row_own us h = own_from 16 us h

pub row_behind : (w : ℕ) → w ≤ 16 → (us : List Numbers) → length us ≤ w → drop (w * 17) (row_vec us) ≡ replicate ((16 - w) * 17) (pos 4000000)
row_behind w few us h =
    let k = (w - length us) * 17 in
    let own : List ℤ = gather vec us in
    let rest : List ℤ = replicate ((16 - w) * 17) (pos 4000000) in
    let place : w * 17 ≡ length own + k = omega (arith, length_rows vec 17 length-vec us) in
    let both : (16 - length us) * 17 ≡ k + (16 - w) * 17 = omega arith in
    let split : replicate ((16 - length us) * 17) (pos 4000000) ≡ replicate k (pos 4000000) ++ rest = rw both (sym (replicate-append-replicate k ((16 - w) * 17) (pos 4000000))) in
    (λ j. drop (place j) ((row_own us (omega arith) ∙ ap (λ (l : List ℤ). own ++ l) split) j))
    ∙ drop-append-add own (replicate k (pos 4000000) ++ rest) k
    ∙ drop_at (replicate k (pos 4000000)) rest k (length-replicate k (pos 4000000))

module _ (q : Campaign) (s : Small q) where
  module _ (i : ℕ) where
    -- eight shares of step v, of all steps, and the prices behind them
    abbrev shares : ℕ → List ℤ
    shares v = padded 8 (pos 0) (map (λ r. r.share i v) q.rules)

    abbrev all : List ℤ
    all = gather shares (from 0 q.steps)

    abbrev prices : List ℤ
    prices = map (λ v. q.price i v) (from 0 q.steps)

    eight : (v : ℕ) → length (shares v) ≡ 8
    eight v = length-padded (pos 0) 8 (map (λ r. r.share i v) q.rules)

    all_long : length all ≡ 64
    all_long = length_rows shares 8 eight (from 0 q.steps) ∙ omega (arith, length_from 0 q.steps, s.steps)

    step_is : (v : ℕ) → v < 8 → get_or (from 0 q.steps) v 0 ≡ v
    step_is v h = get_or-from 0 q.steps v (omega (arith, s.steps)) ∙ zero-add v

    pub shares_at_lem : (v : ℕ) → v < 8 → take 8 (drop (v * 8) (slot_vec q i)) ≡ padded 8 (pos 0) (map (λ r. r.share i v) q.rules)
    shares_at_lem v h =
        let there : v * 8 ≤ length all = omega (arith, all_long) in
        ap (take 8) (drop-append-le (v * 8) all prices there)
        ∙ take-append-le 8 (drop (v * 8) all) prices (omega (arith, length-drop (v * 8) all, all_long))
        ∙ row_lanes 8 shares eight (from 0 q.steps) v 0 (omega (arith, length_from 0 q.steps, s.steps)) ∙ ap shares (step_is v h)

    price_at : (v : ℕ) → v < 8 → get_or (slot_vec q i) (64 + v) (pos 0) ≡ q.price i v
    price_at v h =
        let place : 64 + v ≡ length all + v = omega (arith, all_long) in
        ap (λ (k : ℕ). get_or (all ++ prices) k (pos 0)) place ∙ get_or-append-add all prices v (pos 0)
        ∙ get_or_map (λ v. q.price i v) (from 0 q.steps) v 0 (pos 0) (omega (arith, length_from 0 q.steps, s.steps)) ∙ ap (λ (k : ℕ). q.price i k) (step_is v h)

    pub slot_at : (v : ℕ) → v < 8 → arc_at (slot_vec q i) v ≡ arc_vec q i v
    slot_at v h = rw (shares_at_lem v h, price_at v h, turned_padded 8 (map (λ (r : Rule). r.share i v) q.rules))

    below : Each (λ v. v < 8) (from 0 q.steps)
    below = each_from (λ v. v < 8) 0 q.steps (λ v h. omega (arith, s.steps))

    pub slot_vec_lem : Slot (slot_vec q i)
    slot_vec_lem = record {
      long = length-append all prices ∙ omega (arith, all_long, length-map (from 0 q.steps) (λ v. q.price i v), length_from 0 q.steps, s.steps);
      inside = each_append (Within 4000000) all prices
          (each_gather (λ v. v < 8) (Within 4000000) shares (λ v l. each_padded (Within 4000000) 8 (pos 0) (map (λ r. r.share i v) q.rules) within_zero (share_within q s i v l)) (from 0 q.steps) below)
          (each_map (λ v. v < 8) (Within 4000000) (λ v. q.price i v) (λ v l. widen tt (s.prices i v l)) (from 0 q.steps) below);
    }

-- ---- a node without numbers

pub far_some : (q : Campaign) (h : ℕ) → h ≤ 24 → (a : State × ℤ) → FitSome q h a → far (vec (some a)) ≡ false
far_some q h few a f = rw (block_cost (pos 0) (map (λ p. p.0) a.0) (map neg_ℤ (map (λ p. p.1) a.0)) a.1 (pos 0)) (eq_z_no {a = a.1} {b = pos 4000000} (λ e. omega (zarith, parts a.1, f.cost.size)))

-- ---- numbers over an arc
pub length_lows : (t : State) → length (map (λ p. p.0) t) ≡ length t
length_lows t = length-map t (λ p. p.0)

pub length_highs : (t : State) → length (map neg_ℤ (map (λ p. p.1) t)) ≡ length t
length_highs t = length-map (map (λ p. p.1) t) neg_ℤ ∙ length-map t (λ p. p.1)

child_low : (rs : List Rule) (i v : ℕ) (t : State) → map (λ p. p.0) (child rs i v t) ≡ sums (map (λ p. p.0) t) (map (λ r. r.share i v) rs)
child_low [] i v [] = refl
child_low [] i v (p ∷ t) = refl
child_low (r ∷ rs) i v [] = refl
child_low (r ∷ rs) i v (p ∷ t) = ap (λ (l : List ℤ). (p.0 +ℤ r.share i v) ∷ l) (child_low rs i v t)

child_high : (rs : List Rule) (i v : ℕ) (t : State)
    → map neg_ℤ (map (λ p. p.1) (child rs i v t)) ≡ sums (map neg_ℤ (map (λ p. p.1) t)) (map neg_ℤ (map (λ r. r.share i v) rs))
child_high [] i v [] = refl
child_high [] i v (p ∷ t) = refl
child_high (r ∷ rs) i v [] = refl
child_high (r ∷ rs) i v (p ∷ t) = rw (neg_sum p.1 (r.share i v), child_high rs i v t)

pub sums_over : (q : Campaign) (h i v : ℕ) (a : State × ℤ) → FitSome q h a → sums (vec (some a)) (arc_vec q i v) ≡ vec (over q i v (some a))
sums_over q h i v a f =
    let shares = map (λ (r : Rule). r.share i v) q.rules in
    let long : length shares ≡ length a.0 = length-map q.rules (λ r. r.share i v) ∙ sym f.long in
    zipped-block ◌+ℤ◌ (pos 0) (pos 0) (map (λ p. p.0) a.0) shares (map neg_ℤ (map (λ p. p.1) a.0)) (map neg_ℤ shares) a.1 (q.price i v)
    (length_lows a.0 ∙ sym long) (length_highs a.0 ∙ sym (length-map shares neg_ℤ ∙ long))
    ∙ rw (child_low q.rules i v a.0, child_high q.rules i v a.0)

-- ---- numbers that meet
merged_low : (s t : State) → length s ≡ length t → map (λ p. p.0) (merged_state s t) ≡ leasts (map (λ p. p.0) s) (map (λ p. p.0) t)
merged_low [] [] e = refl
merged_low [] (q ∷ t) e = absurd (omega arith)
merged_low (p ∷ s) [] e = absurd (omega arith)
merged_low (p ∷ s) (q ∷ t) e = ap (λ (l : List ℤ). min_z p.0 q.0 ∷ l) (merged_low s t (omega arith))

merged_high : (s t : State) → length s ≡ length t → map neg_ℤ (map (λ p. p.1) (merged_state s t)) ≡ leasts (map neg_ℤ (map (λ p. p.1) s)) (map neg_ℤ (map (λ p. p.1) t))
merged_high [] [] e = refl
merged_high [] (q ∷ t) e = absurd (omega arith)
merged_high (p ∷ s) [] e = absurd (omega arith)
merged_high (p ∷ s) (q ∷ t) e = rw (neg_max p.1 q.1, merged_high s t (omega arith))

-- no lane is above those of a missing number
least_left : (l : List ℤ) → Each (Within 4000000) l → leasts (replicate (length l) (pos 4000000)) l ≡ l
least_left [] h = refl
least_left (x ∷ l) h = (λ i. go (le_z (pos 4000000) x) refl i ∷ least_left l h.1 i)
  where
    go : (t : Bool) → le_z (pos 4000000) x ≡ t → cond t (pos 4000000) x ≡ x
    go true e = omega (zarith, parts x, h.0.size)
    go false e = refl

least_right : (l : List ℤ) → Each (Within 4000000) l → leasts l (replicate (length l) (pos 4000000)) ≡ l
least_right [] h = refl
least_right (x ∷ l) h = let first : le_z x (pos 4000000) ≡ true = omega (zarith, parts x, h.0.size) in rw first (ap (λ (r : List ℤ). x ∷ r) (least_right l h.1))

module _ (q : Campaign) (h : ℕ) (few : h ≤ 24) where
  pub leasts_meet : (a b : Numbers) → Fit q h a → Fit q h b → leasts (vec a) (vec b) ≡ vec (meet a b)
  leasts_meet none b f g = rw (length-vec b) at (least_left (vec b) (vec_within q h few b g))
  leasts_meet (some a) none f g = rw (length-vec (some a)) at (least_right (vec (some a)) (vec_within q h few (some a) f))
  leasts_meet (some a) (some b) f g =
      let long : length a.0 ≡ length b.0 = f.long ∙ sym g.long in
      zipped-block min_z (pos 0) (pos 0) (map (λ p. p.0) a.0) (map (λ p. p.0) b.0) (map neg_ℤ (map (λ p. p.1) a.0)) (map neg_ℤ (map (λ p. p.1) b.0)) a.1 b.1
      (length_lows a.0 ∙ long ∙ sym (length_lows b.0)) (length_highs a.0 ∙ long ∙ sym (length_highs b.0))
      ∙ rw (merged_low a.0 b.0 long, merged_high a.0 b.0 long)
