-- How large are numbers after some slots? No larger than the slots passed allow, along any arcs.
use mathlib.Core.Path.{◌≡◌, refl, ap, ◌∙◌}
use mathlib.Core.List.{List, [], ◌∷◌, map}
use mathlib.Core.Bool.{Bool, true, false, cond}
use mathlib.Core.Option.{none, some}
use Prim.Native.Nat.{ℕ, zero, suc, ◌+◌, ◌-◌, ◌≤◌, ◌<◌}
use native.Mathlib.Omega.{arith}
use native.Mathlib.Nat.{zero-add}
use lib.Dec.{eqb}
use lib.ListN.{length, get_or, length-map}
use lib.IntN.{pos}
use lib.Signed.{le_z}
use Rattle.laws.specs.Z.{Within}
use Rattle.laws.specs.Lists.{from}
use Rattle.laws.proofs.Each.{Each, each_at, each_map}
use Rattle.meaning.specs.Plan.{Rule, Campaign}
use Rattle.meaning.specs.Diagram.{State, merged_state, child, starts, Arcs}
use Rattle.meaning.specs.Filter.{Numbers, meet, over, zeros, begins, up_arc, up_node, ups, down_node, down_at, node_count, downs, down_numbers, up_numbers}
use Rattle.meaning.proofs.Sizes.{added, either}
use Rattle.meaning.proofs.Restricted.{child_length}
use Rattle.lent.specs.Led.{first_ups}
use Rattle.lent.specs.Small.{Small, FitPair, Fit, FewBytes}

-- ---- states
pub merged_long : (s t : State) → length s ≡ length t → length (merged_state s t) ≡ length s
merged_long [] [] e = refl
merged_long [] (b ∷ t) e = absurd (omega arith)
merged_long (a ∷ s) [] e = refl
merged_long (a ∷ s) (b ∷ t) e = ap suc (merged_long s t (omega arith))

merged_pairs : (h : ℕ) (s t : State) → Each (FitPair h) s → Each (FitPair h) t → Each (FitPair h) (merged_state s t)
merged_pairs h [] t e f = f
merged_pairs h (a ∷ s) [] e f = e
merged_pairs h (a ∷ s) (b ∷ t) e f = ((either (le_z a.0 b.0) e.0.0 f.0.0, either (le_z a.1 b.1) f.0.1 e.0.1), merged_pairs h s t e.1 f.1)

zero_pairs : (rs : List Rule) → Each (FitPair 0) (map (λ r. (pos 0, pos 0)) rs)
zero_pairs [] = tt
zero_pairs (r ∷ rs) = ((record { size = omega arith }, record { size = omega arith }), zero_pairs rs)

start_pairs : (rs : List Rule) → Each (λ r. r.start ≡ pos 0) rs → Each (FitPair 0) (starts rs)
start_pairs [] h = tt
start_pairs (r ∷ rs) h = let z : Within 0 r.start = rw h.0 (record { size = omega arith }) in ((z, z), start_pairs rs h.1)

child_pairs : (h k : ℕ) → h < k → (rs : List Rule) (i v : ℕ) → v < 8 → (t : State) → Each (FitPair h) t → Each (λ r. (i v : ℕ) → v < 8 → Within 7000 (r.share i v)) rs
    → Each (FitPair k) (child rs i v t)
child_pairs h k l [] i v b t e w = tt
child_pairs h k l (r ∷ rs) i v b [] e w = tt
child_pairs h k l (r ∷ rs) i v b (p ∷ t) e w = ((added (omega arith) e.0.0 (w.0 i v b), added (omega arith) e.0.1 (w.0 i v b)), child_pairs h k l rs i v b t e.1 w.1)

-- ---- one node
module _ (q : Campaign) where
  pub meet_fit : (h : ℕ) (a b : Numbers) → Fit q h a → Fit q h b → Fit q h (meet a b)
  meet_fit h none b f g = g
  meet_fit h (some a) none f g = f
  meet_fit h (some a) (some b) f g = record {
    long = merged_long a.0 b.0 (omega (arith, f.long, g.long)) ∙ f.long;
    pairs = merged_pairs h a.0 b.0 f.pairs g.pairs;
    cost = either (le_z a.1 b.1) f.cost g.cost;
  }

  pub zeros_fit : Fit q 0 (zeros q)
  zeros_fit = record { long = length-map q.rules (λ r. (pos 0, pos 0)); pairs = zero_pairs q.rules; cost = record { size = omega arith } }

module _ (q : Campaign) (s : Small q) where
  pub begins_fit : Fit q 0 (begins q)
  begins_fit = record { long = length-map q.rules (λ r. (r.start, r.start)); pairs = start_pairs q.rules s.starts; cost = record { size = omega arith } }

  -- one slot more
  module _ (h k : ℕ) (l : h < k) where
    pub over_fit : (i v : ℕ) → v < 8 → (d : Numbers) → Fit q h d → Fit q k (over q i v d)
    over_fit i v b none f = tt
    over_fit i v b (some a) f = record {
      long = child_length q.rules i v a.0 f.long;
      pairs = child_pairs h k l q.rules i v b a.0 f.pairs s.shares;
      cost = added (omega arith) f.cost (s.prices i v b);
    }

    -- over the arcs of one slot
    pub up_arc_fit : (i : ℕ) (us : List Numbers) → Each (Fit q h) us → (v b : ℕ) → v < 8 → Fit q k (up_arc q i us v b)
    up_arc_fit i us f v zero w = tt
    up_arc_fit i us f v (suc j) w = over_fit i v w (get_or us j none) (each_at (Fit q h) us j none tt f)

    up_arcs_fit : (i : ℕ) (us : List Numbers) → Each (Fit q h) us → (v : ℕ) (bs : List ℕ) → v + length bs ≤ 8 → Fit q k (up_node q i us v bs)
    up_arcs_fit i us f v [] w = tt
    up_arcs_fit i us f v (b ∷ bs) w =
        meet_fit q k (up_arc q i us v b) (up_node q i us (suc v) bs) (up_arc_fit i us f v b (omega arith)) (up_arcs_fit i us f (suc v) bs (omega arith))

    pub up_fit : (i : ℕ) (us : List Numbers) → Each (Fit q h) us → (bs : List ℕ) → length bs ≤ 8 → Fit q k (up_node q i us 0 bs)
    up_fit i us f bs w = up_arcs_fit i us f 0 bs (omega arith)

    down_node_fit : (i p : ℕ) (d : Numbers) → Fit q h d → (v : ℕ) (bs : List ℕ) → v + length bs ≤ 8 → Fit q k (down_node q i p d v bs)
    down_node_fit i p d f v [] w = tt
    down_node_fit i p d f v (b ∷ bs) w = go (eqb b (suc p)) (down_node_fit i p d f (suc v) bs (omega arith))
      where
        go : (t : Bool) → Fit q k (down_node q i p d (suc v) bs) → Fit q k (cond t (meet (over q i v d) (down_node q i p d (suc v) bs)) (down_node q i p d (suc v) bs))
        go true r = meet_fit q k (over q i v d) (down_node q i p d (suc v) bs) (over_fit i v (omega arith) d f) r
        go false r = r

    pub down_fit : (i p : ℕ) (ds : List Numbers) → Each (Fit q h) ds → (l : List (List ℕ)) → Each (λ bs. length bs ≤ 8) l → Fit q k (down_at q i p ds l)
    down_fit i p [] f l w = tt
    down_fit i p (d ∷ ds) f [] w = tt
    down_fit i p (d ∷ ds) f (bs ∷ l) w = meet_fit q k (down_node q i p d 0 bs) (down_at q i p ds l) (down_node_fit i p d f.0 0 bs (omega (arith, w.0))) (down_fit i p ds f.1 l w.1)

  -- ---- all layers: slot i follows layer i
  next_fit : (h i : ℕ) (ds : List Numbers) → Each (Fit q h) ds → (l : List (List ℕ)) → Each (λ bs. length bs ≤ 8) l → (ks : List ℕ) → Each (Fit q (suc h)) (map (λ k. down_at q i k ds l) ks)
  next_fit h i ds f l w [] = tt
  next_fit h i ds f l w (k ∷ ks) = (down_fit h (suc h) (omega arith) i k ds f l w, next_fit h i ds f l w ks)

  layers_fit : (h i : ℕ) (ds : List Numbers) → Each (Fit q h) ds → (a : Arcs) → FewBytes a → (j : ℕ) → Each (Fit q (h + j)) (get_or (downs q i ds a) j [])
  layers_fit h i ds f [] w zero = let o : h + 0 ≡ h = omega arith in rw o f
  layers_fit h i ds f [] w (suc j) = tt
  layers_fit h i ds f (l ∷ ls) w zero = let o : h + 0 ≡ h = omega arith in rw o f
  layers_fit h i ds f (l ∷ ls) w (suc j) =
      let o : h + suc j ≡ suc h + j = omega arith in
      rw o (layers_fit (suc h) (suc i) (map (λ k. down_at q i k ds l) (from 0 (node_count ls))) (next_fit h i ds f l w.0 (from 0 (node_count ls))) ls w.1 j)

  pub downs_fit : (a : Arcs) → FewBytes a → (i : ℕ) → Each (Fit q i) (get_or (down_numbers q a) i [])
  downs_fit a w i = rw (zero-add i) at (layers_fit 0 0 (begins q ∷ []) (begins_fit, tt) a w i)

  pub first_ups_fit : (i : ℕ) (a : Arcs) → FewBytes a → Each (Fit q (length a)) (first_ups q i a)
  first_ups_fit i [] w = (zeros_fit q, tt)
  first_ups_fit i (l ∷ ls) w =
      let us = first_ups q (suc i) ls in
      each_map (λ bs. length bs ≤ 8) (Fit q (suc (length ls))) (up_node q i us 0) (up_fit (length ls) (suc (length ls)) (omega arith) i us (first_ups_fit (suc i) ls w.1)) l w.0

  ups_from_fit : (i : ℕ) (a : Arcs) → FewBytes a → (j : ℕ) → Each (Fit q (length a - j)) (get_or (ups q i a) j [])
  ups_from_fit i a w zero = let o : length a - 0 ≡ length a = omega arith in rw o (first_ups_fit i a w)
  ups_from_fit i [] w (suc j) = tt
  ups_from_fit i (l ∷ ls) w (suc j) = let o : suc (length ls) - suc j ≡ length ls - j = omega arith in rw o (ups_from_fit (suc i) ls w.1 j)

  pub ups_fit : (a : Arcs) → FewBytes a → (i : ℕ) → Each (Fit q (length a - i)) (get_or (up_numbers q a) i [])
  ups_fit a w i = ups_from_fit 0 a w i
