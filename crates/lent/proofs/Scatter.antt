-- Does bringing each arc's number to its place give the down numbers, and raising a node by each arc its up numbers?
use mathlib.Core.Path.{◌≡◌, refl, sym, ◌∙◌, ap}
use mathlib.Core.List.{List, [], ◌∷◌, map}
use mathlib.Core.Bool.{Bool, true, false, cond}
use mathlib.Core.Option.{none, some}
use Prim.Native.Nat.{ℕ, zero, suc, ◌+◌, ◌<◌}
use native.Mathlib.Omega.{arith}
use borrow.Author.Tests.{eqb-true, eqb-false, ne_eqb}
use lib.Dec.{eqb}
use lib.ListN.{length, get_or, set, take, replicate, length-set, length-replicate, get_or-replicate}
use lib.Seq.{set-get_or, get_or-set_same, get_or-set_other}
use lib.IntN.{ℤ}
use lib.Signed.{le_z}
use Rattle.laws.specs.Z.{zarith, min_z, max_z}
use Rattle.laws.specs.Lists.{from}
use Rattle.laws.proofs.Filled.{map_places}
use Rattle.meaning.specs.Plan.{Campaign}
use Rattle.meaning.specs.Diagram.{State, merged_state}
use Rattle.meaning.specs.Filter.{Numbers, meet, over, up_arc, up_node, down_node, down_at}
use Rattle.lent.specs.Scatter.{brought, brought_node, brought_layer, raised}

-- ---- the least and the greatest of three, and so what two directions' numbers meet in
pub min_assoc : (a b c : ℤ) → min_z (min_z a b) c ≡ min_z a (min_z b c)
min_assoc a b c = go (le_z a b) (le_z b c) refl refl
  where
    go : (s t : Bool) → le_z a b ≡ s → le_z b c ≡ t → min_z (cond s a b) c ≡ min_z a (cond t b c)
    go true true e f = let g : le_z a c ≡ true = omega zarith in rw (e, g)
    go true false e f = refl
    go false true e f = rw (e, f)
    go false false e f = let g : le_z a c ≡ false = omega zarith in rw (f, g)

pub max_assoc : (a b c : ℤ) → max_z (max_z a b) c ≡ max_z a (max_z b c)
max_assoc a b c = go (le_z a b) (le_z b c) refl refl
  where
    go : (s t : Bool) → le_z a b ≡ s → le_z b c ≡ t → max_z (cond s b a) c ≡ max_z a (cond t c b)
    go true true e f = let g : le_z a c ≡ true = omega zarith in rw (f, g)
    go true false e f = rw (e, f)
    go false true e f = refl
    go false false e f = let g : le_z a c ≡ false = omega zarith in rw (e, g)

merged_assoc : (a b c : State) → merged_state (merged_state a b) c ≡ merged_state a (merged_state b c)
merged_assoc [] b c = refl
merged_assoc (x ∷ a) [] c = refl
merged_assoc (x ∷ a) (y ∷ b) [] = refl
merged_assoc (x ∷ a) (y ∷ b) (z ∷ c) = rw (min_assoc x.0 y.0 z.0, max_assoc x.1 y.1 z.1, merged_assoc a b c)

pub meet_none : (n : Numbers) → meet n none ≡ n
meet_none none = refl
meet_none (some a) = refl

pub meet_assoc : (a b c : Numbers) → meet (meet a b) c ≡ meet a (meet b c)
meet_assoc none b c = refl
meet_assoc (some a) none c = refl
meet_assoc (some a) (some b) none = refl
meet_assoc (some a) (some b) (some c) = rw (merged_assoc a.0 b.0 c.0, min_assoc a.1 b.1 c.1)

-- ---- one arc
pub length-brought : (b : ℕ) (x : Numbers) (l : List Numbers) → length (brought b x l) ≡ length l
length-brought zero x l = refl
length-brought (suc k) x l = length-set l k (meet (get_or l k none) x)

brought_none : (b : ℕ) (l : List Numbers) → brought b none l ≡ l
brought_none zero l = refl
brought_none (suc k) l = rw (meet_none (get_or l k none)) (set-get_or l k none)

brought_at : (b : ℕ) (x : Numbers) (l : List Numbers) (k : ℕ) → k < length l → get_or (brought b x l) k none ≡ cond (eqb b (suc k)) (meet (get_or l k none) x) (get_or l k none)
brought_at zero x l k h = rw (ne_eqb 0 (suc k) (λ e. omega arith))
brought_at (suc j) x l k h = go (eqb (suc j) (suc k)) refl
  where
    go : (t : Bool) → eqb (suc j) (suc k) ≡ t → get_or (set l j (meet (get_or l j none) x)) k none ≡ cond t (meet (get_or l k none) x) (get_or l k none)
    go true e = let same : j ≡ k = omega (arith, eqb-true (suc j) (suc k) e) in rw same (get_or-set_same l k (meet (get_or l k none) x) none h)
    go false e = get_or-set_other l j k (meet (get_or l j none) x) none (λ d. eqb-false (suc j) (suc k) e (ap suc (sym d)))

module _ (q : Campaign) (i : ℕ) where
  -- ---- the arcs of one parent
  pub length_node : (d : Numbers) (v : ℕ) (bs : List ℕ) (l : List Numbers) → length (brought_node q i d v bs l) ≡ length l
  length_node d v [] l = refl
  length_node d v (b ∷ bs) l = length_node d (suc v) bs (brought b (over q i v d) l) ∙ length-brought b (over q i v d) l

  -- a parent without numbers brings none
  pub no_number : (v : ℕ) (bs : List ℕ) (l : List Numbers) → brought_node q i none v bs l ≡ l
  no_number v [] l = refl
  no_number v (b ∷ bs) l = rw (brought_none b l) (no_number (suc v) bs l)

  node_at : (d : Numbers) (v : ℕ) (bs : List ℕ) (l : List Numbers) (k : ℕ) → k < length l → get_or (brought_node q i d v bs l) k none ≡ meet (get_or l k none) (down_node q i k d v bs)
  node_at d v [] l k h = sym (meet_none (get_or l k none))
  node_at d v (b ∷ bs) l k h =
      let x = over q i v d in
      let rest = down_node q i k d (suc v) bs in
      node_at d (suc v) bs (brought b x l) k (rw (length-brought b x l) h) ∙ ap (λ (n : Numbers). meet n rest) (brought_at b x l k h) ∙ go x rest (eqb b (suc k))
    where
      go : (x rest : Numbers) (t : Bool) → meet (cond t (meet (get_or l k none) x) (get_or l k none)) rest ≡ meet (get_or l k none) (cond t (meet x rest) rest)
      go x rest true = meet_assoc (get_or l k none) x rest
      go x rest false = refl

  -- one arc more
  turn : (d : Numbers) (u : ℕ) (bs : List ℕ) (l : List Numbers) (v : ℕ) → v < length bs
      → brought_node q i d u (take (v + 1) bs) l ≡ brought (get_or bs v 0) (over q i (u + v) d) (brought_node q i d u (take v bs) l)
  turn d u [] l v h = absurd (omega arith)
  turn d u (b ∷ bs) l zero h = let o : u + 0 ≡ u = omega arith in rw o
  turn d u (b ∷ bs) l (suc v) h =
      let o : u + suc v ≡ suc u + v = omega arith in
      let p : suc v + 1 ≡ suc (v + 1) = omega arith in
      rw (o, p) (turn d (suc u) bs (brought b (over q i u d) l) v (omega arith))

  -- ---- of every parent
  pub length_layer : (ds : List Numbers) (bss : List (List ℕ)) (l : List Numbers) → length (brought_layer q i ds bss l) ≡ length l
  length_layer [] bss l = refl
  length_layer (d ∷ ds) [] l = refl
  length_layer (d ∷ ds) (bs ∷ bss) l = length_layer ds bss (brought_node q i d 0 bs l) ∙ length_node d 0 bs l

  layer_at : (ds : List Numbers) (bss : List (List ℕ)) (l : List Numbers) (k : ℕ) → k < length l → get_or (brought_layer q i ds bss l) k none ≡ meet (get_or l k none) (down_at q i k ds bss)
  layer_at [] bss l k h = sym (meet_none (get_or l k none))
  layer_at (d ∷ ds) [] l k h = sym (meet_none (get_or l k none))
  layer_at (d ∷ ds) (bs ∷ bss) l k h =
      layer_at ds bss (brought_node q i d 0 bs l) k (rw (length_node d 0 bs l) h) ∙ ap (λ (n : Numbers). meet n (down_at q i k ds bss)) (node_at d 0 bs l k h)
      ∙ meet_assoc (get_or l k none) (down_node q i k d 0 bs) (down_at q i k ds bss)

  -- the down numbers of the next layer, which has w nodes
  pub scattered : (w : ℕ) (ds : List Numbers) (bss : List (List ℕ)) → brought_layer q i ds bss (replicate w none) ≡ map (λ k. down_at q i k ds bss) (from 0 w)
  scattered w ds bss =
      let all = brought_layer q i ds bss (replicate w none) in
      let long : length all ≡ w = length_layer ds bss (replicate w none) ∙ length-replicate w none in
      sym (rw long at (map_places (λ k. down_at q i k ds bss) all none (λ k h. sym (at k (rw long at h)))))
    where
      at : (k : ℕ) → k < w → get_or (brought_layer q i ds bss (replicate w none)) k none ≡ down_at q i k ds bss
      at k h = layer_at ds bss (replicate w none) k (rw (length-replicate {A = Numbers} w none) h) ∙ ap (λ (n : Numbers). meet n (down_at q i k ds bss)) (get_or-replicate w k none none h)

  -- ---- up: one node, from the first step to the last
  module _ (us : List Numbers) where
    raised_meets : (v : ℕ) (bs : List ℕ) (x : Numbers) → raised q i us v bs x ≡ meet x (up_node q i us v bs)
    raised_meets v [] x = sym (meet_none x)
    raised_meets v (b ∷ bs) x = raised_meets (suc v) bs (meet x (up_arc q i us v b)) ∙ meet_assoc x (up_arc q i us v b) (up_node q i us (suc v) bs)

    pub raised_up : (bs : List ℕ) → raised q i us 0 bs none ≡ up_node q i us 0 bs
    raised_up bs = raised_meets 0 bs none

    -- one arc more
    raises : (u : ℕ) (bs : List ℕ) (x : Numbers) (v : ℕ) → v < length bs
        → raised q i us u (take (v + 1) bs) x ≡ meet (raised q i us u (take v bs) x) (up_arc q i us (u + v) (get_or bs v 0))
    raises u [] x v h = absurd (omega arith)
    raises u (b ∷ bs) x zero h = let o : u + 0 ≡ u = omega arith in rw o
    raises u (b ∷ bs) x (suc v) h =
        let o : u + suc v ≡ suc u + v = omega arith in
        let p : suc v + 1 ≡ suc (v + 1) = omega arith in
        rw (o, p) (raises (suc u) bs (meet x (up_arc q i us u b)) v (omega arith))
