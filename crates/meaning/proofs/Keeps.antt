-- Does a round, or the closing sweep, drop an arc of a plan that keeps the rules and the ceiling? And is the bound at most every path's cost?
use mathlib.Core.Path.{◌≡◌, refl, sym, ◌∙◌, ap}
use mathlib.Core.List.{List, [], ◌∷◌, map}
use mathlib.Core.Bool.{Bool, true, false, cond, true≢false}
use mathlib.Core.Option
use mathlib.Core.Option.{Option, none, some}
use Prim.Native.Nat.{ℕ, zero, suc, ◌+◌, ◌<◌}
use native.Mathlib.Omega.{arith}
use native.Mathlib.Nat.{zero-add}
use lib.Dec.{eqb}
use lib.ListN
use lib.ListN.{length, get_or}
use borrow.Author.Tests.{eqb-true, eq-eqb}
use lib.IntN.{ℤ, pos, ◌+ℤ◌}
use lib.Signed.{◌≤ℤ◌}
use Rattle.laws.specs.Z.{zarith, sum, min_le}
use Rattle.laws.specs.Lists.{every, last_or, from}
use Rattle.laws.proofs.Lists.{and_r, and_both, place_there, get_or_map, length_from, get_or-from}
use Rattle.meaning.specs.Plan.{Rule, Campaign, summed, total, keeps_rule, allowed, lawful, cost}
use Rattle.meaning.specs.Diagram.{State, merged_state, child, may_keep_all, Arcs, relaxed, starts, built}
use Rattle.meaning.specs.Filter.{Numbers, meet, over, up_arc, up_node, begins, ups, down_node, down_at, node_count, downs, each_step, each_parent, each_slot, Test, on_path, within, affords, stays, test_arc, drops, rounds, relaxed_arcs}
use Rattle.meaning.specs.Bound.{walks, is_path, bound, dual}
use Rattle.meaning.proofs.Sound.{Wider, wider_refl, wider_trans, merged_wider, child_wider, totals, Fits, child_fits, wider_fits, may_keep_lem, source_fits}
use Rattle.meaning.proofs.Loses.{lawful_walks}
use Rattle.meaning.proofs.Walks.{next, byte_there, walk_there}

-- ---- a node's numbers cover the totals t and the cost c of a way
abbrev pub Cover : Numbers → State → ℤ → Type 0
Cover none t c = ⊥
Cover (some a) t c = Wider a.0 t × (a.1 ≤ℤ c)

meet_l : (n m : Numbers) (t : State) (c : ℤ) → Cover n t c → Cover (meet n m) t c
meet_l none m t c h = absurd h
meet_l (some a) none t c h = h
meet_l (some a) (some b) t c h =
    (wider_trans (merged_state a.0 b.0) a.0 t (merged_wider a.0 b.0).0 h.0, omega (zarith, min_le a.1 b.1, h.1))

meet_r : (n m : Numbers) (t : State) (c : ℤ) → Cover m t c → Cover (meet n m) t c
meet_r none m t c h = h
meet_r (some a) none t c h = absurd h
meet_r (some a) (some b) t c h =
    (wider_trans (merged_state a.0 b.0) b.0 t (merged_wider a.0 b.0).1 h.0, omega (zarith, min_le a.1 b.1, h.1))

over_covers : (q : Campaign) (i v : ℕ) (n : Numbers) (t : State) (c : ℤ) → Cover n t c → Cover (over q i v n) (child q.rules i v t) (c +ℤ q.price i v)
over_covers q i v none t c h = absurd h
over_covers q i v (some a) t c h =
    (child_wider q.rules i v a.0 t h.0, omega (zarith, sum a.1 (q.price i v), sum c (q.price i v), h.1))

-- ---- up numbers cover the rest of a walk
-- what the rest p of a plan, from slot i on, costs
abbrev pub prices : Campaign → ℕ → List ℕ → ℤ
prices q i p = summed q.price i p

totals_step : (rs : List Rule) (i v : ℕ) (p : List ℕ) → totals rs i (v ∷ p) ≡ child rs i v (totals rs (suc i) p)
totals_step [] i v p = refl
totals_step (r ∷ rs) i v p =
    let y = r.share i v in
    let z = total r (suc i) p in
    let e : y +ℤ z ≡ z +ℤ y = omega (zarith, sum y z, sum z y) in
    rw (e, totals_step rs i v p)

up_node_lem : (q : Campaign) (i : ℕ) (us : List Numbers) (bs : List ℕ) (v₀ v j : ℕ) (t : State) (c : ℤ) → get_or bs v 0 ≡ suc j → Cover (get_or us j none) t c
    → Cover (up_node q i us v₀ bs) (child q.rules i (v₀ + v) t) (c +ℤ q.price i (v₀ + v))
up_node_lem q i us [] v₀ v j t c e h = absurd (omega arith)
up_node_lem q i us (b ∷ bs) v₀ zero j t c e h =
    let o : v₀ + 0 ≡ v₀ = omega arith in
    rw (o, e) (meet_l (over q i v₀ (get_or us j none)) (up_node q i us (suc v₀) bs) _ _ (over_covers q i v₀ (get_or us j none) t c h))
up_node_lem q i us (b ∷ bs) v₀ (suc v) j t c e h =
    let o : v₀ + suc v ≡ suc v₀ + v = omega arith in
    rw o (meet_r (up_arc q i us v₀ b) (up_node q i us (suc v₀) bs) _ _ (up_node_lem q i us bs (suc v₀) v j t c e h))

pub ups_cover : (q : Campaign) (i : ℕ) (a : Arcs) (k : ℕ) (p : List ℕ) → walks a k p ≡ true
    → Cover (get_or (get_or (ups q i a) 0 []) k none) (totals q.rules i p) (prices q i p)
ups_cover q i [] k [] e = rw (eqb-true k 0 e) (wider_refl (totals q.rules i []), omega zarith)
ups_cover q i [] k (v ∷ p) e = absurd (true≢false (sym e))
ups_cover q i (l ∷ ls) k [] e = absurd (true≢false (sym e))
ups_cover q i (l ∷ ls) k (v ∷ p) e =
    let us = get_or (ups q (suc i) ls) 0 [] in
    let n = next (λ j. walks ls j p) (get_or (get_or l k []) v 0) e in
    let y = q.price i v in
    let z = prices q (suc i) p in
    let h = up_node_lem q i us (get_or l k []) 0 v n.to _ _ n.byte (ups_cover q (suc i) ls n.to p n.on) in
    let e : y +ℤ z ≡ z +ℤ y = omega (zarith, sum y z, sum z y) in
    rw (ListN.get_or-map (up_node q i us 0) l k [], totals_step q.rules i v p, e) (rw zero-add at h)

-- ---- down numbers cover the way so far
module _ (q : Campaign) (i j : ℕ) where
  down_node_lem : (d : Numbers) (bs : List ℕ) (v₀ v : ℕ) (t : State) (c : ℤ) → get_or bs v 0 ≡ suc j → Cover d t c
      → Cover (down_node q i j d v₀ bs) (child q.rules i (v₀ + v) t) (c +ℤ q.price i (v₀ + v))
  down_node_lem d [] v₀ v t c e h = absurd (omega arith)
  down_node_lem d (b ∷ bs) v₀ zero t c e h =
      let o : v₀ + 0 ≡ v₀ = omega arith in
      rw (o, eq-eqb b (suc j) e) (meet_l (over q i v₀ d) (down_node q i j d (suc v₀) bs) _ _ (over_covers q i v₀ d t c h))
  down_node_lem d (b ∷ bs) v₀ (suc v) t c e h =
      let o : v₀ + suc v ≡ suc v₀ + v = omega arith in
      rw o (go (eqb b (suc j)) (child q.rules i (suc v₀ + v) t) (c +ℤ q.price i (suc v₀ + v)) (down_node_lem d bs (suc v₀) v t c e h))
    where
      go : (b : Bool) (t : State) (c : ℤ) → Cover (down_node q i j d (suc v₀) bs) t c
          → Cover (cond b (meet (over q i v₀ d) (down_node q i j d (suc v₀) bs)) (down_node q i j d (suc v₀) bs)) t c
      go true t c k = meet_r (over q i v₀ d) (down_node q i j d (suc v₀) bs) t c k
      go false t c k = k

  down_at_lem : (ds : List Numbers) (l : List (List ℕ)) (k v : ℕ) (t : State) (c : ℤ) → get_or (get_or l k []) v 0 ≡ suc j → Cover (get_or ds k none) t c
      → Cover (down_at q i j ds l) (child q.rules i v t) (c +ℤ q.price i v)
  down_at_lem [] l k v t c e h = absurd h
  down_at_lem (d ∷ ds) [] k v t c e h = absurd (omega arith)
  down_at_lem (d ∷ ds) (bs ∷ l) zero v t c e h =
      meet_l (down_node q i j d 0 bs) (down_at q i j ds l) _ _ (rw zero-add at (down_node_lem d bs 0 v t c e h))
  down_at_lem (d ∷ ds) (bs ∷ l) (suc k) v t c e h =
      meet_r (down_node q i j d 0 bs) (down_at q i j ds l) _ _ (down_at_lem ds l k v t c e h)

  -- at place j of the next layer, which has n nodes
  down_next : (n : ℕ) (ds : List Numbers) (l : List (List ℕ)) (k v : ℕ) (t : State) (c : ℤ) → j < n → get_or (get_or l k []) v 0 ≡ suc j → Cover (get_or ds k none) t c
      → Cover (get_or (map (λ k. down_at q i k ds l) (from 0 n)) j none) (child q.rules i v t) (c +ℤ q.price i v)
  down_next n ds l k v t c b e h =
      let at : ℕ → Numbers = λ k. down_at q i k ds l in
      let is = get_or_map at (from 0 n) j 0 none (rw (length_from 0 n) b) ∙ ap at (get_or-from 0 n j b ∙ zero-add j) in
      rw is (down_at_lem ds l k v t c e h)

-- ---- what stands at a place of all arcs
module _ {A : Type 0} where
  step_at : (f : ℕ → ℕ → A) (bs : List ℕ) (v₀ v : ℕ) (d : A) → v < length bs → get_or (each_step f v₀ bs) v d ≡ f (v₀ + v) (get_or bs v 0)
  step_at f [] v₀ v d h = absurd (omega arith)
  step_at f (b ∷ bs) v₀ zero d h = let o : v₀ + 0 ≡ v₀ = omega arith in rw o
  step_at f (b ∷ bs) v₀ (suc v) d h = let o : v₀ + suc v ≡ suc v₀ + v = omega arith in rw o (step_at f bs (suc v₀) v d (omega arith))

  parent_at : (f : Numbers → ℕ → ℕ → A) (ds : List Numbers) (l : List (List ℕ)) (k : ℕ) → k < length ds
      → get_or (each_parent f ds l) k [] ≡ each_step (f (get_or ds k none)) 0 (get_or l k [])
  parent_at f ds [] k h = refl
  parent_at f [] (bs ∷ l) k h = absurd (omega arith)
  parent_at f (d ∷ ds) (bs ∷ l) zero h = refl
  parent_at f (d ∷ ds) (bs ∷ l) (suc k) h = parent_at f ds l k (omega arith)

-- ---- a test keeps a path that it has no reason to drop
-- what a test asks of the way so far, with totals t and cost c, and the rest p of the plan from slot i on
abbrev pub Asked : Test → Campaign → ℕ → State → ℤ → List ℕ → Type 0
Asked on_path q i t c p = Unit {0}
Asked (within m) q i t c p = Fits q.rules i t p × ((c +ℤ prices q i p) ≤ℤ m)

asked_on : (e : Test) (q : Campaign) (i v : ℕ) (t : State) (c : ℤ) (p : List ℕ) → Asked e q i t c (v ∷ p) → Asked e q (suc i) (child q.rules i v t) (c +ℤ q.price i v) p
asked_on on_path q i v t c p h = tt
asked_on (within m) q i v t c p h =
    let y = q.price i v in
    let z = prices q (suc i) p in
    (rw (child_fits q.rules i v t p) h.0, omega (zarith, h.1, sum y z, sum c (y +ℤ z), sum c y, sum (c +ℤ y) z))

-- d are the parent's numbers over the arc, u the child's
arc_stays : (e : Test) (q : Campaign) (i : ℕ) (d u : Numbers) (t : State) (c : ℤ) (p : List ℕ) → Cover d t c → Cover u (totals q.rules i p) (prices q i p)
    → Asked e q i t c p → stays e q d u ≡ true
arc_stays e q i none u t c p h k o = absurd h
arc_stays e q i (some d) none t c p h k o = absurd k
arc_stays on_path q i (some d) (some u) t c p h k o = refl
arc_stays (within m) q i (some d) (some u) t c p h k o =
    let z = prices q i p in
    let cheap : affords m d u ≡ true = omega (zarith, h.1, k.1, o.1, sum d.1 u.1, sum c z) in
    and_both (may_keep_all q.rules d.0 u.0) (affords m d u) (may_keep_lem q.rules i d.0 u.0 p k.0 (wider_fits q.rules i d.0 t p h.0 o.0)) cheap

-- the other way, of the cost
pub stays_affords : (c : ℤ) (q : Campaign) (d u : State × ℤ) → stays (within c) q (some d) (some u) ≡ true → (d.1 +ℤ u.1) ≤ℤ c
stays_affords c q d u h = let f : affords c d u ≡ true = and_r (may_keep_all q.rules d.0 u.0) (affords c d u) h in omega zarith

-- from the node at place k of layer i, whose down numbers cover the way so far
tested : (e : Test) (q : Campaign) (i : ℕ) (a : Arcs) (ds : List Numbers) (k : ℕ) (p : List ℕ) (t : State) (c : ℤ)
    → Cover (get_or ds k none) t c → Asked e q i t c p → walks a k p ≡ true → walks (each_slot (test_arc e q) i (downs q i ds a) (ups q i a) a) k p ≡ true
tested e q i [] ds k p t c h o w = w
tested e q i (l ∷ ls) ds k [] t c h o w = absurd (true≢false (sym w))
tested e q i (l ∷ ls) ds k (v ∷ p) t c h o w =
    let us = get_or (ups q (suc i) ls) 0 [] in
    let d = get_or ds k none in
    let n = next (λ j. walks ls j p) (get_or (get_or l k []) v 0) w in
    let on = asked_on e q i v t c p o in
    let stay = arc_stays e q (suc i) (over q i v d) (get_or us n.to none) (child q.rules i v t) (c +ℤ q.price i v) p (over_covers q i v d t c h) (ups_cover q (suc i) ls n.to p n.on) on in
    rw (parent_at (test_arc e q i us) ds l k (place_there ds k none (λ e. rw e at h)), step_at (test_arc e q i us d) (get_or l k []) 0 v 0 (byte_there (get_or l k []) v n.byte), zero-add, n.byte, stay)
    (tested e q (suc i) ls (map (λ k. down_at q i k ds l) (from 0 (node_count ls))) n.to p (child q.rules i v t) (c +ℤ q.price i v)
    (down_next q i n.to (node_count ls) ds l k v t c (walk_there ls n.to p n.on) n.byte h) on n.on)

source_covers : (q : Campaign) → Cover (begins q) (starts q.rules) (pos 0)
source_covers q = (wider_refl (starts q.rules), omega zarith)

-- from the source
pub dropped : (e : Test) (q : Campaign) (a : Arcs) (p : List ℕ) → Asked e q 0 (starts q.rules) (pos 0) p → is_path a p ≡ true → is_path (drops e q a) p ≡ true
dropped e q a p o w = tested e q 0 a (begins q ∷ []) 0 p (starts q.rules) (pos 0) (source_covers q) o w

rounds_keep : (c : ℤ) (q : Campaign) (n : ℕ) (a : Arcs) (p : List ℕ) → Asked (within c) q 0 (starts q.rules) (pos 0) p → is_path a p ≡ true → is_path (rounds c q n a) p ≡ true
rounds_keep c q zero a p o w = w
rounds_keep c q (suc n) a p o w = rounds_keep c q n (drops (within c) q a) p o (dropped (within c) q a p o w)

-- a lawful plan within the ceiling passes
lawful_asked : (q : Campaign) (c : ℤ) (p : List ℕ) → lawful q p ≡ true → cost q p ≤ℤ c → Asked (within c) q 0 (starts q.rules) (pos 0) p
lawful_asked q c p e h =
    (source_fits q.rules p (and_r (allowed q.steps q.sets p) (every (keeps_rule p) q.rules) e), omega (zarith, sum (pos 0) (prices q 0 p)))

-- so it is a path of the finished diagram
pub kept : (q : Campaign) (w n : ℕ) (c : ℤ) (p : List ℕ) → lawful q p ≡ true → cost q p ≤ℤ c → 0 < w → is_path (relaxed_arcs q w n c) p ≡ true
kept q w n c p e h hw =
    dropped on_path q (rounds c q n (built relaxed q w)) p tt (rounds_keep c q n (built relaxed q w) p (lawful_asked q c p e h) (lawful_walks q w p hw e))

-- ---- the bound
-- it is there, and at most z
abbrev pub AtMost : Option ℤ → ℤ → Type 0
AtMost none z = ⊥
AtMost (some b) z = b ≤ℤ z

cover_cost : (n : Numbers) (t : State) (c z : ℤ) → Cover n t c → c ≤ℤ z → AtMost (Option.map (λ n. n.1) n) z
cover_cost none t c z h k = absurd h
cover_cost (some a) t c z h k = omega (zarith, h.1)

at_most_more : (b : Option ℤ) (y z : ℤ) → AtMost b y → y ≤ℤ z → AtMost b z
at_most_more none y z h k = absurd h
at_most_more (some b) y z h k = omega zarith

-- from the node at place k of layer i, whose down numbers ds cover the way so far
last_at_most : (q : Campaign) (i : ℕ) (a : Arcs) (es ds : List Numbers) (k : ℕ) (p : List ℕ) (t : State) (c : ℤ) → Cover (get_or ds k none) t c → walks a k p ≡ true
    → AtMost (Option.map (λ n. n.1) (get_or (last_or es (downs q i ds a)) 0 none)) (c +ℤ prices q i p)
last_at_most q i [] es ds k [] t c h w =
    cover_cost (get_or ds 0 none) t c (c +ℤ pos 0) (rw (eqb-true k 0 w) at h) (omega (zarith, sum c (pos 0)))
last_at_most q i [] es ds k (v ∷ p) t c h w = absurd (true≢false (sym w))
last_at_most q i (l ∷ ls) es ds k [] t c h w = absurd (true≢false (sym w))
last_at_most q i (l ∷ ls) es ds k (v ∷ p) t c h w =
    let n = next (λ j. walks ls j p) (get_or (get_or l k []) v 0) w in
    let y = q.price i v in
    let z = prices q (suc i) p in
    let fs = map (λ k. down_at q i k ds l) (from 0 (node_count ls)) in
    at_most_more (Option.map (λ n. n.1) (get_or (last_or ds (downs q (suc i) fs ls)) 0 none)) (c +ℤ y +ℤ z) (c +ℤ (y +ℤ z))
    (last_at_most q (suc i) ls ds fs n.to p (child q.rules i v t) (c +ℤ y)
    (down_next q i n.to (node_count ls) ds l k v t c (walk_there ls n.to p n.on) n.byte h) n.on)
    (omega (zarith, sum c y, sum (c +ℤ y) z, sum y z, sum c (y +ℤ z)))

pub bound_at_most : (q : Campaign) (a : Arcs) (p : List ℕ) → is_path a p ≡ true → AtMost (bound q a) (cost q p)
bound_at_most q a p w =
    at_most_more (bound q a) (pos 0 +ℤ cost q p) (cost q p)
    (last_at_most q 0 a [] (begins q ∷ []) 0 p (starts q.rules) (pos 0) (source_covers q) w)
    (omega (zarith, sum (pos 0) (cost q p)))

pub dual_at_most : (q : Campaign) (w n : ℕ) (c : ℤ) (p : List ℕ) → lawful q p ≡ true → cost q p ≤ℤ c → 0 < w → AtMost (dual q w n c) (cost q p)
dual_at_most q w n c p e h hw = bound_at_most q (relaxed_arcs q w n c) p (kept q w n c p e h hw)
