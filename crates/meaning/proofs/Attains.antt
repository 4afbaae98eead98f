-- Is a bound the cost of a path, and does each arc that a round leaves lie on a path within the ceiling?
-- The least of some numbers is one of them, so that the way to a number can be followed back, arc by arc. The arcs are any.
use mathlib.Core.Path.{◌≡◌, refl, sym, ◌∙◌, ap, subst}
use mathlib.Core.List.{List, [], ◌∷◌, map}
use mathlib.Core.Bool.{Bool, true, false, cond, true≢false}
use mathlib.Core.Option
use mathlib.Core.Option.{none, some, none-ne-some, some-injective}
use mathlib.Core.Logic.{◌⊎◌, inl, inr}
use Prim.Native.Nat.{ℕ, zero, suc, ◌+◌, ◌-◌, ◌<◌}
use native.Mathlib.Omega.{arith}
use native.Mathlib.Nat.{zero-add}
use lib.Dec.{eqb}
use lib.ListN.{get_or, get_or-map}
use borrow.Author.Tests.{eqb-true, eq-eqb}
use lib.IntN.{ℤ, pos, ◌+ℤ◌}
use lib.Signed.{le_z, ◌≤ℤ◌}
use Rattle.laws.specs.Z.{zarith, sum, assoc}
use Rattle.laws.specs.Lists.{from, last_or}
use Rattle.laws.proofs.Lists.{and_both}
use Rattle.meaning.specs.Plan.{Campaign, summed, cost}
use Rattle.meaning.specs.Diagram.{State, Arcs}
use Rattle.meaning.specs.Filter.{Numbers, meet, over, up_arc, up_node, ups, up_numbers, down_node, down_at, node_count, downs, begins, each_slot, Test, on_path, within, stays, test_arc, drops, swept}
use Rattle.meaning.specs.Bound.{walks, is_path, arc_at, passes, bound}
use Rattle.meaning.proofs.Walks.{fewer_passes, passes_arc}
use Rattle.meaning.proofs.Drops.{layer_left, drops_fewer}
use Rattle.meaning.proofs.Keeps.{stays_affords, dropped}

-- a node has numbers, and its cost is z
abbrev CostIs : Numbers → ℤ → Type 0
CostIs none z = ⊥
CostIs (some a) z = a.1 ≡ z

record Costs (n : Numbers) (z : ℤ) : Type 0 where
  is : CostIs n z

-- the least of two is one of them
meet_one : (n m : Numbers) {z : ℤ} → Costs (meet n m) z → Costs n z ⊎ Costs m z
meet_one none m h = inr h
meet_one (some a) none h = inl h
meet_one (some a) (some b) {z} h = go (le_z a.1 b.1) h.is
  where
    go : (t : Bool) → cond t a.1 b.1 ≡ z → Costs (some a) z ⊎ Costs (some b) z
    go true e = inl (record { is = e })
    go false e = inr (record { is = e })

-- z is a node's cost plus x
record Plus (n : Numbers) (x z : ℤ) : Type 0 where
  cost : ℤ
  has : Costs n cost
  adds : cost +ℤ x ≡ z

over_plus : (q : Campaign) (i v : ℕ) (n : Numbers) {z : ℤ} → Costs (over q i v n) z → Plus n (q.price i v) z
over_plus q i v none h = absurd h.is
over_plus q i v (some a) h = record { cost = a.1; has = record { is = refl }; adds = h.is }

-- ---- up: a cost up is that of a rest of a path
module _ (q : Campaign) (i : ℕ) (us : List Numbers) where
  -- of some bytes, from step v₀ on, an arc whose child has the cost
  record Out (bs : List ℕ) (v₀ : ℕ) (z : ℤ) : Type 0 where
    step : ℕ
    to : ℕ
    byte : get_or bs step 0 ≡ suc to
    plus : Plus (get_or us to none) (q.price i (v₀ + step)) z

  up_out : (bs : List ℕ) (v₀ : ℕ) {z : ℤ} → Costs (up_node q i us v₀ bs) z → Out bs v₀ z
  up_out [] v₀ h = absurd h.is
  up_out (b ∷ bs) v₀ {z} h = go (λ k. up_out bs (suc v₀) k) (meet_one (up_arc q i us v₀ b) (up_node q i us (suc v₀) bs) h)
    where
      first : (b : ℕ) → Costs (up_arc q i us v₀ b) z → Out (b ∷ bs) v₀ z
      first zero k = absurd k.is
      first (suc j) k =
          let o : v₀ + 0 ≡ v₀ = omega arith in
          record { step = 0; to = j; byte = refl; plus = rw o (over_plus q i v₀ (get_or us j none) k) }

      later : Out bs (suc v₀) z → Out (b ∷ bs) v₀ z
      later k = let o : v₀ + suc k.step ≡ suc v₀ + k.step = omega arith in record { step = suc k.step; to = k.to; byte = k.byte; plus = rw o k.plus }

      go : (Costs (up_node q i us (suc v₀) bs) z → Out bs (suc v₀) z) → Costs (up_arc q i us v₀ b) z ⊎ Costs (up_node q i us (suc v₀) bs) z → Out (b ∷ bs) v₀ z
      go r (inl k) = first b k
      go r (inr k) = later (r k)

-- from place k the steps lead to the sink, at cost z
record Rest (q : Campaign) (i : ℕ) (a : Arcs) (k : ℕ) (z : ℤ) : Type 0 where
  steps : List ℕ
  walk : walks a k steps ≡ true
  sums : summed q.price i steps ≡ z

up_rest : (q : Campaign) (i : ℕ) (a : Arcs) (k : ℕ) {z : ℤ} → Costs (get_or (get_or (ups q i a) 0 []) k none) z → Rest q i a k z
up_rest q i [] zero h = record { steps = []; walk = refl; sums = h.is }
up_rest q i [] (suc k) h = absurd h.is
up_rest q i (l ∷ ls) k {z} h =
    let us = get_or (ups q (suc i) ls) 0 [] in
    let out = up_out q i us (get_or l k []) 0 (rw (get_or-map (up_node q i us 0) l k []) at h) in
    let rest = up_rest q (suc i) ls out.to out.plus.has in
    record { steps = out.step ∷ rest.steps; walk = rw out.byte rest.walk; sums = ap (λ (t : ℤ). q.price i out.step +ℤ t) rest.sums ∙ turned (q.price i out.step) out.plus.cost (rw zero-add at out.plus.adds) }
  where
    turned : (y c : ℤ) → c +ℤ y ≡ z → y +ℤ c ≡ z
    turned y c e = omega (zarith, sum y c, sum c y)

-- ---- down: a cost down is that of a way from the layer above
module _ (q : Campaign) (i k : ℕ) where
  -- of a parent's bytes, from step v₀ on, an arc to place k that has the cost
  record Into (d : Numbers) (bs : List ℕ) (v₀ : ℕ) (z : ℤ) : Type 0 where
    step : ℕ
    byte : get_or bs step 0 ≡ suc k
    plus : Plus d (q.price i (v₀ + step)) z

  down_into : (d : Numbers) (bs : List ℕ) (v₀ : ℕ) {z : ℤ} → Costs (down_node q i k d v₀ bs) z → Into d bs v₀ z
  down_into d [] v₀ h = absurd h.is
  down_into d (b ∷ bs) v₀ {z} h = go (eqb b (suc k)) refl (λ k. down_into d bs (suc v₀) k) h
    where
      later : Into d bs (suc v₀) z → Into d (b ∷ bs) v₀ z
      later x = let o : v₀ + suc x.step ≡ suc v₀ + x.step = omega arith in record { step = suc x.step; byte = x.byte; plus = rw o x.plus }

      one : b ≡ suc k → (Costs (down_node q i k d (suc v₀) bs) z → Into d bs (suc v₀) z) → Costs (over q i v₀ d) z ⊎ Costs (down_node q i k d (suc v₀) bs) z → Into d (b ∷ bs) v₀ z
      one e r (inl c) = let o : v₀ + 0 ≡ v₀ = omega arith in record { step = 0; byte = e; plus = rw o (over_plus q i v₀ d c) }
      one e r (inr c) = later (r c)

      go : (t : Bool) → eqb b (suc k) ≡ t → (Costs (down_node q i k d (suc v₀) bs) z → Into d bs (suc v₀) z)
          → Costs (cond t (meet (over q i v₀ d) (down_node q i k d (suc v₀) bs)) (down_node q i k d (suc v₀) bs)) z → Into d (b ∷ bs) v₀ z
      go true e r c = one (eqb-true b (suc k) e) r (meet_one (over q i v₀ d) (down_node q i k d (suc v₀) bs) c)
      go false e r c = later (r c)

  -- of all parents
  record Parent (ds : List Numbers) (l : List (List ℕ)) (z : ℤ) : Type 0 where
    place : ℕ
    step : ℕ
    byte : get_or (get_or l place []) step 0 ≡ suc k
    plus : Plus (get_or ds place none) (q.price i step) z

  down_parent : (ds : List Numbers) (l : List (List ℕ)) {z : ℤ} → Costs (down_at q i k ds l) z → Parent ds l z
  down_parent [] l h = absurd h.is
  down_parent (d ∷ ds) [] h = absurd h.is
  down_parent (d ∷ ds) (bs ∷ l) {z} h = go (λ c. down_parent ds l c) (meet_one (down_node q i k d 0 bs) (down_at q i k ds l) h)
    where
      go : (Costs (down_at q i k ds l) z → Parent ds l z) → Costs (down_node q i k d 0 bs) z ⊎ Costs (down_at q i k ds l) z → Parent (d ∷ ds) (bs ∷ l) z
      go r (inl c) = let x = down_into d bs 0 c in record { place = 0; step = x.step; byte = x.byte; plus = rw zero-add at x.plus }
      go r (inr c) = let x = r c in record { place = suc x.place; step = x.step; byte = x.byte; plus = x.plus }

-- the number at a place is that place's
at_place : (f : ℕ → Numbers) (v n k : ℕ) {z : ℤ} → Costs (get_or (map f (from v n)) k none) z → Costs (f (v + k)) z
at_place f v zero k h = absurd h.is
at_place f v (suc n) zero h = let o : v + 0 ≡ v = omega arith in rw o h
at_place f v (suc n) (suc k) h = let o : v + suc k ≡ suc v + k = omega arith in rw o (at_place f (suc v) n k h)

-- ---- a way: from a place of the first layer whose cost down is begun, along the arcs to the sink
record Way (q : Campaign) (i : ℕ) (ds : List Numbers) (a : Arcs) : Type 0 where
  place : ℕ
  steps : List ℕ
  begun : ℤ
  has : Costs (get_or ds place none) begun
  walk : walks a place steps ≡ true

abbrev whole : {q : Campaign} {i : ℕ} {ds : List Numbers} {a : Arcs} → Way q i ds a → ℤ
whole {q} {i} w = w.begun +ℤ summed q.price i w.steps

module _ (q : Campaign) (i : ℕ) (ds : List Numbers) (l : List (List ℕ)) (ls : Arcs) where
  abbrev below : List Numbers
  below = map (λ k. down_at q i k ds l) (from 0 (node_count ls))

  -- the same way from a layer above, at the same cost
  record Longer (w : Way q (suc i) below ls) : Type 0 where
    way : Way q i ds (l ∷ ls)
    same : whole way ≡ whole w
    also : (t j v : ℕ) → passes (suc t) j v (l ∷ ls) way.place way.steps ≡ passes t j v ls w.place w.steps

  longer : (w : Way q (suc i) below ls) → Longer w
  longer w =
      let x = down_parent q i w.place ds l (rw zero-add at (at_place (λ k. down_at q i k ds l) 0 (node_count ls) w.place w.has)) in
      record {
        way = record { place = x.place; steps = x.step ∷ w.steps; begun = x.plus.cost; has = x.plus.has; walk = rw x.byte w.walk };
        same = sym (assoc x.plus.cost (q.price i x.step) (summed q.price (suc i) w.steps)) ∙ ap (λ (z : ℤ). z +ℤ summed q.price (suc i) w.steps) x.plus.adds;
        also = λ t j v. rw x.byte;
      }

-- ---- the sink's cost down is the cost of a way
record Attains (q : Campaign) (i : ℕ) (ds : List Numbers) (a : Arcs) (z : ℤ) : Type 0 where
  way : Way q i ds a
  costs : whole way ≡ z

last_down : (q : Campaign) (i : ℕ) (d ds : List Numbers) (a : Arcs) → last_or d (downs q i ds a) ≡ last_or [] (downs q i ds a)
last_down q i d ds [] = refl
last_down q i d ds (l ∷ ls) = refl

sink_way : (q : Campaign) (i : ℕ) (ds : List Numbers) (a : Arcs) {z : ℤ} → Costs (get_or (last_or [] (downs q i ds a)) 0 none) z → Attains q i ds a z
sink_way q i ds [] {z} h =
    record { way = record { place = 0; steps = []; begun = z; has = h; walk = refl }; costs = omega (zarith, sum z (pos 0)) }
sink_way q i ds (l ∷ ls) h =
    let x = sink_way q (suc i) (below q i ds l ls) ls (rw (last_down q (suc i) ds (below q i ds l ls) ls) at h) in
    let y = longer q i ds l ls x.way in
    record { way = y.way; costs = y.same ∙ x.costs }

-- ---- an arc that a test leaves
-- what a test says of a whole cost
abbrev pub Affords : Test → ℤ → Type 0
Affords on_path z = Unit {0}
Affords (within c) z = z ≤ℤ c

record Both (e : Test) (d u : Numbers) : Type 0 where
  down : ℤ
  up : ℤ
  downs : Costs d down
  ups : Costs u up
  sums : Affords e (down +ℤ up)

stays_both : (e : Test) (q : Campaign) (d u : Numbers) → stays e q d u ≡ true → Both e d u
stays_both e q none u h = absurd (true≢false (sym h))
stays_both e q (some d) none h = absurd (true≢false (sym h))
stays_both on_path q (some d) (some u) h = record { down = d.1; up = u.1; downs = record { is = refl }; ups = record { is = refl }; sums = tt }
stays_both (within c) q (some d) (some u) h =
    record { down = d.1; up = u.1; downs = record { is = refl }; ups = record { is = refl }; sums = stays_affords c q d u h }

-- a way that takes an arc, with a cost that the test affords
record Taking (e : Test) (q : Campaign) (i : ℕ) (ds : List Numbers) (a : Arcs) (t j v : ℕ) : Type 0 where
  way : Way q i ds a
  on : passes t j v a way.place way.steps ≡ true
  cheap : Affords e (whole way)

arc_way : (e : Test) (q : Campaign) (i : ℕ) (ds : List Numbers) (a : Arcs) (t j v k : ℕ)
    → arc_at (each_slot (test_arc e q) i (downs q i ds a) (ups q i a) a) t j v ≡ suc k → Taking e q i ds a t j v
arc_way e q i ds [] t j v k h = absurd (omega arith)
arc_way e q i ds (l ∷ ls) zero j v k h =
    let us = get_or (ups q (suc i) ls) 0 [] in
    let arc = layer_left e q i us ds l j v k h in
    let both = stays_both e q (over q i v (get_or ds j none)) (get_or us k none) arc.passed in
    let plus = over_plus q i v (get_or ds j none) both.downs in
    let rest = up_rest q (suc i) ls k both.ups in
    let y = q.price i v in
    let t = summed q.price (suc i) rest.steps in
    record {
      way = record { place = j; steps = v ∷ rest.steps; begun = plus.cost; has = plus.has; walk = rw arc.was rest.walk };
      on = and_both (eqb j j) (eqb v v) (eq-eqb j j refl) (eq-eqb v v refl);
      cheap = rw (← assoc plus.cost y t, plus.adds, rest.sums) both.sums;
    }
arc_way e q i ds (l ∷ ls) (suc t) j v k h =
    let x = arc_way e q (suc i) (below q i ds l ls) ls t j v k h in
    let y = longer q i ds l ls x.way in
    record { way = y.way; on = y.also t j v ∙ x.on; cheap = rw y.same x.cheap }

-- ---- the theorems, for any arcs
-- the source alone has a number to begin with, and it is zero
source_way : (q : Campaign) (a : Arcs) (w : Way q 0 (begins q ∷ []) a) → (is_path a w.steps ≡ true) × (w.place ≡ 0) × (whole w ≡ cost q w.steps)
source_way q a w = go w.place w.has w.walk
  where
    go : (k : ℕ) → Costs (get_or (begins q ∷ []) k none) w.begun → walks a k w.steps ≡ true → (is_path a w.steps ≡ true) × (k ≡ 0) × (whole w ≡ cost q w.steps)
    go zero h e = (e, refl, omega (zarith, sum w.begun (cost q w.steps), h.is))
    go (suc k) h e = absurd h.is

-- a bound is the cost of a path
pub record PathOf (q : Campaign) (a : Arcs) (z : ℤ) : Type 0 where
  pub steps : List ℕ
  pub is : is_path a steps ≡ true
  pub costs : cost q steps ≡ z

pub bound_attained : (q : Campaign) (a : Arcs) {z : ℤ} → bound q a ≡ some z → PathOf q a z
bound_attained q a {z} e =
    let x = sink_way q 0 (begins q ∷ []) a (has (get_or (last_or [] (downs q 0 (begins q ∷ []) a)) 0 none) e) in
    let s = source_way q a x.way in
    record { steps = x.way.steps; is = s.0; costs = sym s.2 ∙ x.costs }
  where
    has : (n : Numbers) → Option.map (λ n. n.1) n ≡ some z → Costs n z
    has none e = absurd (none-ne-some z e)
    has (some d) e = record { is = some-injective d.1 z e }

-- the source's up numbers: where there are some a path leads to the sink
abbrev pub source_up : Campaign → Arcs → Numbers
source_up q a = get_or (get_or (up_numbers q a) 0 []) 0 none

pub source_path : (q : Campaign) (a : Arcs) {u : State × ℤ} → source_up q a ≡ some u → PathOf q a u.1
source_path q a {u} e =
    let has : Costs (source_up q a) u.1 = rw e (record { is = refl }) in
    let x = up_rest q 0 a 0 has in
    record { steps = x.steps; is = x.walk; costs = x.sums }

-- an arc that a test leaves lies on a path, before anything fell; of a round its cost is at most the ceiling
pub record Used (e : Test) (q : Campaign) (a : Arcs) (i j v : ℕ) : Type 0 where
  pub steps : List ℕ
  pub is : is_path a steps ≡ true
  pub on : passes i j v a 0 steps ≡ true
  pub cheap : Affords e (cost q steps)

pub arc_used : (e : Test) (q : Campaign) (a : Arcs) (i j v k : ℕ) → arc_at (drops e q a) i j v ≡ suc k → Used e q a i j v
arc_used e q a i j v k h =
    let x = arc_way e q 0 (begins q ∷ []) a i j v k h in
    let s = source_way q a x.way in
    record { steps = x.way.steps; is = s.0; on = rw s.1 at x.on; cheap = subst (Affords e) s.2 x.cheap }

-- ---- "drops every arc on no path from source to sink", and no other: an arc that the sweep leaves lies on a path that it leaves
pub record OnPath (a : Arcs) (i j v : ℕ) : Type 0 where
  pub steps : List ℕ
  pub is : is_path a steps ≡ true
  pub on : passes i j v a 0 steps ≡ true

pub swept_arc : (q : Campaign) (a : Arcs) (i j v : ℕ) → 0 < arc_at (swept q a) i j v → OnPath (swept q a) i j v
swept_arc q a i j v h =
    let k = arc_at (swept q a) i j v - 1 in
    let x = arc_used on_path q a i j v k (omega arith) in
    let path = dropped on_path q a x.steps tt x.is in
    record { steps = x.steps; is = path; on = fewer_passes (swept q a) a (drops_fewer on_path q a) i j v 0 x.steps path x.on }

pub path_arc : (q : Campaign) (a : Arcs) (i j v : ℕ) → OnPath a i j v → 0 < arc_at (swept q a) i j v
path_arc q a i j v x =
    let path = dropped on_path q a x.steps tt x.is in
    passes_arc i j v (swept q a) 0 x.steps path (fewer_passes (swept q a) a (drops_fewer on_path q a) i j v 0 x.steps path x.on)
