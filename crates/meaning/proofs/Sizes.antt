-- How large do running numbers get, along any arcs? No larger than the start and the slots' bounds together.
use mathlib.Core.Path.{◌≡◌, refl}
use mathlib.Core.List.{List, [], ◌∷◌, ◌++◌, map}
use mathlib.Core.Bool.{Bool, true, false, cond}
use mathlib.Core.Option.{none, some}
use Prim.Native.Nat.{ℕ, zero, suc, ◌+◌, ◌≤◌}
use native.Mathlib.Omega.{arith}
use borrow.Author.Tests.{eqb-true}
use lib.Dec.{eqb}
use lib.ListN.{get_or}
use lib.IntN.{ℤ, pos, nat_abs, ◌+ℤ◌}
use lib.Signed.{le_z}
use Rattle.laws.specs.Z.{Within, sum_within}
use Rattle.laws.specs.Lists.{gather, flat, from}
use Rattle.laws.proofs.Each.{Each, each_at, each_append, each_flat, each_more, each_gather, each_map}
use Rattle.meaning.specs.Plan.{Rule, Campaign}
use Rattle.meaning.specs.Diagram.{State, merged_state, child, Arcs, starts}
use Rattle.meaning.specs.Filter.{Numbers, meet, over, begins, up_arc, up_node, ups, down_node, down_at, node_count, downs, down_numbers, up_numbers, within, on_path, each_step, each_parent, each_slot, drops, swept}
use Rattle.meaning.specs.Running.{ends, meeting_sums, numbers_of, passing, arc_numbers, arcs_numbers, round_numbers}
use Rattle.meaning.proofs.Drops.{drops_fewer}
use Rattle.meaning.proofs.Allowed.{IfArc, OnSteps, OnArcs, fewer_on}

-- ---- sizes
pub larger : {m n : ℕ} {z : ℤ} → m ≤ n → Within m z → Within n z
larger l h = record { size = omega (arith, h.size) }

pub added : {m k n : ℕ} {a b : ℤ} → m + k ≤ n → Within m a → Within k b → Within n (a +ℤ b)
added l h e = larger l (sum_within h e)

pub either : {m : ℕ} {a b : ℤ} (t : Bool) → Within m a → Within m b → Within m (cond t a b)
either true h e = h
either false h e = e

-- ---- states: each pair lies within its rule's bound
abbrev pub Sized : (Rule → ℕ) → List Rule → State → Type 0
Sized m rs [] = Unit {0}
Sized m [] (p ∷ t) = ⊥
Sized m (r ∷ rs) (p ∷ t) = Within (m r) p.0 × Within (m r) p.1 × Sized m rs t

-- bounds m of the parent and k of the share give n of the child
pub record Step (m k n : Rule → ℕ) : Type 0 where
  pub le : (r : Rule) → m r + k r ≤ n r

pub child_sized : {m k n : Rule → ℕ} → Step m k n → (rs : List Rule) (i v : ℕ) (t : State) → Sized m rs t → Each (λ r. Within (k r) (r.share i v)) rs
    → Sized n rs (child rs i v t)
child_sized f [] i v t h e = tt
child_sized f (r ∷ rs) i v [] h e = tt
child_sized f (r ∷ rs) i v (p ∷ t) h e = (added (f.le r) h.0 e.0, added (f.le r) h.1 e.0, child_sized f rs i v t h.2 e.1)

pub merged_sized : (m : Rule → ℕ) (rs : List Rule) (s t : State) → Sized m rs s → Sized m rs t → Sized m rs (merged_state s t)
merged_sized m rs [] t h e = e
merged_sized m rs (p ∷ s) [] h e = h
merged_sized m [] (p ∷ s) (q ∷ t) h e = absurd h
merged_sized m (r ∷ rs) (p ∷ s) (q ∷ t) h e =
    (either (le_z p.0 q.0) h.0 e.0, either (le_z p.1 q.1) e.1 h.1, merged_sized m rs s t h.2 e.2)

-- the numbers of a state, and its sums with another, where the bounds lie below one number
module _ (top : ℕ) where
  -- where two bounds together do, each does
  pub left_less : (m n : Rule → ℕ) (rs : List Rule) → Each (λ r. m r + n r ≤ top) rs → Each (λ r. m r ≤ top) rs
  left_less m n rs h = each_more (λ r. m r + n r ≤ top) (λ r. m r ≤ top) (λ r l. omega arith) rs h

  pub right_less : (m n : Rule → ℕ) (rs : List Rule) → Each (λ r. m r + n r ≤ top) rs → Each (λ r. n r ≤ top) rs
  right_less m n rs h = each_more (λ r. m r + n r ≤ top) (λ r. n r ≤ top) (λ r l. omega arith) rs h

  pub ends_within : (m : Rule → ℕ) (rs : List Rule) (t : State) → Sized m rs t → Each (λ r. m r ≤ top) rs → Each (Within top) (ends t)
  ends_within m rs [] h e = tt
  ends_within m [] (p ∷ t) h e = absurd h
  ends_within m (r ∷ rs) (p ∷ t) h e = (larger e.0 h.0, (larger e.0 h.1, ends_within m rs t h.2 e.1))

  pub sums_within : (m n : Rule → ℕ) (rs : List Rule) (s t : State) → Sized m rs s → Sized n rs t → Each (λ r. m r + n r ≤ top) rs → Each (Within top) (meeting_sums s t)
  sums_within m n rs [] t h k e = tt
  sums_within m n rs (p ∷ s) [] h k e = tt
  sums_within m n [] (p ∷ s) (q ∷ t) h k e = absurd h
  sums_within m n (r ∷ rs) (p ∷ s) (q ∷ t) h k e = (added e.0 h.0 k.0, (added e.0 h.1 k.1, sums_within m n rs s t h.2 k.2 e.1))

-- ---- a cost is like the total of a rule whose share is the price
abbrev pub cost_rule : Campaign → Rule
cost_rule q = record { share = q.price; lb = pos 0; ub = pos 0; start = pos 0 }

-- all that is counted
abbrev pub counted : Campaign → List Rule
counted q = cost_rule q ∷ q.rules

-- a node's numbers, if it has them
abbrev Bounded : Campaign → (Rule → ℕ) → Numbers → Type 0
Bounded q m none = Unit {0}
Bounded q m (some a) = Within (m (cost_rule q)) a.1 × Sized m q.rules a.0

module _ (q : Campaign) where
  meet_bounded : (m : Rule → ℕ) (a b : Numbers) → Bounded q m a → Bounded q m b → Bounded q m (meet a b)
  meet_bounded m none b h e = e
  meet_bounded m (some a) none h e = h
  meet_bounded m (some a) (some b) h e = (either (le_z a.1 b.1) h.0 e.0, merged_sized m q.rules a.0 b.0 h.1 e.1)

  over_bounded : {m k n : Rule → ℕ} → Step m k n → (i v : ℕ) (a : Numbers) → Bounded q m a → Each (λ r. Within (k r) (r.share i v)) (counted q)
      → Bounded q n (over q i v a)
  over_bounded f i v none h e = tt
  over_bounded f i v (some a) h e = (added (f.le (cost_rule q)) h.0 e.0, child_sized f q.rules i v a.0 h.1 e.1)

  numbers_within : (top : ℕ) (m : Rule → ℕ) → Each (λ r. m r ≤ top) (counted q) → (a : Numbers) → Bounded q m a → Each (Within top) (numbers_of a)
  numbers_within top m e none h = tt
  numbers_within top m e (some a) h = (larger e.0 h.0, ends_within top m q.rules a.0 h.1 e.1)

  passing_within : (top : ℕ) (m n : Rule → ℕ) → Each (λ r. m r + n r ≤ top) (counted q) → (d u : Numbers) → Bounded q m d → Bounded q n u → Each (Within top) (passing d u)
  passing_within top m n e none u h k = tt
  passing_within top m n e (some d) none h k = tt
  passing_within top m n e (some d) (some u) h k =
      let less = left_less top m n (counted q) e in
      let rest : Each (Within top) ((d.1 +ℤ u.1) ∷ meeting_sums d.0 u.0) = (added e.0 h.0 k.0, sums_within top m n q.rules d.0 u.0 h.1 k.1 e.1) in
      each_append (Within top) (numbers_of (some d)) ((d.1 +ℤ u.1) ∷ meeting_sums d.0 u.0) (numbers_within top m less (some d) h) rest

-- ---- bounds of slots: what the slots from i on add at most, one element of a list for each
abbrev pub ahead : (Rule → ℕ → ℕ → ℕ) → Rule → ℕ → List ℕ → ℕ
ahead g r i [] = 0
ahead g r i (s ∷ ss) = g r i s + ahead g r (suc i) ss

-- a byte that is some place's is an arc's
is_arc : {A : Type 0} (b : ℕ) {k : ℕ} → IfArc A b → b ≡ suc k → A
is_arc zero h e = absurd (omega arith)
is_arc (suc b) h e = h

-- step v of slot i, whose element is s: no share and no price is above its bound
abbrev pub Bears : Campaign → (Rule → ℕ → ℕ → ℕ) → ℕ → ℕ → ℕ → Type 0
Bears q g i s v = Each (λ r. Within (g r i s) (r.share i v)) (counted q)

zeros_sized : (rs : List Rule) → Sized (λ r. 0) rs (map (λ r. (pos 0, pos 0)) rs)
zeros_sized [] = tt
zeros_sized (r ∷ rs) = (record { size = omega arith }, record { size = omega arith }, zeros_sized rs)

abbrev pub start_size : Rule → ℕ
start_size r = nat_abs r.start

pub starts_sized : (rs : List Rule) → Sized start_size rs (starts rs)
starts_sized [] = tt
starts_sized (r ∷ rs) = (record { size = omega arith }, record { size = omega arith }, starts_sized rs)

-- the arcs of slot i, whose element is s: bounds m on one side of it give n on the other
module _ (q : Campaign) (g : Rule → ℕ → ℕ → ℕ) (i s : ℕ) (m n : Rule → ℕ) (f : Step m (λ r. g r i s) n) where
  up_arc_lem : (us : List Numbers) → Each (Bounded q m) us → (v b : ℕ) → IfArc (Bears q g i s v) b → Bounded q n (up_arc q i us v b)
  up_arc_lem us h v zero e = tt
  up_arc_lem us h v (suc k) e = over_bounded q f i v (get_or us k none) (each_at (Bounded q m) us k none tt h) e

  up_node_lem : (us : List Numbers) → Each (Bounded q m) us → (v : ℕ) (bs : List ℕ) → OnSteps (Bears q g i s) v bs → Bounded q n (up_node q i us v bs)
  up_node_lem us h v [] e = tt
  up_node_lem us h v (b ∷ bs) e = meet_bounded q n (up_arc q i us v b) (up_node q i us (suc v) bs) (up_arc_lem us h v b e.0) (up_node_lem us h (suc v) bs e.1)

  down_node_lem : (k : ℕ) (d : Numbers) → Bounded q m d → (v : ℕ) (bs : List ℕ) → OnSteps (Bears q g i s) v bs → Bounded q n (down_node q i k d v bs)
  down_node_lem k d h v [] e = tt
  down_node_lem k d h v (b ∷ bs) e = go (eqb b (suc k)) refl (down_node_lem k d h (suc v) bs e.1)
    where
      go : (t : Bool) → eqb b (suc k) ≡ t → Bounded q n (down_node q i k d (suc v) bs)
          → Bounded q n (cond t (meet (over q i v d) (down_node q i k d (suc v) bs)) (down_node q i k d (suc v) bs))
      go true c rest = meet_bounded q n (over q i v d) (down_node q i k d (suc v) bs) (over_bounded q f i v d h (is_arc b e.0 (eqb-true b (suc k) c))) rest
      go false c rest = rest

  down_at_lem : (k : ℕ) (ds : List Numbers) → Each (Bounded q m) ds → (l : List (List ℕ)) → Each (OnSteps (Bears q g i s) 0) l → Bounded q n (down_at q i k ds l)
  down_at_lem k [] h l e = tt
  down_at_lem k (d ∷ ds) h [] e = tt
  down_at_lem k (d ∷ ds) h (bs ∷ l) e = meet_bounded q n (down_node q i k d 0 bs) (down_at q i k ds l) (down_node_lem k d h.0 0 bs e.0) (down_at_lem k ds h.1 l e.1)

  -- the numbers of a layer's arcs, where u bounds what follows it
  module _ (top : ℕ) (u : Rule → ℕ) (us : List Numbers) (hu : Each (Bounded q u) us) (less : Each (λ r. n r + u r ≤ top) (counted q)) where
    arc_within : (d : Numbers) → Bounded q m d → (v b : ℕ) → IfArc (Bears q g i s v) b → Each (Within top) (arc_numbers q i us d v b)
    arc_within d h v zero e = tt
    arc_within d h v (suc k) e = passing_within q top n u less (over q i v d) (get_or us k none) (over_bounded q f i v d h e) (each_at (Bounded q u) us k none tt hu)

    steps_within : (d : Numbers) → Bounded q m d → (v : ℕ) (bs : List ℕ) → OnSteps (Bears q g i s) v bs → Each (Each (Within top)) (each_step (arc_numbers q i us d) v bs)
    steps_within d h v [] e = tt
    steps_within d h v (b ∷ bs) e = (arc_within d h v b e.0, steps_within d h (suc v) bs e.1)

    layer_within : (ds : List Numbers) → Each (Bounded q m) ds → (l : List (List ℕ)) → Each (OnSteps (Bears q g i s) 0) l
        → Each (Each (Each (Within top))) (each_parent (arc_numbers q i us) ds l)
    layer_within ds h [] e = tt
    layer_within [] h (bs ∷ l) e = tt
    layer_within (d ∷ ds) h (bs ∷ l) e = (steps_within d h.0 0 bs e.0, layer_within ds h.1 l e.1)

-- ---- all layers
module _ (q : Campaign) (g : Rule → ℕ → ℕ → ℕ) where
  -- up numbers of the first layer: within what the slots ahead add
  ups_bounded : (i : ℕ) (ss : List ℕ) (a : Arcs) → OnArcs (Bears q g) i ss a → Each (Bounded q (λ r. ahead g r i ss)) (get_or (ups q i a) 0 [])
  ups_bounded i [] [] h = ((record { size = omega arith }, zeros_sized q.rules), tt)
  ups_bounded i [] (l ∷ ls) h = absurd h
  ups_bounded i (s ∷ ss) [] h = absurd h
  ups_bounded i (s ∷ ss) (l ∷ ls) h =
      let us = get_or (ups q (suc i) ls) 0 [] in
      let f : Step (λ r. ahead g r (suc i) ss) (λ r. g r i s) (λ r. ahead g r i (s ∷ ss)) = record { le = λ r. omega arith } in
      each_map (OnSteps (Bears q g i s) 0) (Bounded q (λ r. ahead g r i (s ∷ ss))) (up_node q i us 0) (up_node_lem q g i s _ _ f us (ups_bounded (suc i) ss ls h.1) 0) l h.0

  -- the bound of the next layer
  abbrev pub grown : (Rule → ℕ) → ℕ → ℕ → Rule → ℕ
  grown m i s r = m r + g r i s

  pub grown_step : (m : Rule → ℕ) (i s : ℕ) → Step m (λ r. g r i s) (grown m i s)
  grown_step m i s = record { le = λ r. omega arith }

  module _ (top : ℕ) where
    -- m bounds the numbers of layer i: with what the slots ahead add it stays within the top
    abbrev pub Room : (Rule → ℕ) → ℕ → List ℕ → Type 0
    Room m i ss = Each (λ r. m r + ahead g r i ss ≤ top) (counted q)

    -- a node's numbers do
    abbrev Small : Numbers → Type 0
    Small a = Each (Within top) (numbers_of a)

    pub grown_room : (m : Rule → ℕ) (i s : ℕ) (ss : List ℕ) → Room m i (s ∷ ss) → Room (grown m i s) (suc i) ss
    grown_room m i s ss e = each_more _ _ (λ r l. omega arith) (counted q) e

    small : (m : Rule → ℕ) (i : ℕ) (ss : List ℕ) → Room m i ss → (ns : List Numbers) → Each (Bounded q m) ns → Each Small ns
    small m i ss e ns h = each_more (Bounded q m) Small (numbers_within q top m (left_less top m (λ r. ahead g r i ss) (counted q) e)) ns h

    next_layer : (m : Rule → ℕ) (i s : ℕ) (ds : List Numbers) → Each (Bounded q m) ds → (l : List (List ℕ)) → Each (OnSteps (Bears q g i s) 0) l
        → (ks : List ℕ) → Each (Bounded q (grown m i s)) (map (λ k. down_at q i k ds l) ks)
    next_layer m i s ds h l e [] = tt
    next_layer m i s ds h l e (k ∷ ks) = (down_at_lem q g i s m (grown m i s) (grown_step m i s) k ds h l e, next_layer m i s ds h l e ks)

    downs_within : (m : Rule → ℕ) (i : ℕ) (ss : List ℕ) (ds : List Numbers) (a : Arcs) → Each (Bounded q m) ds → OnArcs (Bears q g) i ss a → Room m i ss
        → Each (Each Small) (downs q i ds a)
    downs_within m i [] ds [] h o e = (small m i [] e ds h, tt)
    downs_within m i [] ds (l ∷ ls) h o e = absurd o
    downs_within m i (s ∷ ss) ds [] h o e = absurd o
    downs_within m i (s ∷ ss) ds (l ∷ ls) h o e =
        (small m i (s ∷ ss) e ds h, downs_within (grown m i s) (suc i) ss _ ls (next_layer m i s ds h l o.0 (from 0 (node_count ls))) o.1 (grown_room m i s ss e))

    up_small : (m : Rule → ℕ) (i : ℕ) (ss : List ℕ) (a : Arcs) → OnArcs (Bears q g) i ss a → Room m i ss → Each Small (get_or (ups q i a) 0 [])
    up_small m i ss a o e =
        let less = right_less top m (λ r. ahead g r i ss) (counted q) e in
        each_more _ Small (numbers_within q top (λ r. ahead g r i ss) less) (get_or (ups q i a) 0 []) (ups_bounded i ss a o)

    ups_within : (m : Rule → ℕ) (i : ℕ) (ss : List ℕ) (a : Arcs) → OnArcs (Bears q g) i ss a → Room m i ss → Each (Each Small) (ups q i a)
    ups_within m i [] [] o e = (up_small m i [] [] o e, tt)
    ups_within m i [] (l ∷ ls) o e = absurd o
    ups_within m i (s ∷ ss) [] o e = absurd o
    ups_within m i (s ∷ ss) (l ∷ ls) o e = (up_small m i (s ∷ ss) (l ∷ ls) o e, ups_within (grown m i s) (suc i) ss ls o.1 (grown_room m i s ss e))

    tests_within : (m : Rule → ℕ) (i : ℕ) (ss : List ℕ) (ds : List Numbers) (a : Arcs) → Each (Bounded q m) ds → OnArcs (Bears q g) i ss a → Room m i ss
        → Each (Each (Each (Each (Within top)))) (each_slot (arc_numbers q) i (downs q i ds a) (ups q i a) a)
    tests_within m i [] ds [] h o e = tt
    tests_within m i [] ds (l ∷ ls) h o e = absurd o
    tests_within m i (s ∷ ss) ds [] h o e = absurd o
    tests_within m i (s ∷ ss) ds (l ∷ ls) h o e =
        let us = get_or (ups q (suc i) ls) 0 [] in
        let room = grown_room m i s ss e in (
          layer_within q g i s m (grown m i s) (grown_step m i s) top (λ r. ahead g r (suc i) ss) us (ups_bounded (suc i) ss ls o.1) room ds h l o.0,
          tests_within (grown m i s) (suc i) ss _ ls (next_layer m i s ds h l o.0 (from 0 (node_count ls))) o.1 room,
        )

    -- ---- all numbers of any arcs, from the rules' starts on, with a bound for each slot that no arc's share or price passes
    pub arcs_within : (ss : List ℕ) (a : Arcs) → OnArcs (Bears q g) 0 ss a → Room start_size 0 ss → Each (Within top) (arcs_numbers q a)
    arcs_within ss a o e =
        let begin : Each (Bounded q start_size) (begins q ∷ []) = ((record { size = omega arith }, starts_sized q.rules), tt) in
        let tests = each_slot (arc_numbers q) 0 (down_numbers q a) (up_numbers q a) a in
        let test = each_flat (Each (Within top)) (flat tests) (each_flat (Each (Each (Within top))) tests (tests_within start_size 0 ss (begins q ∷ []) a begin o e)) in
        let down = all_within (down_numbers q a) (downs_within start_size 0 ss (begins q ∷ []) a begin o e) in
        let up = all_within (up_numbers q a) (ups_within start_size 0 ss a o e) in
        let both = each_append (Within top) (gather numbers_of (flat (down_numbers q a))) (gather numbers_of (flat (up_numbers q a))) down up in
        each_append (Within top) (gather numbers_of (flat (down_numbers q a)) ++ gather numbers_of (flat (up_numbers q a))) (flat (flat (flat tests))) both
        (each_flat (Within top) (flat (flat tests)) test)
      where
        all_within : (ns : List (List Numbers)) → Each (Each Small) ns → Each (Within top) (gather numbers_of (flat ns))
        all_within ns h = each_gather Small (Within top) numbers_of (λ x k. k) (flat ns) (each_flat Small ns h)

    -- and of all rounds over them
    pub rounds_within : (c : ℤ) (n : ℕ) (ss : List ℕ) (a : Arcs) → OnArcs (Bears q g) 0 ss a → Room start_size 0 ss → Each (Within top) (round_numbers c q n a)
    rounds_within c zero ss a o e =
        each_append (Within top) (arcs_numbers q a) (arcs_numbers q (swept q a)) (arcs_within ss a o e) (arcs_within ss (swept q a) (fewer_on (Bears q g) ss a (swept q a) (drops_fewer on_path q a) o) e)
    rounds_within c (suc n) ss a o e =
        let rest = drops (within c) q a in
        each_append (Within top) (arcs_numbers q a) (round_numbers c q n rest) (arcs_within ss a o e) (rounds_within c n ss rest (fewer_on (Bears q g) ss a rest (drops_fewer (within c) q a) o) e)
