-- Do arcs with the same number of nodes in every layer, as a buffer has them, do all that the arcs themselves do?
use mathlib.Core.Path.{◌≡◌, refl, sym, ◌∙◌, ap}
use mathlib.Core.List.{List, [], ◌∷◌, ◌++◌, map, tail}
use mathlib.Core.Bool.{Bool, true, false, cond}
use mathlib.Core.Option
use mathlib.Core.Option.{Option, none}
use Prim.Native.Nat.{ℕ, zero, suc, ◌*◌, ◌-◌, ◌≤◌, ◌<◌}
use native.Mathlib.Omega.{arith}
use native.Mathlib.Nat.{mul_comm, mul_assoc}
use native.Mathlib.Decide.{dec_lt}
use borrow.Author.Tests.{leb-true}
use lib.Dec.{leb}
use lib.ListN.{length, get_or, take, drop, replicate, length-append, length-map, length-take, length-replicate, take-append-drop, get_or-map, get_or-eq_default}
use lib.Seq.{take_at, drop_at}
use lib.IntN.{pos}
use Rattle.laws.specs.Lists.{flat, last_or, padded, parted}
use Rattle.laws.proofs.Lists.{length_from, keep_agree}
use Rattle.laws.proofs.Each.{Each, each_at, each_map}
use Rattle.laws.proofs.Parts.{parted_append}
use Rattle.laws.proofs.Filled.{length-padded, take-padded, get_or-padded, flat_long}
use Rattle.meaning.specs.Plan.{Campaign, slots, plans}
use Rattle.meaning.specs.Diagram.{Node, arrivals, Builder, relaxed, restricted, arc_byte, sink_byte, shared, nodes_of, states, first_appearance, source, layers, Arcs, built}
use Rattle.meaning.specs.Filter.{Numbers, zeros, up_node, ups, down_node, down_at, node_count, downs, begins, down_numbers, up_numbers, each_step, each_parent, each_slot, Test, test_arc, drops}
use Rattle.meaning.specs.Bound.{along, walks, is_path, paths, bound}
use Rattle.meaning.specs.Buffers.{arcs_need, arc_bytes, arcs_in, node_need, node_cells, all_cells, number_cells}
use Rattle.lent.specs.Wide.{wide, laid, Sized}
use Rattle.lent.specs.Led.{first_ups}
use Rattle.lent.proofs.Places.{padded_same, padded_unseen, made_at, no_arc_at, no_arc_up, no_arc_down, no_arc_tested, no_number_tested, down_same, up_same, next_downs, ups_long, cells_none, cells_same}

-- ---- the size of a diagram, as it is built
shared_long : (ns : List Node) → length (shared ns) ≤ 1
shared_long [] = omega arith
shared_long (n ∷ ns) = omega arith

nodes_long : (b : Builder) (w : ℕ) (ts : List Node) → 0 < w → length (nodes_of b w ts) ≤ w
nodes_long restricted w ts h = omega (arith, length-take w ts)
nodes_long relaxed w ts h = go (leb (length ts) w) refl
  where
    go : (t : Bool) → leb (length ts) w ≡ t → length (cond t ts (take (w - 1) ts ++ shared (drop (w - 1) ts))) ≤ w
    go true e = leb-true (length ts) w e
    go false e =
        omega (arith, length-append (take (w - 1) ts) (shared (drop (w - 1) ts)), length-take (w - 1) ts, shared_long (drop (w - 1) ts))

module _ (b : Builder) (q : Campaign) (w : ℕ) where
  abbrev arcs_from : ℕ → List Node → List ℕ → Arcs
  arcs_from i ns ss = map (λ l. l.arcs) (layers b first_appearance q w i ns ss)

  layer_sized : (f : Option Node → ℕ) (i s : ℕ) (ss : List ℕ) (ns : List Node) → length ns ≤ w → Sized q.steps w (map (map f) (map (arrivals first_appearance q i s ss) ns) ∷ [])
  layer_sized f i s ss ns h = ((rw (length-map, length-map) h, rows ns), tt)
    where
      rows : (ns : List Node) → Each (λ bs. length bs ≡ q.steps) (map (map f) (map (arrivals first_appearance q i s ss) ns))
      rows [] = tt
      rows (n ∷ ns) = (rw (length-map, length-map) (length_from 0 q.steps), rows ns)

  arcs_sized : 0 < w → (i : ℕ) (ns : List Node) (ss : List ℕ) → length ns ≤ w → Sized q.steps w (arcs_from i ns ss)
  arcs_sized p i ns [] h = tt
  arcs_sized p i ns (s ∷ []) h = layer_sized sink_byte i s [] ns h
  arcs_sized p i ns (s ∷ s' ∷ ss) h =
      let ts = states (map (arrivals first_appearance q i s (s' ∷ ss)) ns) in
      ((layer_sized (arc_byte b w ts) i s (s' ∷ ss) ns h).0, arcs_sized p (suc i) (nodes_of b w ts) (s' ∷ ss) (nodes_long b w ts p))

  -- at most w nodes to a layer, a byte for each step
  pub built_sized : 0 < w → Sized q.steps w (built b q w)
  built_sized p = arcs_sized p 0 (source q) q.sets (omega arith)

  arcs_long : (i : ℕ) (ns : List Node) (ss : List ℕ) → length (arcs_from i ns ss) ≡ length ss
  arcs_long i ns [] = refl
  arcs_long i ns (s ∷ []) = refl
  arcs_long i ns (s ∷ s' ∷ ss) = ap suc (arcs_long (suc i) _ (s' ∷ ss))

  -- a layer for each slot
  pub built_long : length (built b q w) ≡ slots q
  built_long = arcs_long 0 (source q) q.sets

-- ---- and when arcs fall
steps_long : (f : ℕ → ℕ → ℕ) (v : ℕ) (bs : List ℕ) → length (each_step f v bs) ≡ length bs
steps_long f v [] = refl
steps_long f v (b ∷ bs) = ap suc (steps_long f (suc v) bs)

parents_long : (f : Numbers → ℕ → ℕ → ℕ) (ds : List Numbers) (l : List (List ℕ)) → length (each_parent f ds l) ≤ length l
parents_long f ds [] = omega arith
parents_long f [] (bs ∷ l) = omega arith
parents_long f (d ∷ ds) (bs ∷ l) = omega (arith, parents_long f ds l)

module _ (k w : ℕ) where
  parents_bytes : (f : Numbers → ℕ → ℕ → ℕ) (ds : List Numbers) (l : List (List ℕ)) → Each (λ bs. length bs ≡ k) l → Each (λ bs. length bs ≡ k) (each_parent f ds l)
  parents_bytes f ds [] h = tt
  parents_bytes f [] (bs ∷ l) h = tt
  parents_bytes f (d ∷ ds) (bs ∷ l) h = (steps_long (f d) 0 bs ∙ h.0, parents_bytes f ds l h.1)

  slots_sized : (f : ℕ → List Numbers → Numbers → ℕ → ℕ → ℕ) (i : ℕ) (ds us : List (List Numbers)) (a : Arcs) → Sized k w a → Sized k w (each_slot f i ds us a)
  slots_sized f i ds us [] h = tt
  slots_sized f i [] us (l ∷ ls) h = tt
  slots_sized f i (d ∷ ds) us (l ∷ ls) h =
      let g = f i (get_or us 1 []) in
      ((omega (arith, h.0.0, parents_long g d l), parents_bytes g d l h.0.1), slots_sized f (suc i) ds (tail us) ls h.1)

  -- no layer gets more nodes, no node fewer bytes
  pub drops_sized : (e : Test) (q : Campaign) (a : Arcs) → Sized k w a → Sized k w (drops e q a)
  drops_sized e q a h = slots_sized (test_arc e q) 0 (down_numbers q a) (up_numbers q a) a h

-- no layer goes
pub drops_long : (e : Test) (q : Campaign) (a : Arcs) → length (drops e q a) ≡ length a
drops_long e q a = go 0 (begins q ∷ []) (up_numbers q a) a
  where
    go : (i : ℕ) (ds : List Numbers) (us : List (List Numbers)) (a : Arcs) → length (each_slot (test_arc e q) i (downs q i ds a) us a) ≡ length a
    go i ds us [] = refl
    go i ds us (l ∷ ls) = ap suc (go (suc i) _ (tail us) ls)

-- ---- bytes
-- rows of k elements each, one behind the other, and cut again
module _ {A : Type 0} (k : ℕ) where
  pub flat_parted : (l : List (List A)) → Each (λ x. length x ≡ k) l → parted (length l) k (flat l) ≡ l
  flat_parted [] h = refl
  flat_parted (x ∷ l) h = rw (take_at x (flat l) k h.0, drop_at x (flat l) k h.0, flat_parted l h.1)

-- a layer that is filled up: w nodes of k bytes
abbrev filled : ℕ → ℕ → List (List ℕ) → List (List ℕ)
filled k w l = padded w (replicate k 0) l

module _ (k w : ℕ) where
  filled_bytes : (l : List (List ℕ)) → Each (λ bs. length bs ≡ k) l → Each (λ bs. length bs ≡ k) (filled k w l)
  filled_bytes l h = go w l h
    where
      go : (n : ℕ) (l : List (List ℕ)) → Each (λ bs. length bs ≡ k) l → Each (λ bs. length bs ≡ k) (padded n (replicate k 0) l)
      go zero l h = tt
      go (suc n) [] h = (length-replicate k 0, go n [] h)
      go (suc n) (bs ∷ l) h = (h.0, go n l h.1)

  filled_parted : (l : List (List ℕ)) → Each (λ bs. length bs ≡ k) l → parted w k (flat (filled k w l)) ≡ filled k w l
  filled_parted l h = rw (length-padded (replicate k 0) w l) at (flat_parted k (filled k w l) (filled_bytes l h))

  rows_long : (a : Arcs) → Sized k w a → Each (λ r. length r ≡ w * k) (map (λ l. flat (filled k w l)) a)
  rows_long a h =
      each_map (λ l. (length l ≤ w) × Each (λ bs. length bs ≡ k) l) (λ r. length r ≡ w * k) (λ l. flat (filled k w l))
      (λ l s. flat_long k (filled k w l) (filled_bytes l s.1) ∙ ap (λ (n : ℕ). n * k) (length-padded (replicate k 0) w l)) a h

  -- how many bytes are laid
  pub laid_long : (a : Arcs) → Sized k w a → length (laid k w a) ≡ length a * (w * k)
  laid_long a h = flat_long (w * k) (map (λ l. flat (filled k w l)) a) (rows_long a h) ∙ ap (λ (n : ℕ). n * (w * k)) (length-map a (λ l. flat (filled k w l)))

  -- what is laid is read again, whatever stands behind it
  pub laid_read : (a : Arcs) (rest : List ℕ) → Sized k w a → map (parted w k) (parted (length a) (w * k) (laid k w a ++ rest)) ≡ wide k w a
  laid_read a rest h =
      let rows = map (λ l. flat (filled k w l)) a in
      let cut : parted (length a) (w * k) (laid k w a) ≡ rows = rw (length-map a (λ l. flat (filled k w l))) at (flat_parted (w * k) rows (rows_long a h)) in
      ap (map (parted w k)) (parted_append (length a) (w * k) (laid k w a) rest (omega (arith, laid_long a h)) ∙ cut) ∙ each_row a h
    where
      each_row : (a : Arcs) → Sized k w a → map (parted w k) (map (λ l. flat (filled k w l)) a) ≡ wide k w a
      each_row [] h = refl
      each_row (l ∷ ls) h = rw (filled_parted l h.0.1, each_row ls h.1)

-- bytes that begin with what is laid stand for the wide arcs
pub wide_front : (q : Campaign) (w : ℕ) (a : Arcs) (rest : List ℕ) → length a ≡ slots q → Sized q.steps w a
    → arcs_in q w (laid q.steps w a ++ rest) ≡ wide q.steps w a
wide_front q w a rest n h = rw n at (laid_read q.steps w a rest h)

-- so do the bytes of a buffer, zero past the need
pub wide_bytes : (q : Campaign) (w z : ℕ) (a : Arcs) → length a ≡ slots q → Sized q.steps w a → arcs_need q w ≤ z
    → arcs_in q w (arc_bytes q w z a) ≡ wide q.steps w a
wide_bytes q w z a n h r =
    let k = q.steps in
    let m = laid k w a in
    let turned : slots q * (w * k) ≡ arcs_need q w = sym (mul_assoc (slots q) w k) ∙ mul_comm (slots q * w) k ∙ sym (mul_assoc k (slots q) w) in
    let room : length m ≤ z = omega (arith, laid_long k w a h, ap (λ (s : ℕ). s * (w * k)) n) in
    let bytes : arc_bytes q w z a ≡ m ++ drop (length m) (arc_bytes q w z a) = sym (take-append-drop (length m) (arc_bytes q w z a)) ∙ ap (λ (b : List ℕ). b ++ drop (length m) (arc_bytes q w z a)) (take-padded 0 z m room) in
    ap (arcs_in q w) bytes ∙ wide_front q w a (drop (length m) (arc_bytes q w z a)) n h

-- ---- numbers
-- a node behind the own ones has no arc, so the up numbers are the same at every place
ups_wide : (q : Campaign) (k w i : ℕ) (a : Arcs) → Sized k w a → (j : ℕ) → get_or (first_ups q i (wide k w a)) j none ≡ get_or (first_ups q i a) j none
ups_wide q k w i [] h j = refl
ups_wide q k w i (l ∷ ls) h j =
    let us = first_ups q (suc i) (wide k w ls) in
    let ts = first_ups q (suc i) ls in
    get_or-map (up_node q i us 0) (filled k w l) j []
    ∙ padded_unseen (up_node q i us 0) (replicate k 0) [] (no_arc_up q i us 0 k) w l j h.0.0
    ∙ up_same q i us ts (ups_wide q k w (suc i) ls h.1) 0 (get_or l j [])
    ∙ sym (get_or-map (up_node q i ts 0) l j [])

-- the down numbers are the same at the first n places
abbrev Agree : ℕ → List Numbers → List Numbers → Type 0
Agree n ds es = (j : ℕ) → j < n → get_or ds j none ≡ get_or es j none

module _ (q : Campaign) (k w i : ℕ) where
  down_wide : (ds es : List Numbers) (l : List (List ℕ)) → length l ≤ w → Agree (length l) ds es → (p : ℕ) → down_at q i p ds (filled k w l) ≡ down_at q i p es l
  down_wide ds es l h e p = down_same q i p ds (filled k w l) es l (λ j. padded_unseen (down_node q i p (get_or ds j none) 0) (replicate k 0) [] (no_arc_down q i p (get_or ds j none) 0 k) w l j h ∙ own j)
    where
      own : (j : ℕ) → down_node q i p (get_or ds j none) 0 (get_or l j []) ≡ down_node q i p (get_or es j none) 0 (get_or l j [])
      own j = elim (dec_lt j (length l)) [
        | yes b ↦ rw (e j b)
        | no b ↦ rw (get_or-eq_default l [] {n = j} (omega arith))
      ]

  count_wide : (a : Arcs) → Sized k w a → node_count a ≤ node_count (wide k w a)
  count_wide [] h = omega arith
  count_wide (l ∷ ls) h = omega (arith, h.0.0, length-padded (replicate k 0) w l)

  agree_next : (ds es : List Numbers) (l : List (List ℕ)) (ls : Arcs) → Sized k w (l ∷ ls) → Agree (length l) ds es
      → Agree (node_count ls) (next_downs q i ds (filled k w l) (wide k w ls)) (next_downs q i es l ls)
  agree_next ds es l ls h e j b =
      made_at (λ p. down_at q i p ds (filled k w l)) (node_count (wide k w ls)) j none (omega (arith, count_wide ls h.1))
      ∙ down_wide ds es l h.0.0 e j
      ∙ sym (made_at (λ p. down_at q i p es l) (node_count ls) j none b)

-- ---- what falls
module _ (e : Test) (q : Campaign) (k w i : ℕ) where
  parent_at : (us ds : List Numbers) (l : List (List ℕ)) → Each (λ bs. length bs ≡ k) l → (j : ℕ)
      → get_or (each_parent (test_arc e q i us) ds l) j (replicate k 0) ≡ each_step (test_arc e q i us (get_or ds j none)) 0 (get_or l j (replicate k 0))
  parent_at us ds [] h j = sym (no_arc_tested q i e us (get_or ds j none) 0 k)
  parent_at us [] (bs ∷ l) h j =
      let here = get_or (bs ∷ l) j (replicate k 0) in
      let long : length here ≡ k = each_at (λ bs. length bs ≡ k) (bs ∷ l) j (replicate k 0) (length-replicate k 0) h in
      rw long at (sym (no_number_tested q i e us 0 here))
  parent_at us (d ∷ ds) (bs ∷ l) h zero = refl
  parent_at us (d ∷ ds) (bs ∷ l) h (suc j) = parent_at us ds l h.1 j

  steps_same : (us ts : List Numbers) → ((j : ℕ) → get_or us j none ≡ get_or ts j none) → (d : Numbers) (v : ℕ) (bs : List ℕ)
      → each_step (test_arc e q i us d) v bs ≡ each_step (test_arc e q i ts d) v bs
  steps_same us ts h d v [] = refl
  steps_same us ts h d v (zero ∷ bs) = ap (λ (r : List ℕ). 0 ∷ r) (steps_same us ts h d (suc v) bs)
  steps_same us ts h d v (suc b ∷ bs) = rw (h b, steps_same us ts h d (suc v) bs)

  -- in a layer the same bytes are left, filled up
  layer_wide : (us ts ds es : List Numbers) (l : List (List ℕ)) → ((j : ℕ) → get_or us j none ≡ get_or ts j none) → Agree (length l) ds es → Sized k w (l ∷ [])
      → filled k w (each_parent (test_arc e q i us) ds (filled k w l)) ≡ filled k w (each_parent (test_arc e q i ts) es l)
  layer_wide us ts ds es l u d h =
      let z : List ℕ = replicate k 0 in
      padded_same w z (each_parent (test_arc e q i us) ds (filled k w l)) (each_parent (test_arc e q i ts) es l) (λ j.
      parent_at us ds (filled k w l) (filled_bytes k w l h.0.1) j
      ∙ ap (each_step (test_arc e q i us (get_or ds j none)) 0) (get_or-padded w l j z h.0.0)
      ∙ own j
      ∙ sym (parent_at ts es l h.0.1 j))
    where
      own : (j : ℕ) → each_step (test_arc e q i us (get_or ds j none)) 0 (get_or l j (replicate k 0)) ≡ each_step (test_arc e q i ts (get_or es j none)) 0 (get_or l j (replicate k 0))
      own j = elim (dec_lt j (length l)) [
        | yes b ↦ rw (d j b) (steps_same us ts u (get_or es j none) 0 (get_or l j (replicate k 0)))
        | no b ↦ rw (get_or-eq_default l (replicate k 0) {n = j} (omega arith), no_arc_tested q i e us (get_or ds j none) 0 k, no_arc_tested q i e ts (get_or es j none) 0 k)
      ]

wide_slots : (e : Test) (q : Campaign) (k w i : ℕ) (ds es : List Numbers) (a : Arcs) → Sized k w a → Agree (node_count a) ds es
    → laid k w (each_slot (test_arc e q) i (downs q i ds (wide k w a)) (ups q i (wide k w a)) (wide k w a)) ≡ laid k w (each_slot (test_arc e q) i (downs q i es a) (ups q i a) a)
wide_slots e q k w i ds es [] h d = refl
wide_slots e q k w i ds es (l ∷ ls) h d =
    rw (
      layer_wide e q k w i (first_ups q (suc i) (wide k w ls)) (first_ups q (suc i) ls) ds es l (ups_wide q k w (suc i) ls h.1) d (h.0, tt),
      wide_slots e q k w (suc i) (next_downs q i ds (filled k w l) (wide k w ls)) (next_downs q i es l ls) ls h.1 (agree_next q k w i ds es l ls h d),
    )

-- a round or the sweep leaves the same bytes of wide arcs as of the arcs themselves
pub wide_drops : (e : Test) (q : Campaign) (k w : ℕ) (a : Arcs) → Sized k w a → laid k w (drops e q (wide k w a)) ≡ laid k w (drops e q a)
wide_drops e q k w a h = wide_slots e q k w 0 (begins q ∷ []) (begins q ∷ []) a h (λ j b. refl)

-- ---- cells, bound and walks
module _ (q : Campaign) (k w : ℕ) where
  cells_wide : (n i : ℕ) (ds es : List Numbers) (a : Arcs) → Sized k w a → Agree (node_count a) ds es → (j : ℕ)
      → node_cells n (get_or ds j none) (get_or (first_ups q i (wide k w a)) j none) ≡ node_cells n (get_or es j none) (get_or (first_ups q i a) j none)
  cells_wide n i ds es a h d j = elim (dec_lt j (node_count a)) [
    | yes b ↦ rw (ups_wide q k w i a h j, d j b)
    | no b ↦ rw (ups_wide q k w i a h j, get_or-eq_default (first_ups q i a) none {n = j} (omega (arith, ups_long q i a)), cells_none n (get_or ds j none), cells_none n (get_or es j none))
  ]

  all_wide : (n i : ℕ) (ds es : List Numbers) (a : Arcs) → Sized k w a → Agree (node_count a) ds es
      → all_cells n w (downs q i ds (wide k w a)) (ups q i (wide k w a)) ≡ all_cells n w (downs q i es a) (ups q i a)
  all_wide n i ds es [] h d = rw (cells_same n w ds (zeros q ∷ []) es (zeros q ∷ []) (cells_wide n i ds es [] h d))
  all_wide n i ds es (l ∷ ls) h d =
      rw (
        cells_same n w ds (first_ups q i (wide k w (l ∷ ls))) es (first_ups q i (l ∷ ls)) (cells_wide n i ds es (l ∷ ls) h d),
        all_wide n (suc i) (next_downs q i ds (filled k w l) (wide k w ls)) (next_downs q i es l ls) ls h.1 (agree_next q k w i ds es l ls h d),
      )

  -- the cells of wide arcs are the same: a node behind the own ones has no up number
  pub wide_cells : (z : ℕ) (a : Arcs) → Sized k w a → number_cells q w z (wide k w a) ≡ number_cells q w z a
  wide_cells z a h = ap (padded z (pos 0)) (all_wide (node_need q) 0 (begins q ∷ []) (begins q ∷ []) a h (λ j b. refl))

  sink_wide : (i : ℕ) (cs bs ds es : List Numbers) (a : Arcs) → Sized k w a → Agree (node_count a) ds es
      → get_or (last_or cs (downs q i ds (wide k w a))) 0 none ≡ get_or (last_or bs (downs q i es a)) 0 none
  sink_wide i cs bs ds es [] h d = d 0 (omega arith)
  sink_wide i cs bs ds es (l ∷ ls) h d =
      sink_wide (suc i) ds es (next_downs q i ds (filled k w l) (wide k w ls)) (next_downs q i es l ls) ls h.1 (agree_next q k w i ds es l ls h d)

  -- so is the bound
  pub wide_bound : (a : Arcs) → Sized k w a → bound q (wide k w a) ≡ bound q a
  wide_bound a h = ap (Option.map (λ n. n.1)) (sink_wide 0 [] [] (begins q ∷ []) (begins q ∷ []) a h (λ j b. refl))

-- and every walk
pub wide_walks : (k w : ℕ) (a : Arcs) → Sized k w a → (j : ℕ) (p : List ℕ) → walks (wide k w a) j p ≡ walks a j p
wide_walks k w [] h j p = refl
wide_walks k w (l ∷ ls) h j [] = refl
wide_walks k w (l ∷ ls) h j (v ∷ p) =
    padded_unseen (λ bs. along (λ m. walks (wide k w ls) m p) (get_or bs v 0)) (replicate k 0) [] (ap (along (λ m. walks (wide k w ls) m p)) (no_arc_at k v)) w l j h.0.0
    ∙ along_same (λ m. wide_walks k w ls h.1 m p) (get_or (get_or l j []) v 0)
  where
    along_same : ((m : ℕ) → walks (wide k w ls) m p ≡ walks ls m p) → (b : ℕ) → along (λ m. walks (wide k w ls) m p) b ≡ along (λ m. walks ls m p) b
    along_same f zero = refl
    along_same f (suc m) = f m

-- and the paths
pub wide_paths : (q : Campaign) (k w : ℕ) (a : Arcs) → Sized k w a → paths q (wide k w a) ≡ paths q a
wide_paths q k w a h = keep_agree (is_path (wide k w a)) (is_path a) (plans q.steps q.sets) (λ p i. wide_walks k w a h 0 p)
