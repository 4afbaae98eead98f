-- Does the closing sweep change a number of a node on a path, and when does it, or a round, change nothing?
use mathlib.Core.Path.{◌≡◌, refl, sym, ◌∙◌, ap, subst}
use mathlib.Core.List.{List, [], ◌∷◌, ◌++◌, map, tail}
use mathlib.Core.Bool.{Bool, true, false, cond}
use mathlib.Core.Option
use mathlib.Core.Option.{none, some, some-ne-none}
use mathlib.Core.Logic.{◌⊎◌, inl, inr}
use Prim.Native.Nat.{ℕ, zero, suc, ◌*◌, ◌≤◌, ◌<◌}
use native.Mathlib.Omega.{arith}
use borrow.Author.Tests.{eq-eqb, ne_eqb, eqb-true}
use lib.Dec.{eqb}
use lib.ListN.{length, get_or, replicate, get_or-map}
use lib.IntN.{ℤ, pos}
use Rattle.laws.specs.Lists.{last_or, padded, parted}
use Rattle.laws.proofs.Lists.{place_there}
use Rattle.laws.proofs.Filled.{take-padded}
use Rattle.meaning.specs.Plan.{Campaign}
use Rattle.meaning.specs.Diagram.{State, Arcs}
use Rattle.meaning.specs.Filter.{Numbers, meet, over, up_arc, up_node, ups, down_node, down_at, node_count, downs, begins, down_numbers, up_numbers, each_step, each_parent, each_slot, Test, on_path, within, stays, test_arc, drops, swept}
use Rattle.meaning.specs.Bound.{bound}
use Rattle.meaning.specs.Buffers.{node_need, node_cells, layer_cells, all_cells, number_cells}
use Rattle.meaning.proofs.Walks.{Fewer}
use Rattle.meaning.proofs.Drops.{OneSource, nothing_falls}
use Rattle.lent.specs.Wide.{wide, laid, Sized}
use Rattle.lent.specs.Led.{first_ups}
use Rattle.lent.proofs.Places.{made_at, made_long, no_arc_up, no_arc_down, no_number_down, no_number_tested, down_same, next_downs, ups_long, cells_none, cells_same}
use Rattle.lent.proofs.Wide.{drops_sized, drops_long, laid_read}

-- ---- a node has a number if an arc leads there from one, or to one, that has
meet_none : (a b : Numbers) → meet a b ≡ none → (a ≡ none) × (b ≡ none)
meet_none none b e = (refl, e)
meet_none (some a) none e = absurd (some-ne-none a e)
meet_none (some a) (some b) e = absurd (some-ne-none _ e)

over_none : (q : Campaign) (i v : ℕ) (n : Numbers) → over q i v n ≡ none → n ≡ none
over_none q i v none e = refl
over_none q i v (some a) e = absurd (some-ne-none _ e)

module _ (q : Campaign) (i : ℕ) where
  up_none : (us : List Numbers) (v : ℕ) (bs : List ℕ) → up_node q i us v bs ≡ none → (u k : ℕ) → get_or bs u 0 ≡ suc k → get_or us k none ≡ none
  up_none us v [] e u k b = absurd (omega arith)
  up_none us v (c ∷ bs) e zero k b = over_none q i v (get_or us k none) (rw b at (meet_none (up_arc q i us v c) (up_node q i us (suc v) bs) e).0)
  up_none us v (c ∷ bs) e (suc u) k b = up_none us (suc v) bs (meet_none (up_arc q i us v c) (up_node q i us (suc v) bs) e).1 u k b

  down_none : (k : ℕ) (d : Numbers) (v : ℕ) (bs : List ℕ) → down_node q i k d v bs ≡ none → (u : ℕ) → get_or bs u 0 ≡ suc k → d ≡ none
  down_none k d v [] e u b = absurd (omega arith)
  down_none k d v (c ∷ bs) e zero b =
      over_none q i v d (meet_none (over q i v d) (down_node q i k d (suc v) bs) (rw (eq-eqb c (suc k) b) at e)).0
  down_none k d v (c ∷ bs) e (suc u) b = down_none k d (suc v) bs (go (eqb c (suc k)) e) u b
    where
      go : (t : Bool) → cond t (meet (over q i v d) (down_node q i k d (suc v) bs)) (down_node q i k d (suc v) bs) ≡ none → down_node q i k d (suc v) bs ≡ none
      go true e = (meet_none (over q i v d) (down_node q i k d (suc v) bs) e).1
      go false e = e

  all_none : (k : ℕ) (ds : List Numbers) (l : List (List ℕ)) → down_at q i k ds l ≡ none → (j u : ℕ) → get_or (get_or l j []) u 0 ≡ suc k → get_or ds j none ≡ none
  all_none k [] l e j u b = refl
  all_none k (d ∷ ds) [] e j u b = absurd (omega arith)
  all_none k (d ∷ ds) (bs ∷ l) e zero u b = down_none k d 0 bs (meet_none (down_node q i k d 0 bs) (down_at q i k ds l) e).0 u b
  all_none k (d ∷ ds) (bs ∷ l) e (suc j) u b = all_none k ds l (meet_none (down_node q i k d 0 bs) (down_at q i k ds l) e).1 j u b

  -- ---- a node whose arcs are swept, where us has the next layer's up numbers
  module _ (us : List Numbers) where
    -- an arc that falls counted for nothing: its child has no up number
    up_swept : (ts : List Numbers) (d : State × ℤ) (v : ℕ) (bs : List ℕ) → ((u k : ℕ) → get_or bs u 0 ≡ suc k → (get_or us k none ≡ none → ⊥) → get_or ts k none ≡ get_or us k none)
        → up_node q i ts v (each_step (test_arc on_path q i us (some d)) v bs) ≡ up_node q i us v bs
    up_swept ts d v [] h = refl
    up_swept ts d v (zero ∷ bs) h = up_swept ts d (suc v) bs (λ u. h (suc u))
    up_swept ts d v (suc k ∷ bs) h = rw (up_swept ts d (suc v) bs (λ u. h (suc u)), go (get_or us k none) refl)
      where
        go : (n : Numbers) → get_or us k none ≡ n → up_arc q i ts v (test_arc on_path q i us (some d) v (suc k)) ≡ over q i v (get_or us k none)
        go none e = rw e
        go (some x) e = rw (e, h 0 k refl (λ f. some-ne-none x (sym e ∙ f)), e)

    -- of the arcs to a place that has an up number none falls
    down_swept : (k : ℕ) → (get_or us k none ≡ none → ⊥) → (c : Numbers) (d : State × ℤ) (v : ℕ) (bs : List ℕ) → ((u : ℕ) → get_or bs u 0 ≡ suc k → c ≡ some d)
        → down_node q i k c v (each_step (test_arc on_path q i us (some d)) v bs) ≡ down_node q i k (some d) v bs
    down_swept k f c d v [] h = refl
    down_swept k f c d v (zero ∷ bs) h = rw (ne_eqb 0 (suc k) (λ e. omega arith)) (down_swept k f c d (suc v) bs (λ u. h (suc u)))
    down_swept k f c d v (suc m ∷ bs) h = rw (down_swept k f c d (suc v) bs (λ u. h (suc u))) (go (down_node q i k (some d) (suc v) bs) (eqb (suc m) (suc k)) refl (get_or us m none) refl)
      where
        go : (r : Numbers) (t : Bool) → eqb (suc m) (suc k) ≡ t → (n : Numbers) → get_or us m none ≡ n
            → cond (eqb (cond (stays on_path q (over q i v (some d)) n) (suc m) 0) (suc k)) (meet (over q i v c) r) r ≡ cond t (meet (over q i v (some d)) r) r
        go r true e none g = let same : m ≡ k = omega (arith, eqb-true (suc m) (suc k) e) in absurd (f (rw same at g))
        go r true e (some x) g = rw (e, h 0 (eqb-true (suc m) (suc k) e))
        go r false e none g = rw (ne_eqb 0 (suc k) (λ z. omega arith))
        go r false e (some x) g = rw e

-- ---- layers that have no more nodes than down numbers
parent_at : (f : Numbers → ℕ → ℕ → ℕ) (ds : List Numbers) (l : List (List ℕ)) → length l ≤ length ds → (j : ℕ)
    → get_or (each_parent f ds l) j [] ≡ each_step (f (get_or ds j none)) 0 (get_or l j [])
parent_at f ds [] h j = refl
parent_at f [] (bs ∷ l) h j = absurd (omega arith)
parent_at f (d ∷ ds) (bs ∷ l) h zero = refl
parent_at f (d ∷ ds) (bs ∷ l) h (suc j) = parent_at f ds l (omega arith) j

parents_all : (f : Numbers → ℕ → ℕ → ℕ) (ds : List Numbers) (l : List (List ℕ)) → length l ≤ length ds → length (each_parent f ds l) ≡ length l
parents_all f ds [] h = refl
parents_all f [] (bs ∷ l) h = absurd (omega arith)
parents_all f (d ∷ ds) (bs ∷ l) h = ap suc (parents_all f ds l (omega arith))

next_long : (q : Campaign) (i : ℕ) (ds : List Numbers) (l : List (List ℕ)) (ls : Arcs) → node_count ls ≤ length (next_downs q i ds l ls)
next_long q i ds l ls = omega (arith, made_long (λ k. down_at q i k ds l) (node_count ls))

-- a place with an up number is a node's
up_below : (q : Campaign) (i : ℕ) (a : Arcs) (k : ℕ) → (get_or (first_ups q i a) k none ≡ none → ⊥) → k < node_count a
up_below q i a k f = rw (ups_long q i a) at (place_there (first_ups q i a) k none f)

one_source : (a : Arcs) → OneSource a → node_count a ≤ 1
one_source [] h = omega arith
one_source (l ∷ ls) h = h

-- ---- the sweep
-- cs are a layer's down numbers after the sweep, with ds down and us up before: a node that has one up has kept the one down
abbrev Kept : List Numbers → List Numbers → List Numbers → Type 0
Kept cs ds us = (j : ℕ) → (get_or us j none ≡ none → ⊥) → get_or cs j none ≡ get_or ds j none

-- t is the number up that a node has after the sweep, with numbers d and u before: it is kept, or the node has none down, and none up any more
abbrev Stayed : Numbers → Numbers → Numbers → Type 0
Stayed d u t = (t ≡ u) ⊎ ((d ≡ none) × (t ≡ none))

module _ (q : Campaign) where
  -- what the sweep leaves from layer i on
  abbrev swept_from : ℕ → List Numbers → Arcs → Arcs
  swept_from i ds a = each_slot (test_arc on_path q) i (downs q i ds a) (ups q i a) a

  -- of layer i, whose nodes are l
  abbrev swept_layer : ℕ → List Numbers → List (List ℕ) → Arcs → List (List ℕ)
  swept_layer i ds l ls = each_parent (test_arc on_path q i (first_ups q (suc i) ls)) ds l

  -- the down numbers of the next layer after the sweep, where those of layer i are cs
  abbrev swept_downs : ℕ → List Numbers → List Numbers → List (List ℕ) → Arcs → List Numbers
  swept_downs i cs ds l ls = next_downs q i cs (swept_layer i ds l ls) (swept_from (suc i) (next_downs q i ds l ls) ls)

  -- no node goes
  swept_count : (i : ℕ) (ds : List Numbers) (a : Arcs) → node_count a ≤ length ds → node_count (swept_from i ds a) ≡ node_count a
  swept_count i ds [] h = refl
  swept_count i ds (l ∷ ls) h = parents_all (test_arc on_path q i (first_ups q (suc i) ls)) ds l h

  -- down: into a node that has an up number all arcs stay that counted, and their parents have up numbers too
  kept_next : (i : ℕ) (cs ds : List Numbers) (l : List (List ℕ)) (ls : Arcs) → length l ≤ length ds → Kept cs ds (first_ups q i (l ∷ ls))
      → Kept (swept_downs i cs ds l ls) (next_downs q i ds l ls) (first_ups q (suc i) ls)
  kept_next i cs ds l ls n h k f =
      let below = up_below q (suc i) ls k f in
      rw (swept_count (suc i) (next_downs q i ds l ls) ls (next_long q i ds l ls)) (made_at (λ k. down_at q i k cs (swept_layer i ds l ls)) (node_count ls) k none below)
      ∙ down_same q i k cs (swept_layer i ds l ls) ds l (λ j. rw (parent_at (test_arc on_path q i us) ds l n j) (same j (get_or ds j none) refl))
      ∙ sym (made_at (λ k. down_at q i k ds l) (node_count ls) k none below)
    where
      us : List Numbers
      us = first_ups q (suc i) ls

      same : (j : ℕ) (d : Numbers) → get_or ds j none ≡ d → down_node q i k (get_or cs j none) 0 (each_step (test_arc on_path q i us d) 0 (get_or l j [])) ≡ down_node q i k d 0 (get_or l j [])
      same j none e = rw (no_number_tested q i on_path us 0 (get_or l j []), no_arc_down q i k (get_or cs j none) 0 (length (get_or l j [])), no_number_down q i k 0 (get_or l j []))
      same j (some d) e =
          down_swept q i us k f (get_or cs j none) d 0 (get_or l j [])
          (λ u b. h j (λ z. f (up_none q i us 0 (get_or l j []) (sym (get_or-map (up_node q i us 0) l j []) ∙ z) u k b)) ∙ e)

  -- up: out of a node that has a down number all arcs stay that counted, and their children have down numbers too
  ups_kept : (i : ℕ) (ds : List Numbers) (a : Arcs) → node_count a ≤ length ds → (j : ℕ)
      → Stayed (get_or ds j none) (get_or (first_ups q i a) j none) (get_or (first_ups q i (swept_from i ds a)) j none)
  ups_kept i ds [] n j = inl refl
  ups_kept i ds (l ∷ ls) n j = go (ups_kept (suc i) (next_downs q i ds l ls) ls (next_long q i ds l ls)) (get_or ds j none) refl
    where
      us : List Numbers
      us = first_ups q (suc i) ls

      ts : List Numbers
      ts = first_ups q (suc i) (swept_from (suc i) (next_downs q i ds l ls) ls)

      now : (d : Numbers) → get_or ds j none ≡ d → get_or (first_ups q i (swept_from i ds (l ∷ ls))) j none ≡ up_node q i ts 0 (each_step (test_arc on_path q i us d) 0 (get_or l j []))
      now d e =
          get_or-map (up_node q i ts 0) (swept_layer i ds l ls) j []
          ∙ ap (up_node q i ts 0) (parent_at (test_arc on_path q i us) ds l n j ∙ ap (λ (d : Numbers). each_step (test_arc on_path q i us d) 0 (get_or l j [])) e)

      child : (d : State × ℤ) → get_or ds j none ≡ some d → (u k : ℕ) → get_or (get_or l j []) u 0 ≡ suc k → (get_or us k none ≡ none → ⊥)
          → Stayed (get_or (next_downs q i ds l ls) k none) (get_or us k none) (get_or ts k none) → get_or ts k none ≡ get_or us k none
      child d e u k b f (inl g) = g
      child d e u k b f (inr g) =
          let below = up_below q (suc i) ls k f in
          let no : down_at q i k ds l ≡ none = sym (made_at (λ k. down_at q i k ds l) (node_count ls) k none below) ∙ g.0 in
          absurd (some-ne-none d (sym e ∙ all_none q i k ds l no j u b))

      go : ((k : ℕ) → Stayed (get_or (next_downs q i ds l ls) k none) (get_or us k none) (get_or ts k none)) → (d : Numbers) → get_or ds j none ≡ d
          → Stayed (get_or ds j none) (get_or (first_ups q i (l ∷ ls)) j none) (get_or (first_ups q i (swept_from i ds (l ∷ ls))) j none)
      go r none e = inr (e, now none e ∙ ap (up_node q i ts 0) (no_number_tested q i on_path us 0 (get_or l j [])) ∙ no_arc_up q i ts 0 (length (get_or l j [])))
      go r (some d) e = inl (now (some d) e ∙ up_swept q i us ts d 0 (get_or l j []) (λ u k b f. child d e u k b f (r k)) ∙ sym (get_or-map (up_node q i us 0) l j []))

  -- so a node's cells are the same: with both numbers both are kept, else they are zero before and after
  cells_kept : (n : ℕ) (c d u t : Numbers) → ((u ≡ none → ⊥) → c ≡ d) → Stayed d u t → node_cells n c t ≡ node_cells n d u
  cells_kept n c d none t h (inl e) = rw (e, cells_none n c, cells_none n d)
  cells_kept n c d (some u) t h (inl e) = rw (e, h (some-ne-none u))
  cells_kept n c d u t h (inr e) = rw (e.0, e.1, cells_none n c)

  layer_kept : (n w i : ℕ) (cs ds : List Numbers) (a : Arcs) → node_count a ≤ length ds → Kept cs ds (first_ups q i a)
      → padded w (replicate n (pos 0)) (layer_cells n cs (first_ups q i (swept_from i ds a))) ≡ padded w (replicate n (pos 0)) (layer_cells n ds (first_ups q i a))
  layer_kept n w i cs ds a m h =
      let us = first_ups q i a in
      let ts = first_ups q i (swept_from i ds a) in
      cells_same n w cs ts ds us (λ j. cells_kept n (get_or cs j none) (get_or ds j none) (get_or us j none) (get_or ts j none) (h j) (ups_kept i ds a m j))

  all_kept : (n w i : ℕ) (cs ds : List Numbers) (a : Arcs) → node_count a ≤ length ds → Kept cs ds (first_ups q i a)
      → all_cells n w (downs q i cs (swept_from i ds a)) (ups q i (swept_from i ds a)) ≡ all_cells n w (downs q i ds a) (ups q i a)
  all_kept n w i cs ds [] m h = rw (layer_kept n w i cs ds [] m h)
  all_kept n w i cs ds (l ∷ ls) m h =
      rw (
        layer_kept n w i cs ds (l ∷ ls) m h,
        all_kept n w (suc i) (swept_downs i cs ds l ls) (next_downs q i ds l ls) ls (next_long q i ds l ls) (kept_next i cs ds l ls m h),
      )

  -- the sweep changes no cell of the numbers
  pub swept_cells : (w z : ℕ) (a : Arcs) → OneSource a → number_cells q w z (swept q a) ≡ number_cells q w z a
  swept_cells w z a s = ap (padded z (pos 0)) (all_kept (node_need q) w 0 (begins q ∷ []) (begins q ∷ []) a (one_source a s) (λ j f. refl))

  sink_kept : (i : ℕ) (es bs cs ds : List Numbers) (a : Arcs) → node_count a ≤ length ds → Kept cs ds (first_ups q i a)
      → get_or (last_or es (downs q i cs (swept_from i ds a))) 0 none ≡ get_or (last_or bs (downs q i ds a)) 0 none
  sink_kept i es bs cs ds [] m h = h 0 (some-ne-none _)
  sink_kept i es bs cs ds (l ∷ ls) m h =
      sink_kept (suc i) cs ds (swept_downs i cs ds l ls) (next_downs q i ds l ls) ls (next_long q i ds l ls) (kept_next i cs ds l ls m h)

  -- nor the bound
  pub swept_bound : (a : Arcs) → OneSource a → bound q (swept q a) ≡ bound q a
  swept_bound a s = ap (Option.map (λ n. n.1)) (sink_kept 0 [] [] (begins q ∷ []) (begins q ∷ []) a (one_source a s) (λ j f. refl))

-- ---- a round that drops nothing leaves nothing to the sweep
-- an arc that passes the round's test passes the sweep's
module _ (c : ℤ) (q : Campaign) where
  arc_passes : (i : ℕ) (us : List Numbers) (d : Numbers) (v b k : ℕ) → test_arc (within c) q i us d v b ≡ suc k → test_arc on_path q i us d v b ≡ suc k
  arc_passes i us d v zero k e = e
  arc_passes i us d v (suc m) k e = go (over q i v d) (get_or us m none) e
    where
      go : (d u : Numbers) → cond (stays (within c) q d u) (suc m) 0 ≡ suc k → cond (stays on_path q d u) (suc m) 0 ≡ suc k
      go none u e = e
      go (some d) none e = e
      go (some d) (some u) e = chosen (stays (within c) q (some d) (some u)) e
        where
          chosen : (t : Bool) → cond t (suc m) 0 ≡ suc k → suc m ≡ suc k
          chosen true e = e
          chosen false e = absurd (omega arith)

  steps_pass : (i : ℕ) (us : List Numbers) (d : Numbers) (v : ℕ) (bs : List ℕ) (u k : ℕ)
      → get_or (each_step (test_arc (within c) q i us d) v bs) u 0 ≡ suc k → get_or (each_step (test_arc on_path q i us d) v bs) u 0 ≡ suc k
  steps_pass i us d v [] u k e = e
  steps_pass i us d v (b ∷ bs) zero k e = arc_passes i us d v b k e
  steps_pass i us d v (b ∷ bs) (suc u) k e = steps_pass i us d (suc v) bs u k e

  layer_passes : (i : ℕ) (us ds : List Numbers) (l : List (List ℕ)) (j u k : ℕ)
      → get_or (get_or (each_parent (test_arc (within c) q i us) ds l) j []) u 0 ≡ suc k → get_or (get_or (each_parent (test_arc on_path q i us) ds l) j []) u 0 ≡ suc k
  layer_passes i us ds [] j u k e = e
  layer_passes i us [] (bs ∷ l) j u k e = e
  layer_passes i us (d ∷ ds) (bs ∷ l) zero u k e = steps_pass i us d 0 bs u k e
  layer_passes i us (d ∷ ds) (bs ∷ l) (suc j) u k e = layer_passes i us ds l j u k e

  round_fewer : (i : ℕ) (ds us : List (List Numbers)) (a : Arcs) → Fewer (each_slot (test_arc (within c) q) i ds us a) (each_slot (test_arc on_path q) i ds us a)
  round_fewer i ds us [] = tt
  round_fewer i [] us (l ∷ ls) = tt
  round_fewer i (d ∷ ds) us (l ∷ ls) = (layer_passes i (get_or us 1 []) d l, round_fewer (suc i) ds (tail us) ls)

  -- what a round leaves as it is the sweep does too
  pub same_sweep : (a : Arcs) → OneSource a → drops (within c) q a ≡ a → swept q a ≡ a
  same_sweep a s e = nothing_falls on_path q a s (subst (λ (b : Arcs). Fewer b (swept q a)) e (round_fewer 0 (down_numbers q a) (up_numbers q a) a))

-- ---- the bytes tell whether anything fell
left_shape : (e : Test) (q : Campaign) (i : ℕ) (ds : List Numbers) (us : List (List Numbers)) (a : Arcs) → node_count a ≤ length ds
    → map length (each_slot (test_arc e q) i (downs q i ds a) us a) ≡ map length a
left_shape e q i ds us [] h = refl
left_shape e q i ds us (l ∷ ls) h =
    rw (parents_all (test_arc e q i (get_or us 1 [])) ds l h, left_shape e q (suc i) (next_downs q i ds l ls) (tail us) ls (next_long q i ds l ls))

-- arcs of one shape that are the same when filled up are the same
wide_same : (k w : ℕ) (a b : Arcs) → map length a ≡ map length b → Sized k w b → wide k w a ≡ wide k w b → a ≡ b
wide_same k w [] [] s h e = refl
wide_same k w [] (m ∷ ms) s h e = absurd (let n = ap length s in omega arith)
wide_same k w (l ∷ ls) [] s h e = absurd (let n = ap length s in omega arith)
wide_same k w (l ∷ ls) (m ∷ ms) s h e =
    let z : List ℕ = replicate k 0 in
    let long : length l ≡ length m = ap (λ (r : List ℕ). get_or r 0 0) s in
    let first : padded w z l ≡ padded w z m = ap (λ (r : Arcs). get_or r 0 []) e in
    let own : l ≡ m = sym (take-padded z w l (omega (arith, h.0.0))) ∙ rw (long, first) (take-padded z w m h.0.0) in
    rw (own, wide_same k w ls ms (ap tail s) h.1 (ap tail e))

-- the same bytes are the same arcs
pub laid_same : (e : Test) (q : Campaign) (k w : ℕ) (a : Arcs) → OneSource a → Sized k w a → laid k w (drops e q a) ≡ laid k w a → drops e q a ≡ a
laid_same e q k w a s h same =
    let read : map (parted w k) (parted (length a) (w * k) (laid k w (drops e q a) ++ [])) ≡ wide k w (drops e q a) = rw (drops_long e q a) at (laid_read k w (drops e q a) [] (drops_sized k w e q a h)) in
    wide_same k w (drops e q a) a (left_shape e q 0 (begins q ∷ []) (up_numbers q a) a (one_source a s)) h
    (sym read ∙ ap (λ (b : List ℕ). map (parted w k) (parted (length a) (w * k) (b ++ []))) same ∙ laid_read k w a [] h)
