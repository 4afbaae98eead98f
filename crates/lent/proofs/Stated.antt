-- Are the states of the nodes that building makes the pairs of their down numbers?
use mathlib.Core.Logic.{◌≢◌}
use mathlib.Core.Path.{◌≡◌, refl, sym, ap, subst, ◌∙◌}
use mathlib.Core.List.{List, [], ◌∷◌, ◌++◌, map}
use mathlib.Core.Bool.{Bool, true, false, ◌&&◌, cond}
use mathlib.Core.Option.{Option, none, some}
use Prim.Native.Nat.{ℕ, zero, suc, min, ◌-◌, ◌≤◌, ◌<◌}
use native.Mathlib.Omega.{arith}
use native.Mathlib.Decide.{dec_lt}
use borrow.Author.Tests.{eqb-true, eqb-false, ltb-true, leb-true, lt-ltb, le-ltb, le-leb}
use lib.Dec.{eqb, leb, ltb}
use lib.ListN.{length, get_or, set, take, drop, replicate, length-take, length-drop, length-append, length-replicate, take-append-drop}
use lib.Seq.{get_or-set_same, get_or-set_other, get_or-take, take_all, take-append-le, drop-append-le}
use lib.IntN.{ℤ, pos, ◌+ℤ◌}
use lib.Signed.{le_z, ◌≤ℤ◌}
use Rattle.laws.specs.Z.{zarith, max_z, min_yes}
use Rattle.laws.specs.Lists.{place, flat, from}
use Rattle.laws.proofs.Lists.{cond_first, cond_second}
use Rattle.laws.proofs.Each.{Each}
use Rattle.meaning.specs.Plan.{Campaign, allows}
use Rattle.meaning.specs.Diagram.{State, merged_state, child, reaches, may_keep_all, Node, first_appearance, arrival, arrivals, has, arrive, distinct, states, Builder, relaxed, restricted, nodes_of, merged_node, merged_all, shared, place_byte, arc_byte}
use Rattle.meaning.specs.Filter.{Numbers, meet, over, down_at}
use Rattle.meaning.proofs.Sound.{Wider, wider_refl, no_node, node_wider, eq_state→}
use Rattle.lent.specs.Scatter.{brought, brought_node, brought_layer}
use Rattle.lent.proofs.Scatter.{length-brought, scattered}
use Rattle.lent.proofs.FirstOrder.{Zero, Placed, zero_arrive, arrive_new, arrive_old, place_new, place-distinct, placed_arrive, distinct_more, first_states}

-- ---- merging with a state that is within changes nothing
absorbed : (a c : State) → Wider a c → merged_state a c ≡ a
absorbed [] [] h = refl
absorbed [] (y ∷ c) h = absurd h
absorbed (x ∷ a) [] h = refl
absorbed (x ∷ a) (y ∷ c) h =
    let low = sym (min_yes x.0 y.0 (omega (zarith, h.0.low))) in
    let high : max_z x.1 y.1 ≡ x.1 = top (le_z x.1 y.1) refl h.0.high in
    λ d. (low d, high d) ∷ absorbed a c h.1 d
  where
    top : (t : Bool) → le_z x.1 y.1 ≡ t → y.1 ≤ℤ x.1 → cond t y.1 x.1 ≡ x.1
    top true e l = omega (zarith, e)
    top false e l = refl

-- ---- the state that a node stands for, and the state of its numbers
abbrev pub state_in : List Node → ℕ → Option State
state_in [] k = none
state_in (n ∷ ns) zero = some n.0
state_in (n ∷ ns) (suc k) = state_in ns k

-- numbers with that state, or none
abbrev pub Is : Numbers → Option State → Type 0
Is none none = Unit {0}
Is none (some u) = ⊥
Is (some a) none = ⊥
Is (some a) (some u) = a.0 ≡ u

-- place by place, and none behind the nodes
abbrev Holds : List Numbers → List Node → Type 0
Holds l ns = (k : ℕ) → Is (get_or l k none) (state_in ns k)

-- each node's numbers have its state; what stands behind the nodes is left open
abbrev pub Stated : List Numbers → List Node → Type 0
Stated ds [] = Unit {0}
Stated [] (n ∷ ns) = ⊥
Stated (d ∷ ds) (n ∷ ns) = Is d (some n.0) × Stated ds ns

holds_stated : (l : List Numbers) (ns : List Node) → Holds l ns → Stated l ns
holds_stated l [] h = tt
holds_stated [] (n ∷ ns) h = absurd (h 0)
holds_stated (d ∷ l) (n ∷ ns) h = (h 0, holds_stated l ns (λ k. h (suc k)))

pub stated_at : (ds : List Numbers) (ns : List Node) (j : ℕ) → Stated ds ns → j < length ns → Is (get_or ds j none) (some (get_or ns j no_node).0)
stated_at ds [] j h b = absurd (omega arith)
stated_at [] (n ∷ ns) j h b = absurd h
stated_at (d ∷ ds) (n ∷ ns) zero h b = h.0
stated_at (d ∷ ds) (n ∷ ns) (suc j) h b = stated_at ds ns j h.1 (omega arith)

in_none : (ns : List Node) (k : ℕ) → length ns ≤ k → state_in ns k ≡ none
in_none [] k h = refl
in_none (n ∷ ns) zero h = absurd (omega arith)
in_none (n ∷ ns) (suc k) h = in_none ns k (omega arith)

in_some : (ns : List Node) (k : ℕ) → k < length ns → state_in ns k ≡ some (get_or ns k no_node).0
in_some [] k h = absurd (omega arith)
in_some (n ∷ ns) zero h = refl
in_some (n ∷ ns) (suc k) h = in_some ns k (omega arith)

-- the last of some nodes, and all others
in_last : (ns : List Node) (g : Node) → state_in (ns ++ g ∷ []) (length ns) ≡ some g.0
in_last [] g = refl
in_last (n ∷ ns) g = in_last ns g

in_others : (ns : List Node) (g : Node) (k : ℕ) → k ≢ length ns → state_in (ns ++ g ∷ []) k ≡ state_in ns k
in_others [] g zero h = absurd (h refl)
in_others [] g (suc k) h = refl
in_others (n ∷ ns) g zero h = refl
in_others (n ∷ ns) g (suc k) h = in_others ns g k (λ e. h (ap suc e))

-- ---- what a number does to the place that it comes to
met_new : (m : Numbers) (t : State) (z : ℤ) → Is m none → Is (meet m (some (t, z))) (some t)
met_new none t z h = refl
met_new (some a) t z h = absurd h

met_old : (m : Numbers) (u t : State) (z : ℤ) → Is m (some u) → Is (meet m (some (t, z))) (some (merged_state u t))
met_old none u t z h = absurd h
met_old (some a) u t z h = ap (λ (s : State). merged_state s t) h

-- one place of some numbers changes
changed : (l : List Numbers) (k : ℕ) (x : Numbers) (ns ms : List Node) → k < length l → Holds l ns → Is x (state_in ms k) → ((j : ℕ) → j ≢ k → state_in ms j ≡ state_in ns j)
    → Holds (set l k x) ms
changed l k x ns ms b h here others j = go (eqb j k) refl
  where
    go : (t : Bool) → eqb j k ≡ t → Is (get_or (set l k x) j none) (state_in ms j)
    go true e = rw (eqb-true j k e, get_or-set_same l k x none b) here
    go false e = let f = eqb-false j k e in rw (get_or-set_other l k j x none f, others j f) (h j)

-- ---- a child whose state stands already: nothing changes
placed_is : (t : State) (l : List Node) → Placed t l → (get_or l (place (has t) l) no_node).0 ≡ t
placed_is t [] h = absurd (omega arith)
placed_is t (n ∷ l) h = go (has t n) refl h (placed_is t l)
  where
    go : (b : Bool) → has t n ≡ b → cond b 0 (suc (place (has t) l)) < suc (length l) → (Placed t l → (get_or l (place (has t) l) no_node).0 ≡ t)
        → (get_or (n ∷ l) (cond b 0 (suc (place (has t) l))) no_node).0 ≡ t
    go true e k r = sym (eq_state→ t n.0 e)
    go false e k r = r (omega arith)

-- a number comes to a node that is wide enough for its state
widened : (l : List Numbers) (ns : List Node) (k : ℕ) (t : State) (z : ℤ) → Holds l ns → k < length l → k < length ns → Wider (get_or ns k no_node).0 t
    → Holds (set l k (meet (get_or l k none) (some (t, z)))) ns
widened l ns k t z h b c wide =
    let u = (get_or ns k no_node).0 in
    let was : Is (get_or l k none) (some u) = rw (in_some ns k c) at (h k) in
    let is : Is (meet (get_or l k none) (some (t, z))) (some u) = rw (absorbed u t wide) at (met_old (get_or l k none) u t z was) in
    changed l k (meet (get_or l k none) (some (t, z))) ns ns b h (rw (in_some ns k c) is) (λ j f. refl)

module _ (w : ℕ) (wide : 1 ≤ w) where
  comes_again : (b : Builder) (l : List Numbers) (ts : List Node) (t : State) (z : ℤ) → w ≤ length l → Holds l (nodes_of b w ts) → Placed t ts
      → Holds (brought (place_byte b w (place (has t) ts)) (some (t, z)) l) (nodes_of b w ts)
  comes_again relaxed l ts t z long h p =
      let node = node_wider w ts (place (has t) ts) (omega arith) p in
      widened l (nodes_of relaxed w ts) (min (place (has t) ts) (w - 1)) t z h (omega arith) node.0 (rw (placed_is t ts p) at node.1)
  comes_again restricted l ts t z long h p = go (ltb (place (has t) ts) w) refl
    where
      go : (c : Bool) → ltb (place (has t) ts) w ≡ c → Holds (brought (cond c (suc (place (has t) ts)) 0) (some (t, z)) l) (take w ts)
      go true e =
          let low = ltb-true (place (has t) ts) w e in
          widened l (take w ts) (place (has t) ts) t z h (omega arith) (omega (arith, length-take w ts)) (rw (get_or-take w ts (place (has t) ts) no_node low, placed_is t ts p) (wider_refl t))
      go false e = h

  -- ---- a child whose state is new
  -- there is room for it
  comes_first : (l : List Numbers) (ts : List Node) (c : Node) (z : ℤ) → length ts < length l → Holds l ts
      → Holds (set l (length ts) (meet (get_or l (length ts) none) (some (c.0, z)))) (ts ++ c ∷ [])
  comes_first l ts c z b h =
      let was : Is (get_or l (length ts) none) none = rw (in_none ts (length ts) (omega arith)) at (h (length ts)) in
      changed l (length ts) (meet (get_or l (length ts) none) (some (c.0, z))) ts (ts ++ c ∷ []) b h
      (rw (in_last ts c) (met_new (get_or l (length ts) none) c.0 z was))
      (in_others ts c)

  -- it shares the last node
  comes_last : (l : List Numbers) (ns : List Node) (g c : Node) (z : ℤ) → length ns < length l → Holds l (ns ++ g ∷ [])
      → Holds (set l (length ns) (meet (get_or l (length ns) none) (some (c.0, z)))) (ns ++ merged_node g c ∷ [])
  comes_last l ns g c z b h =
      let was : Is (get_or l (length ns) none) (some g.0) = rw (in_last ns g) at (h (length ns)) in
      changed l (length ns) (meet (get_or l (length ns) none) (some (c.0, z))) (ns ++ g ∷ []) (ns ++ merged_node g c ∷ []) b h
      (rw (in_last ns (merged_node g c)) (met_old (get_or l (length ns) none) g.0 c.0 z was))
      (λ j f. in_others ns (merged_node g c) j f ∙ sym (in_others ns g j f))

  merged_more : (n : Node) (ms : List Node) (c : Node) → merged_all n (ms ++ c ∷ []) ≡ merged_node (merged_all n ms) c
  merged_more n [] c = refl
  merged_more n (m ∷ ms) c = merged_more (merged_node n m) ms c

  -- at most as many states as places: each has its node
  nodes_few : (b : Builder) (ts : List Node) → length ts ≤ w → nodes_of b w ts ≡ ts
  nodes_few relaxed ts h = cond_first (leb (length ts) w) ts (take (w - 1) ts ++ shared (drop (w - 1) ts)) (le-leb (length ts) w h)
  nodes_few restricted ts h = take_all w ts h

  -- as many or more: the last node is shared, if only by one
  nodes_many : (ts : List Node) → w ≤ length ts → nodes_of relaxed w ts ≡ take (w - 1) ts ++ shared (drop (w - 1) ts)
  nodes_many ts h = go (leb (length ts) w) refl
    where
      one : (ms : List Node) → length ms ≡ 1 → shared ms ≡ ms
      one [] e = refl
      one (m ∷ []) e = refl
      one (m ∷ k ∷ ms) e = absurd (omega arith)

      go : (t : Bool) → leb (length ts) w ≡ t → cond t ts (take (w - 1) ts ++ shared (drop (w - 1) ts)) ≡ take (w - 1) ts ++ shared (drop (w - 1) ts)
      go true e =
          let rest = drop (w - 1) ts in
          let single = one rest (omega (arith, length-drop (w - 1) ts, leb-true (length ts) w e)) in
          sym (take-append-drop (w - 1) ts) ∙ ap (λ (r : List Node). take (w - 1) ts ++ r) (sym single)
      go false e = refl

  comes_new : (b : Builder) (l : List Numbers) (ts : List Node) (c : Node) (z : ℤ) → w ≤ length l → Holds l (nodes_of b w ts)
      → Holds (brought (place_byte b w (length ts)) (some (c.0, z)) l) (nodes_of b w (ts ++ c ∷ []))
  comes_new b l ts c z long h = elim (dec_lt (length ts) w) [ yes a ↦ few b h a | no f ↦ many b h (omega arith) ]
    where
      few : (b : Builder) → Holds l (nodes_of b w ts) → length ts < w → Holds (brought (place_byte b w (length ts)) (some (c.0, z)) l) (nodes_of b w (ts ++ c ∷ []))
      few b h a =
          let all : nodes_of b w (ts ++ c ∷ []) ≡ ts ++ c ∷ [] = nodes_few b (ts ++ c ∷ []) (omega (arith, length-append ts (c ∷ []))) in
          rw (all, byte b) (comes_first l ts c z (omega arith) (rw (nodes_few b ts (omega arith)) at h))
        where
          byte : (b : Builder) → place_byte b w (length ts) ≡ suc (length ts)
          byte relaxed = omega arith
          byte restricted = cond_first (ltb (length ts) w) (suc (length ts)) 0 (lt-ltb (length ts) w a)

      many : (b : Builder) → Holds l (nodes_of b w ts) → w ≤ length ts → Holds (brought (place_byte b w (length ts)) (some (c.0, z)) l) (nodes_of b w (ts ++ c ∷ []))
      many restricted h a =
          rw (cond_second (ltb (length ts) w) (suc (length ts)) 0 (le-ltb (length ts) w a), take-append-le w ts (c ∷ []) a) h
      many relaxed h a =
          let head = take (w - 1) ts in
          let byte : min (length ts) (w - 1) ≡ length head = omega (arith, length-take (w - 1) ts) in
          let after : nodes_of relaxed w (ts ++ c ∷ []) ≡ head ++ shared (drop (w - 1) ts ++ c ∷ []) =
          nodes_many (ts ++ c ∷ []) (omega (arith, length-append ts (c ∷ [])))
          ∙ (λ d. take-append-le (w - 1) ts (c ∷ []) (omega arith) d ++ shared (drop-append-le (w - 1) ts (c ∷ []) (omega arith) d)) in
          rw (byte, after) (rest (drop (w - 1) ts) (omega (arith, length-drop (w - 1) ts)) (rw (nodes_many ts a) at h))
        where
          rest : (ms : List Node) → 1 ≤ length ms → Holds l (take (w - 1) ts ++ shared ms)
              → Holds (set l (length (take (w - 1) ts)) (meet (get_or l (length (take (w - 1) ts)) none) (some (c.0, z)))) (take (w - 1) ts ++ shared (ms ++ c ∷ []))
          rest [] e k = absurd (omega arith)
          rest (n ∷ ms) e k = rw (merged_more n ms c) (comes_last l (take (w - 1) ts) (merged_all n ms) c z (omega (arith, length-take (w - 1) ts)) k)

-- ---- the arcs one after the other: l has the numbers so far, ts the states so far
record Met (b : Builder) (w : ℕ) (l : List Numbers) (ts : List Node) : Type 0 where
  long : w ≤ length l
  holds : Holds l (nodes_of b w ts)
  zero : Each Zero ts

place_low : (t : State) (l : List Node) → place (has t) l ≤ length l
place_low t [] = omega arith
place_low t (n ∷ l) = go (has t n) (place_low t l)
  where
    go : (b : Bool) → place (has t) l ≤ length l → cond b 0 (suc (place (has t) l)) ≤ suc (length l)
    go true h = omega arith
    go false h = omega arith

module _ (b : Builder) (w : ℕ) (wide : 1 ≤ w) where
  met_child : (l : List Numbers) (ts : List Node) (c : Node) (z : ℤ) → Met b w l ts → Zero c → (p : ℕ) → p ≡ place (has c.0) (arrive c ts)
      → Met b w (brought (place_byte b w p) (some (c.0, z)) l) (arrive c ts)
  met_child l ts c z m zc p e = record {
    long = omega (arith, m.long, length-brought (place_byte b w p) (some (c.0, z)) l);
    holds = elim (dec_lt (place (has c.0) ts) (length ts)) [
      | yes a ↦
          let same = arrive_old c ts zc m.zero a in
          rw (e, same) (comes_again w wide b l ts c.0 z m.long m.holds a)
      | no f ↦
          let new : place (has c.0) ts ≡ length ts = omega (arith, place_low c.0 ts) in
          rw (e, arrive_new c ts new, place_new c ts new) (comes_new w wide b l ts c z m.long m.holds)
    ];
    zero = zero_arrive c ts zc m.zero;
  }

  module _ (q : Campaign) (i s : ℕ) (ss : List ℕ) (all : List Node) where
    abbrev of_step : Node → ℕ → Option Node
    of_step n v = arrival first_appearance q i s ss n v

    -- one arc with step v to a child with the state c, if it is there; xs are the arrivals of the same parent behind it, os those of the others
    met_step : (a : State × ℤ) (c : State) (v : ℕ) (xs os : List (Option Node)) (l : List Numbers) (ts : List Node) → child q.rules i v a.0 ≡ c → Met b w l ts
        → (t : Bool) → all ≡ distinct ts (cond t (some (c, pos 0)) none ∷ xs ++ os)
        → ((l' : List Numbers) (ts' : List Node) → Met b w l' ts' → all ≡ distinct ts' (xs ++ os) → Met b w (brought_node q i (some a) (suc v) (map (arc_byte b w all) xs) l') (distinct ts' xs))
        → Met b w (brought_node q i (some a) (suc v) (map (arc_byte b w all) xs) (brought (arc_byte b w all (cond t (some (c, pos 0)) none)) (over q i v (some a)) l)) (distinct ts (cond t (some (c, pos 0)) none ∷ xs))
    met_step a c v xs os l ts e m false f r = r l ts m f
    met_step a c v xs os l ts e m true f r =
        let p = place (has c) all in
        let at : p ≡ place (has c) (arrive (c, pos 0) ts) = ap (place (has c)) f ∙ place-distinct c (arrive (c, pos 0) ts) (xs ++ os) (placed_arrive (c, pos 0) ts) in
        let z = a.1 +ℤ q.price i v in
        let one = met_child l ts (c, pos 0) z m refl p at in
        r (brought (place_byte b w p) (some (child q.rules i v a.0, z)) l) (arrive (c, pos 0) ts) (rw e one) f

    -- a parent's arcs from step v on
    met_node : (n : Node) (a : State × ℤ) → a.0 ≡ n.0 → (k v : ℕ) (l : List Numbers) (ts : List Node) (os : List (Option Node)) → Met b w l ts
        → all ≡ distinct ts (map (of_step n) (from v k) ++ os)
        → Met b w (brought_node q i (some a) v (map (arc_byte b w all) (map (of_step n) (from v k))) l) (distinct ts (map (of_step n) (from v k)))
    met_node n a e zero v l ts os m h = m
    met_node n a e (suc k) v l ts os m h =
        let c = child q.rules i v n.0 in
        met_step a c v (map (of_step n) (from (suc v) k)) os l ts (ap (child q.rules i v) e) m
        (allows q.steps s v && may_keep_all q.rules c (reaches q (suc i) ss)) h
        (λ l' ts' m' h'. met_node n a e k (suc v) l' ts' os m' h')

    abbrev rows_of : List Node → List (List (Option Node))
    rows_of ns = map (arrivals first_appearance q i s ss) ns

    -- nodes without arcs bring nothing
    abbrev NoArcs : List ℕ → Type 0
    NoArcs bs = bs ≡ replicate (length bs) 0

    no_arcs : (d : Numbers) (v n : ℕ) (l : List Numbers) → brought_node q i d v (replicate n 0) l ≡ l
    no_arcs d v zero l = refl
    no_arcs d v (suc n) l = no_arcs d (suc v) n l

    nothing_brought : (ds : List Numbers) (bss : List (List ℕ)) (l : List Numbers) → Each NoArcs bss → brought_layer q i ds bss l ≡ l
    nothing_brought [] bss l h = refl
    nothing_brought (d ∷ ds) [] l h = refl
    nothing_brought (d ∷ ds) (bs ∷ bss) l h =
        ap (brought_layer q i ds bss) (ap (λ (x : List ℕ). brought_node q i d 0 x l) h.0 ∙ no_arcs d 0 (length bs) l) ∙ nothing_brought ds bss l h.1

    -- of every parent; behind them stand nodes without arcs
    met_layer : (ds : List Numbers) (ns : List Node) → Stated ds ns → (rest : List (List ℕ)) → Each NoArcs rest → (l : List Numbers) (ts : List Node) → Met b w l ts
        → all ≡ distinct ts (flat (rows_of ns))
        → Met b w (brought_layer q i ds (map (map (arc_byte b w all)) (rows_of ns) ++ rest) l) (distinct ts (flat (rows_of ns)))
    met_layer ds [] st rest k l ts m h = rw (nothing_brought ds rest l k) m
    met_layer [] (n ∷ ns) st rest k l ts m h = absurd st
    met_layer (none ∷ ds) (n ∷ ns) st rest k l ts m h = absurd st.0
    met_layer (some a ∷ ds) (n ∷ ns) st rest k l ts m h =
        let xs = arrivals first_appearance q i s ss n in
        let more = distinct_more ts xs (flat (rows_of ns)) in
        let one = met_node n a st.0 q.steps 0 l ts (flat (rows_of ns)) m h in
        rw more (met_layer ds ns st.1 rest k (brought_node q i (some a) 0 (map (arc_byte b w all) xs) l) (distinct ts xs) one (h ∙ more))

  nothing : (n : ℕ) → Holds (replicate n none) []
  nothing zero k = tt
  nothing (suc n) zero = tt
  nothing (suc n) (suc k) = nothing n k

  -- the next layer's numbers have the states of its nodes
  pub next_stated : (q : Campaign) (i s : ℕ) (ss : List ℕ) (ds : List Numbers) (ns : List Node) → Stated ds ns → (rest : List (List ℕ)) → Each (λ bs. bs ≡ replicate (length bs) 0) rest
      → (n : ℕ) → w ≤ n
      → let os = map (arrivals first_appearance q i s ss) ns in
      Stated (map (λ k. down_at q i k ds (map (map (arc_byte b w (states os))) os ++ rest)) (from 0 n)) (nodes_of b w (states os))
  next_stated q i s ss ds ns st rest none_there n few =
      let os = map (arrivals first_appearance q i s ss) ns in
      let all = states os in
      let first = first_states q i s ss ns in
      let start : Met b w (replicate n none) [] = record { long = omega (arith, length-replicate {A = Numbers} n none); holds = rw (nodes_few w wide b [] (omega arith)) (nothing n); zero = tt } in
      let met = met_layer q i s ss all ds ns st rest none_there (replicate n none) [] start first in
      let l = map (map (arc_byte b w all)) os ++ rest in
      rw (← scattered q i n ds l) (holds_stated (brought_layer q i ds l (replicate n none)) (nodes_of b w all) (subst (λ (ts : List Node). Holds (brought_layer q i ds l (replicate n none)) (nodes_of b w ts)) (sym first) met.holds))
