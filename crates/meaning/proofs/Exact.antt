-- What is true of an exact diagram? No state shares a node, so that both builders make the same arcs, and every path is lawful.
use mathlib.Core.Path.{◌≡◌, refl, sym, ◌∙◌, ap, subst}
use mathlib.Core.List.{List, [], ◌∷◌, map}
use mathlib.Core.Bool.{Bool, true, false, ◌&&◌}
use mathlib.Core.Option.{Option, none, some}
use Prim.Native.Nat.{ℕ, zero, suc, min, ◌-◌, ◌≤◌, ◌<◌}
use native.Mathlib.Omega.{arith}
use lib.Dec.{leb}
use lib.ListN.{length}
use lib.Seq.{take_all}
use borrow.Author.Tests.{leb-true, lt-ltb, le-leb}
use lib.IntN.{ℤ}
use lib.Signed.{◌≤ℤ◌}
use Rattle.laws.specs.Lists.{every, place, flat}
use Rattle.laws.proofs.Lists.{and_l, and_r, In, in_made, map_same}
use Rattle.meaning.specs.Plan.{Campaign, slots, lawful, cost}
use Rattle.meaning.specs.Diagram.{Node, Rank, has, arrivals, states, Builder, relaxed, restricted, nodes_of, place_byte, arc_byte, Layer, layers, source, first_appearance, Arcs, built, narrow, is_exact}
use Rattle.meaning.specs.Filter.{within, drops, relaxed_arcs}
use Rattle.meaning.specs.Bound.{is_path, arc_at, passes}
use Rattle.meaning.proofs.Sound.{arrival_found}
use Rattle.meaning.proofs.Walks.{fewer_arc, fewer_walks, fewer_passes, passes_arc}
use Rattle.meaning.proofs.Drops.{filtered_fewer}
use Rattle.meaning.proofs.Keeps.{kept}
use Rattle.meaning.proofs.Restricted.{built_lawful}
use Rattle.meaning.proofs.Attains.{arc_used}

-- a place below W has the same byte in both diagrams
place_same : (w k : ℕ) → k < w → place_byte relaxed w k ≡ place_byte restricted w k
place_same w k h = let e : min k (w - 1) ≡ k = omega arith in rw (e, lt-ltb k w h)

byte_same : (w : ℕ) (os : List (List (Option Node))) → length (states os) ≤ w → (o : Option Node) → In o (flat os) → arc_byte relaxed w (states os) o ≡ arc_byte restricted w (states os) o
byte_same w os h none i = refl
byte_same w os h (some c) i = place_same w (place (has c.0) (states os)) (omega (arith, (arrival_found c os i).below))

rows_same : (w : ℕ) (os : List (List (Option Node))) → length (states os) ≤ w → map (map (arc_byte relaxed w (states os))) os ≡ map (map (arc_byte restricted w (states os))) os
rows_same w os h =
    let f = arc_byte relaxed w (states os) in
    let g = arc_byte restricted w (states os) in
    map_same (map f) (map g) os (λ row r. map_same f g row (λ o i. byte_same w os h o (in_made (λ l. l) r i)))

nodes_same : (w : ℕ) (ts : List Node) → length ts ≤ w → nodes_of relaxed w ts ≡ nodes_of restricted w ts
nodes_same w ts h = rw (le-leb (length ts) w h) (sym (take_all w ts h))

module _ (o : Rank) (q : Campaign) (w : ℕ) where
  layers_same : (i : ℕ) (ns : List Node) (ss : List ℕ) → every (narrow w) (layers relaxed o q w i ns ss) ≡ true → layers relaxed o q w i ns ss ≡ layers restricted o q w i ns ss
  layers_same i ns [] e = refl
  layers_same i ns (s ∷ []) e = refl
  layers_same i ns (s ∷ s' ∷ ss) e =
      let os = map (arrivals o q i s (s' ∷ ss)) ns in
      let ts = states os in
      let l : Layer = record { nodes = ns; states = ts; arcs = map (map (arc_byte relaxed w ts)) os } in
      let rest = every (narrow w) (layers relaxed o q w (suc i) (nodes_of relaxed w ts) (s' ∷ ss)) in
      let few = and_l (narrow w l) rest e in
      let fits : length ts ≤ w = omega (arith, leb-true) in
      let below = layers_same (suc i) (nodes_of relaxed w ts) (s' ∷ ss) (and_r (narrow w l) rest e) ∙ ap (λ (ns : List Node). layers restricted o q w (suc i) ns (s' ∷ ss)) (nodes_same w ts fits) in
      ap (λ (a : List (List ℕ)). record { nodes = ns; states = ts; arcs = a } ∷ layers relaxed o q w (suc i) (nodes_of relaxed w ts) (s' ∷ ss)) (rows_same w os fits)
      ∙ ap (λ (ls : List Layer). record { nodes = ns; states = ts; arcs = map (map (arc_byte restricted w ts)) os } ∷ ls) below

  -- at one width both diagrams carry the same word
  words_same : (i : ℕ) (ns : List Node) (ss : List ℕ) → every (narrow w) (layers relaxed o q w i ns ss) ≡ every (narrow w) (layers restricted o q w i ns ss)
  words_same i ns [] = refl
  words_same i ns (s ∷ []) = refl
  words_same i ns (s ∷ s' ∷ ss) = go (leb (length ts) w) refl (words_same (suc i) (nodes_of relaxed w ts) (s' ∷ ss))
    where
      ts : List Node
      ts = states (map (arrivals o q i s (s' ∷ ss)) ns)

      word : Builder → List Node → Bool
      word b ns = every (narrow w) (layers b o q w (suc i) ns (s' ∷ ss))

      go : (t : Bool) → leb (length ts) w ≡ t → word relaxed (nodes_of relaxed w ts) ≡ word restricted (nodes_of relaxed w ts)
          → (t && word relaxed (nodes_of relaxed w ts)) ≡ (t && word restricted (nodes_of restricted w ts))
      go true e r = r ∙ ap (word restricted) (nodes_same w ts (leb-true (length ts) w e))
      go false e r = refl

pub same_word : (q : Campaign) (w : ℕ) → is_exact relaxed q w ≡ is_exact restricted q w
same_word q w = words_same first_appearance q w 0 (source q) q.sets

pub exact_same : (q : Campaign) (w : ℕ) → is_exact relaxed q w ≡ true → built relaxed q w ≡ built restricted q w
exact_same q w e = ap (map (λ l. l.arcs)) (layers_same first_appearance q w 0 (source q) q.sets e)

-- ---- in an exact diagram every path is lawful
built_obeys : (q : Campaign) (w : ℕ) (p : List ℕ) → 0 < slots q → is_exact relaxed q w ≡ true → is_path (built relaxed q w) p ≡ true → lawful q p ≡ true
built_obeys q w p s e h = built_lawful q w p s (subst (λ (a : Arcs). is_path a p ≡ true) (exact_same q w e) h)

pub exact_lawful : (q : Campaign) (w n : ℕ) (c : ℤ) (p : List ℕ) → 0 < slots q → is_exact relaxed q w ≡ true → is_path (relaxed_arcs q w n c) p ≡ true → lawful q p ≡ true
exact_lawful q w n c p s e h =
    let a = built relaxed q w in
    built_obeys q w p s e (fewer_walks (relaxed_arcs q w n c) a (filtered_fewer c q n a) 0 p h)

-- ---- "each remaining arc lies on a lawful plan that costs at most the ceiling"
pub record Earned (q : Campaign) (w n : ℕ) (c : ℤ) (i j v : ℕ) : Type 0 where
  pub plan : List ℕ
  pub keeps : lawful q plan ≡ true
  pub cheap : cost q plan ≤ℤ c
  pub path : is_path (relaxed_arcs q w n c) plan ≡ true
  pub on : passes i j v (relaxed_arcs q w n c) 0 plan ≡ true

pub exact_arc : (q : Campaign) (w n : ℕ) (c : ℤ) (i j v : ℕ) → 0 < w → 0 < n → 0 < slots q → is_exact relaxed q w ≡ true
    → 0 < arc_at (relaxed_arcs q w n c) i j v → Earned q w n c i j v
exact_arc q w zero c i j v hw hn s e h = absurd (omega arith)
exact_arc q w (suc n) c i j v hw hn s e h =
    let a = built relaxed q w in
    let once = drops (within c) q a in
    let last = relaxed_arcs q w (suc n) c in
    let arc : arc_at last i j v ≡ suc (arc_at last i j v - 1) = omega arith in
    let used = arc_used (within c) q a i j v (arc_at last i j v - 1) (fewer_arc last once (filtered_fewer c q n once) i j v (arc_at last i j v - 1) arc) in
    let obeys = built_obeys q w used.steps s e used.is in
    let path = kept q w (suc n) c used.steps obeys used.cheap hw in
    record { plan = used.steps; keeps = obeys; cheap = used.cheap; path = path; on = fewer_passes last a (filtered_fewer c q (suc n) a) i j v 0 used.steps path used.on }

-- ---- "each such plan's arcs remain", in an open diagram too
pub arcs_remain : (q : Campaign) (w n : ℕ) (c : ℤ) (i j v : ℕ) (p : List ℕ) → 0 < w → lawful q p ≡ true → cost q p ≤ℤ c
    → passes i j v (built relaxed q w) 0 p ≡ true → 0 < arc_at (relaxed_arcs q w n c) i j v
arcs_remain q w n c i j v p hw e h on =
    let a = built relaxed q w in
    let path = kept q w n c p e h hw in
    passes_arc i j v (relaxed_arcs q w n c) 0 p path (fewer_passes (relaxed_arcs q w n c) a (filtered_fewer c q n a) i j v 0 p path on)
