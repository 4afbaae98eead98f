-- Does the relaxed diagram lose a lawful plan as it is built? A plan that fits a node's state walks along the arcs from that node, whatever the ranks.
use mathlib.Core.Path.{◌≡◌, refl, sym}
use mathlib.Core.List.{List, [], ◌∷◌, map, cons-ne-nil}
use mathlib.Core.Bool.{true, false, true≢false}
use Prim.Native.Nat.{ℕ, suc, min, ◌-◌, ◌<◌}
use lib.ListN.{length, get_or}
use native.Mathlib.Omega.{arith}
use Rattle.laws.specs.Lists.{every, place}
use Rattle.laws.proofs.Lists.{and_l, and_r}
use Rattle.meaning.specs.Plan.{Campaign, keeps_rule, allows, allowed, lawful}
use Rattle.meaning.specs.Diagram.{Node, Rank, has, child, reaches, arrivals, states, relaxed, nodes_of, arc_byte, sink_byte, first_appearance, layers, source, built}
use Rattle.meaning.specs.Bound.{walks, is_path}
use Rattle.meaning.proofs.Sound.{Fits, child_fits, reaches_wider, may_keep_lem, wider_fits, source_fits, no_node, node_wider}
use Rattle.meaning.proofs.Layers.{child_byte, child_found}

module _ (o : Rank) (q : Campaign) (w : ℕ) (hw : 0 < w) where
  -- from the node at place k of layer i
  layers_walk : (ss : List ℕ) (i : ℕ) (ns : List Node) (k : ℕ) (p : List ℕ) → (ss ≡ [] → k ≡ 0) → k < length ns
      → allowed q.steps ss p ≡ true → Fits q.rules i (get_or ns k no_node).0 p → walks (map (λ l. l.arcs) (layers relaxed o q w i ns ss)) k p ≡ true
  layers_walk [] i ns k [] z l a f = rw (z refl)
  layers_walk [] i ns k (v ∷ p) z l a f = absurd (true≢false (sym a))
  layers_walk (s ∷ []) i ns k [] z l a f = absurd (true≢false (sym a))
  layers_walk (s ∷ []) i ns k (v ∷ []) z l a f =
      let c = child q.rules i v (get_or ns k no_node).0 in
      let both = and_l (allows q.steps s v) true a in
      let fits : Fits q.rules (suc i) c [] = rw (child_fits q.rules i v (get_or ns k no_node).0 []) f in
      let may = may_keep_lem q.rules (suc i) c (reaches q (suc i) []) [] (reaches_wider q (suc i) [] [] refl) fits in
      rw (child_byte o q i s [] ns k v l both may sink_byte)
  layers_walk (s ∷ []) i ns k (v ∷ u ∷ p) z l a f = absurd (true≢false (sym (and_r (allows q.steps s v) false a)))
  layers_walk (s ∷ s' ∷ ss) i ns k [] z l a f = absurd (true≢false (sym a))
  layers_walk (s ∷ s' ∷ ss) i ns k (v ∷ p) z l a f =
      let rs = q.rules in
      let c = child rs i v (get_or ns k no_node).0 in
      let ts = states (map (arrivals o q i s (s' ∷ ss)) ns) in
      let both = and_l (allows q.steps s v) (allowed q.steps (s' ∷ ss) p) a in
      let rest = and_r (allows q.steps s v) (allowed q.steps (s' ∷ ss) p) a in
      let fits : Fits rs (suc i) c p = rw (child_fits rs i v (get_or ns k no_node).0 p) f in
      let may = may_keep_lem rs (suc i) c (reaches q (suc i) (s' ∷ ss)) p (reaches_wider q (suc i) (s' ∷ ss) p rest) fits in
      let spot = child_found o q i s (s' ∷ ss) ns k v l both may in
      let j = place (has c) ts in
      let wide = node_wider w ts j hw spot.below in
      rw (child_byte o q i s (s' ∷ ss) ns k v l both may (arc_byte relaxed w ts))
      (layers_walk (s' ∷ ss) (suc i) (nodes_of relaxed w ts) (min j (w - 1)) p (λ e. absurd (cons-ne-nil s' ss e)) wide.0 rest
      (wider_fits rs (suc i) (get_or (nodes_of relaxed w ts) (min j (w - 1)) no_node).0 c p (rw spot.is at wide.1) fits))

  -- from the source
  pub layers_lawful : (p : List ℕ) → lawful q p ≡ true → is_path (map (λ l. l.arcs) (layers relaxed o q w 0 (source q) q.sets)) p ≡ true
  layers_lawful p e =
      let plan = allowed q.steps q.sets p in
      let rules = every (keeps_rule p) q.rules in
      layers_walk q.sets 0 (source q) 0 p (λ e. refl) (omega arith) (and_l plan rules e) (source_fits q.rules p (and_r plan rules e))

pub lawful_walks : (q : Campaign) (w : ℕ) (p : List ℕ) → 0 < w → lawful q p ≡ true → is_path (built relaxed q w) p ≡ true
lawful_walks q w p hw e = layers_lawful first_appearance q w hw p e
