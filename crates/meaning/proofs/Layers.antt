-- What are the arcs of a layer that is built, and where do they lead?
use mathlib.Core.Path.{◌≡◌, refl, sym, ◌∙◌, ap}
use mathlib.Core.List.{List, [], map}
use mathlib.Core.Bool.{Bool, true, false, ◌&&◌, cond}
use mathlib.Core.Option.{Option, none, some}
use Prim.Native.Nat.{ℕ, suc, ◌<◌}
use lib.Dec.{ltb}
use lib.ListN.{length, get_or, length-map}
use borrow.Author.Tests.{ltb-true}
use native.Mathlib.Omega.{arith}
use native.Mathlib.Nat.{zero-add}
use Rattle.laws.specs.Lists.{from}
use Rattle.laws.proofs.Lists.{and_l, In, in_from, in_map, in_gather, get_or_map, length_from, get_or-from}
use Rattle.meaning.specs.Plan.{Campaign, bit, allows}
use Rattle.meaning.specs.Diagram.{Node, Rank, child, reaches, may_keep_all, arrival, arrivals, states}
use Rattle.meaning.proofs.Sound.{no_node, Found, arrival_found}
use Rattle.meaning.proofs.Walks.{byte_there, node_there}

step_below : (k s v : ℕ) → allows k s v ≡ true → v < k
step_below k s v e = ltb-true v k (and_l (ltb v k) (bit s v) e)

-- ---- the arcs of a layer
module _ (o : Rank) (q : Campaign) (i s : ℕ) (ss : List ℕ) where
  -- the byte of step v of the node at place k, whatever function f makes bytes of arrivals
  byte_at : (f : Option Node → ℕ) (ns : List Node) (k v : ℕ) → k < length ns → v < q.steps
      → get_or (get_or (map (map f) (map (arrivals o q i s ss) ns)) k []) v 0 ≡ f (arrival o q i s ss (get_or ns k no_node) v)
  byte_at f ns k v h l =
      let one = arrival o q i s ss (get_or ns k no_node) in
      let all = from 0 q.steps in
      let long : k < length (map (arrivals o q i s ss) ns) = rw length-map h in
      let deep : v < length all = rw (length_from 0 q.steps) l in
      let row = get_or_map (map f) (map (arrivals o q i s ss) ns) k [] [] long ∙ ap (map f) (get_or_map (arrivals o q i s ss) ns k no_node [] h) in
      let step = get_or_map one all v 0 none deep ∙ ap one (get_or-from 0 q.steps v l ∙ zero-add v) in
      ap (λ (x : List ℕ). get_or x v 0) row ∙ get_or_map f (map one all) v none 0 (rw length-map deep) ∙ ap f step

  -- where the arc exists
  module _ (ns : List Node) (k v : ℕ) (h : k < length ns) (a : allows q.steps s v ≡ true) (m : may_keep_all q.rules (child q.rules i v (get_or ns k no_node).0) (reaches q (suc i) ss) ≡ true) where
    arrives : arrival o q i s ss (get_or ns k no_node) v ≡ some (child q.rules i v (get_or ns k no_node).0, o (get_or ns k no_node).1 i v)
    arrives = rw (a, m)

    -- its byte is made of the child
    pub child_byte : (f : Option Node → ℕ)
        → get_or (get_or (map (map f) (map (arrivals o q i s ss) ns)) k []) v 0 ≡ f (some (child q.rules i v (get_or ns k no_node).0, o (get_or ns k no_node).1 i v))
    child_byte f = byte_at f ns k v h (step_below q.steps s v a) ∙ ap f arrives

    -- and the child's state stands among the states of the next layer
    pub child_found : Found (child q.rules i v (get_or ns k no_node).0) (states (map (arrivals o q i s ss) ns))
    child_found =
        let n = get_or ns k no_node in
        let c : Node = (child q.rules i v n.0, o n.1 i v) in
        let os = map (arrivals o q i s ss) ns in
        let row = get_or_map (arrivals o q i s ss) ns k no_node [] h in
        let stands : In (some c) (get_or os k []) = rw (row, ← arrives) (in_map (arrival o q i s ss n) (rw zero-add at (in_from 0 q.steps v (step_below q.steps s v a)))) in
        arrival_found c os (in_gather (λ o. o) os k [] (rw length-map h) stands)

-- ---- a byte that is not 0
module _ (o : Rank) (q : Campaign) where
  -- an arc with a byte has a child
  pub record Arc (i s : ℕ) (ss : List ℕ) (f : Option Node → ℕ) (n : Node) (v j : ℕ) : Type 0 where
    pub allow : allows q.steps s v ≡ true
    pub stands : may_keep_all q.rules (child q.rules i v n.0) (reaches q (suc i) ss) ≡ true
    pub lands : f (some (child q.rules i v n.0, o n.1 i v)) ≡ suc j

  arc : (i s : ℕ) (ss : List ℕ) (f : Option Node → ℕ) → f none ≡ 0 → (n : Node) (v j : ℕ) → f (arrival o q i s ss n v) ≡ suc j → Arc i s ss f n v j
  arc i s ss f z n v j e = go (allows q.steps s v) (may_keep_all q.rules (child q.rules i v n.0) (reaches q (suc i) ss)) refl refl e
    where
      no : f none ≡ suc j → Arc i s ss f n v j
      no b = absurd (let d = sym z ∙ b in omega arith)

      go : (a b : Bool) → allows q.steps s v ≡ a → may_keep_all q.rules (child q.rules i v n.0) (reaches q (suc i) ss) ≡ b
          → f (cond (a && b) (some (child q.rules i v n.0, o n.1 i v)) none) ≡ suc j → Arc i s ss f n v j
      go true true a b c = record { allow = a; stands = b; lands = c }
      go true false a b c = no c
      go false b a d c = no c

  pub arc_at : (i s : ℕ) (ss : List ℕ) (f : Option Node → ℕ) → f none ≡ 0 → (ns : List Node) (k v j : ℕ)
      → get_or (get_or (map (map f) (map (arrivals o q i s ss) ns)) k []) v 0 ≡ suc j → (k < length ns) × Arc i s ss f (get_or ns k no_node) v j
  arc_at i s ss f z ns k v j e =
      let rows = map (arrivals o q i s ss) ns in
      let long : k < length (map (map f) rows) = node_there (map (map f) rows) k v e in
      let here : k < length ns = rw (length-map, length-map) at long in
      let row = get_or_map (map f) rows k [] [] (rw length-map here) ∙ ap (map f) (get_or_map (arrivals o q i s ss) ns k no_node [] here) in
      let wide = byte_there (map f (arrivals o q i s ss (get_or ns k no_node))) v (sym (ap (λ (x : List ℕ). get_or x v 0) row) ∙ e) in
      let step : v < q.steps = rw (length-map, length-map, length_from 0 q.steps) at wide in
      (here, arc i s ss f z (get_or ns k no_node) v j (sym (byte_at o q i s ss f ns k v here step) ∙ e))
