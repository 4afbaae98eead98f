-- Do lanes brought arc by arc to a row stand for the down numbers of the next layer?
use mathlib.Core.Path.{◌≡◌, refl, sym, ◌∙◌, ap}
use mathlib.Core.List.{List, [], ◌∷◌, map}
use mathlib.Core.Bool.{cond}
use mathlib.Core.Option.{none, some}
use Prim.Native.Nat.{ℕ, zero, suc, ◌+◌, ◌≤◌, ◌<◌}
use native.Mathlib.Omega.{arith}
use lib.ListN.{length, get_or, set, drop, replicate}
use lib.IntN.{ℤ}
use Rattle.laws.specs.Lists.{from}
use Rattle.laws.proofs.Each.{Each, each_at}
use Rattle.meaning.specs.Plan.{Campaign}
use Rattle.meaning.specs.Diagram.{State}
use Rattle.meaning.specs.Filter.{Numbers, meet, over, down_at}
use Rattle.lent.specs.Scatter.{brought, brought_node, brought_layer}
use Rattle.lent.specs.Passes.{Bytes, far, bring, bring_node, bring_layer}
use Rattle.lent.specs.Vec.{vec, slot_vec, row_vec}
use Rattle.lent.specs.Small.{Small, Fit}
use Rattle.lent.proofs.Scatter.{length-brought, length_node, no_number, scattered}
use Rattle.lent.proofs.Fit.{over_fit, meet_fit}
use Rattle.lent.proofs.Vec.{row_at, row_set, slot_at, far_some, sums_over, leasts_meet}

each_set : {A : Type 0} (P : A → Type 0) (l : List A) (k : ℕ) (x : A) → P x → Each P l → Each P (set l k x)
each_set P [] k x p h = tt
each_set P (y ∷ l) zero x p h = (p, h.1)
each_set P (y ∷ l) (suc k) x p h = (h.0, each_set P l k x p h.1)

each_replicate : {A : Type 0} (P : A → Type 0) (n : ℕ) (x : A) → P x → Each P (replicate n x)
each_replicate P zero x p = tt
each_replicate P (suc n) x p = (p, each_replicate P n x p)

-- slot i, behind h slots
module _ (q : Campaign) (s : Small q) (i h k : ℕ) (more : h < k) (few : k ≤ 24) where
  brought_fit : (b : ℕ) (x : Numbers) → Fit q k x → (l : List Numbers) → Each (Fit q k) l → Each (Fit q k) (brought b x l)
  brought_fit zero x f l g = g
  brought_fit (suc j) x f l g = each_set (Fit q k) l j (meet (get_or l j none) x) (meet_fit q k (get_or l j none) x (each_at (Fit q k) l j none tt g) f) g

  -- ---- one arc
  brings : (a : State × ℤ) → Fit q h (some a) → (v b : ℕ) → v < 8 → b ≤ 16 → (l : List Numbers) → length l ≡ 16 → Each (Fit q k) l
      → bring (slot_vec q i) (vec (some a)) v b (row_vec l) ≡ row_vec (brought b (over q i v (some a)) l)
  brings a f v zero w c l e g = refl
  brings a f v (suc j) w c l e g =
      let x = over q i v (some a) in
      let fit = over_fit q s h k more i v w (some a) f in
      let old = each_at (Fit q k) l j none tt g in
      rw (slot_at q s i v w, row_at l j (omega arith), sums_over q h i v a f, leasts_meet q k few (get_or l j none) x old fit) (row_set l j (meet (get_or l j none) x) e (omega arith))

  -- ---- the arcs of a node
  brings_node : (a : State × ℤ) → Fit q h (some a) → (v : ℕ) (bs : List ℕ) → v + length bs ≤ 8 → Bytes bs → (l : List Numbers) → length l ≡ 16 → Each (Fit q k) l
      → bring_node (slot_vec q i) (vec (some a)) v bs (row_vec l) ≡ row_vec (brought_node q i (some a) v bs l)
  brings_node a f v [] w c l e g = refl
  brings_node a f v (b ∷ bs) w c l e g =
      let x = over q i v (some a) in
      rw (brings a f v b (omega arith) c.0 l e g)
      (brings_node a f (suc v) bs (omega arith) c.1 (brought b x l) (length-brought b x l ∙ e) (brought_fit b x (over_fit q s h k more i v (omega arith) (some a) f) l g))

  node_fit : (d : Numbers) → Fit q h d → (v : ℕ) (bs : List ℕ) → v + length bs ≤ 8 → (l : List Numbers) → Each (Fit q k) l → Each (Fit q k) (brought_node q i d v bs l)
  node_fit d f v [] w l g = g
  node_fit d f v (b ∷ bs) w l g = node_fit d f (suc v) bs (omega arith) (brought b (over q i v d) l) (brought_fit b (over q i v d) (over_fit q s h k more i v (omega arith) d f) l g)

  pub node_brings : (a : State × ℤ) → Fit q h (some a) → (bs : List ℕ) → length bs ≤ 8 → Bytes bs → (l : List Numbers) → length l ≡ 16 → Each (Fit q k) l
      → bring_node (slot_vec q i) (vec (some a)) 0 bs (row_vec l) ≡ row_vec (brought_node q i (some a) 0 bs l)
  node_brings a f bs w c l e g = brings_node a f 0 bs (omega arith) c l e g

  -- a node without numbers is passed over
  brings_or_not : (d : Numbers) → Fit q h d → (bs : List ℕ) → length bs ≤ 8 → Bytes bs → (l : List Numbers) → length l ≡ 16 → Each (Fit q k) l
      → cond (far (vec d)) (row_vec l) (bring_node (slot_vec q i) (vec d) 0 bs (row_vec l)) ≡ row_vec (brought_node q i d 0 bs l)
  brings_or_not none f bs w c l e g = ap row_vec (sym (no_number q i 0 bs l))
  brings_or_not (some a) f bs w c l e g = rw (far_some q h (omega arith) a f) (node_brings a f bs w c l e g)

  -- ---- all nodes of a layer; behind its numbers there are none
  one_parent : (j : ℕ) (ds : List Numbers) (bs : List ℕ) (l : List (List ℕ)) (n : List Numbers)
      → brought_layer q i (drop j ds) (bs ∷ l) n ≡ brought_layer q i (drop (suc j) ds) l (brought_node q i (get_or ds j none) 0 bs n)
  one_parent zero [] bs l n = sym (no_number q i 0 bs n)
  one_parent (suc j) [] bs l n = sym (no_number q i 0 bs n)
  one_parent zero (d ∷ ds) bs l n = refl
  one_parent (suc j) (d ∷ ds) bs l n = one_parent j ds bs l n

  no_parent : (ds n : List Numbers) → brought_layer q i ds [] n ≡ n
  no_parent [] n = refl
  no_parent (d ∷ ds) n = refl

  brings_layer : (ds : List Numbers) → Each (Fit q h) ds → (j : ℕ) (l : List (List ℕ)) → j + length l ≤ 16 → Each (λ bs. length bs ≤ 8) l → Each Bytes l
      → (n : List Numbers) → length n ≡ 16 → Each (Fit q k) n → bring_layer (slot_vec q i) (row_vec ds) j l (row_vec n) ≡ row_vec (brought_layer q i (drop j ds) l n)
  brings_layer ds f j [] w c b n e g = ap row_vec (sym (no_parent (drop j ds) n))
  brings_layer ds f j (bs ∷ l) w c b n e g =
      let d = get_or ds j none in
      let fit = each_at (Fit q h) ds j none tt f in
      let rest = brought_node q i d 0 bs n in
      rw (row_at ds j (omega arith), brings_or_not d fit bs c.0 b.0 n e g, one_parent j ds bs l n)
      (brings_layer ds f (suc j) l (omega arith) c.1 b.1 rest (length_node q i d 0 bs n ∙ e) (node_fit d fit 0 bs (omega (arith, c.0)) n g))

  pub layer_brings : (ds : List Numbers) → Each (Fit q h) ds → (l : List (List ℕ)) → length l ≤ 16 → Each (λ bs. length bs ≤ 8) l → Each Bytes l
      → bring_layer (slot_vec q i) (row_vec ds) 0 l (row_vec []) ≡ row_vec (map (λ p. down_at q i p ds l) (from 0 16))
  layer_brings ds f l w c b =
      brings_layer ds f 0 l (omega arith) c b (replicate 16 none) refl (each_replicate (Fit q k) 16 none tt) ∙ ap row_vec (scattered q i 16 ds l)
