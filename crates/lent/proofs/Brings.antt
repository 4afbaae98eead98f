-- Which nodes have down numbers? An arc from a node that has some brings some to its child.
use mathlib.Core.Path.{◌≡◌, refl, sym, ◌∙◌}
use mathlib.Core.List.{List, [], ◌∷◌}
use mathlib.Core.Bool.{Bool, true, false, cond}
use mathlib.Core.Option.{none, some, none-ne-some}
use Prim.Native.Nat.{ℕ, zero, suc, ◌<◌}
use native.Mathlib.Omega.{arith}
use borrow.Author.Tests.{eq-eqb}
use lib.Dec.{eqb}
use lib.ListN.{length, get_or, drop}
use lib.IntN.{ℤ}
use Rattle.meaning.specs.Plan.{Campaign}
use Rattle.meaning.specs.Diagram.{State, Arcs}
use Rattle.meaning.specs.Filter.{Numbers, meet, over, down_node, down_at, node_count}
use Rattle.meaning.specs.Bound.{arc_at}
use Rattle.lent.proofs.Places.{made_at}
use Rattle.lent.proofs.Whole.{downs_at, down_next}

-- ---- a node has numbers
pub record Has (n : Numbers) : Type 0 where
  pub value : State × ℤ
  pub is : n ≡ some value

-- it has none, or some
pub has_not : {n : Numbers} → Has n → n ≡ none → ⊥
has_not h e = none-ne-some h.value (sym e ∙ h.is)

pub has_some : (n : Numbers) → (n ≡ none → ⊥) → Has n
has_some none h = absurd (h refl)
has_some (some a) h = record { value = a; is = refl }

meet_l : (n m : Numbers) → Has n → Has (meet n m)
meet_l none m h = absurd (has_not h refl)
meet_l (some a) none h = h
meet_l (some a) (some b) h = record { value = _; is = refl }

meet_r : (n m : Numbers) → Has m → Has (meet n m)
meet_r none m h = h
meet_r (some a) none h = absurd (has_not h refl)
meet_r (some a) (some b) h = record { value = _; is = refl }

over_has : (q : Campaign) (i v : ℕ) (n : Numbers) → Has n → Has (over q i v n)
over_has q i v none h = absurd (has_not h refl)
over_has q i v (some a) h = record { value = _; is = refl }

-- ---- down an arc
module _ (q : Campaign) (i k : ℕ) where
  node_brings : (d : Numbers) (bs : List ℕ) (u v : ℕ) → get_or bs v 0 ≡ suc k → Has d → Has (down_node q i k d u bs)
  node_brings d [] u v e h = absurd (omega arith)
  node_brings d (b ∷ bs) u zero e h = rw (eq-eqb b (suc k) e) (meet_l (over q i u d) (down_node q i k d (suc u) bs) (over_has q i u d h))
  node_brings d (b ∷ bs) u (suc v) e h = go (eqb b (suc k)) (node_brings d bs (suc u) v e h)
    where
      go : (t : Bool) → Has (down_node q i k d (suc u) bs) → Has (cond t (meet (over q i u d) (down_node q i k d (suc u) bs)) (down_node q i k d (suc u) bs))
      go true x = meet_r (over q i u d) (down_node q i k d (suc u) bs) x
      go false x = x

  layer_brings : (ds : List Numbers) (l : List (List ℕ)) (j v : ℕ) → get_or (get_or l j []) v 0 ≡ suc k → Has (get_or ds j none) → Has (down_at q i k ds l)
  layer_brings [] l j v e h = absurd (has_not h refl)
  layer_brings (d ∷ ds) [] j v e h = absurd (omega arith)
  layer_brings (d ∷ ds) (bs ∷ l) zero v e h = meet_l (down_node q i k d 0 bs) (down_at q i k ds l) (node_brings d bs 0 v e h)
  layer_brings (d ∷ ds) (bs ∷ l) (suc j) v e h = meet_r (down_node q i k d 0 bs) (down_at q i k ds l) (layer_brings ds l j v e h)

pub arc_brings : (q : Campaign) (a : Arcs) (i j v k : ℕ) → i < length a → k < node_count (drop (suc i) a) → arc_at a i j v ≡ suc k
    → Has (get_or (downs_at q a i) j none) → Has (get_or (downs_at q a (suc i)) k none)
arc_brings q a i j v k h b e d =
    let ds = downs_at q a i in
    let l = get_or a i [] in
    rw (down_next q a i h, made_at (λ n. down_at q i n ds l) (node_count (drop (suc i) a)) k none b) (layer_brings q i k ds l j v e d)
