-- How great are lanes that are brought to a row, and which of its nodes do they change?
use mathlib.Core.Path.{◌≡◌, refl, sym, ap, ◌∙◌}
use mathlib.Core.Bool.{Bool, true, false, cond}
use mathlib.Core.List.{List, [], ◌∷◌, ◌++◌, append_assoc}
use Prim.Native.Nat.{ℕ, zero, suc, ◌+◌, ◌-◌, ◌*◌, ◌≤◌, ◌<◌}
use native.Mathlib.Omega.{arith}
use lib.ListN.{length, take, drop, replicate, length-append, length-drop, length-replicate, replicate-append-replicate}
use lib.Seq.{length-paste, take_at, take-append-le, drop-append-le}
use lib.IntN.{ℤ, pos, ◌+ℤ◌}
use Rattle.laws.specs.Z.{min_z, Within}
use Rattle.laws.specs.Lists.{parted}
use Rattle.laws.proofs.Each.{Each, each_append, each_more, each_take, each_drop}
use Rattle.lent.specs.Lanes.{lanes_at, arc_at, sums, leasts}
use Rattle.lent.specs.Passes.{Slot, Row, Spare, Bytes, far, bring, bring_node, bring_layer}
use Rattle.lent.proofs.Whole.{parted_count}
use Rattle.lanes.proofs.Laws.{length_lanes, length_arc, length-zipped, each_arc, each_sums, each_leasts}
use Rattle.rows.proofs.Lanes.{each_lanes, each_replicate}
use Rattle.rows.proofs.Layers.{parted_each}

-- ---- lanes x along arcs of a slot's row
module _ (row x : List ℤ) (slot : Slot row) (wide : length x ≡ 17) (inside : Each (Within 4000000) x) where
  -- what comes to place k of a row
  abbrev comes : List ℤ → ℕ → ℕ → List ℤ
  comes next v k = leasts (lanes_at next (k * 17)) (sums x (arc_at row v))

  comes_long : (next : List ℤ) (v k : ℕ) → v < 8 → k * 17 + 17 ≤ length next → length (comes next v k) ≡ 17
  comes_long next v k h room =
      let y = length_lanes next (k * 17) room in
      let s = length_arc row v slot.long h in
      let z = length-zipped ◌+ℤ◌ x (arc_at row v) (wide ∙ sym s) ∙ wide in
      length-zipped min_z (lanes_at next (k * 17)) (sums x (arc_at row v)) (y ∙ sym z) ∙ y

  bring_long : (v b : ℕ) (next : List ℤ) → v < 8 → b * 17 ≤ length next → length (bring row x v b next) ≡ length next
  bring_long v zero next h l = refl
  bring_long v (suc k) next h l = length-paste next (k * 17) (comes next v k) 17 (omega arith) (omega (arith, comes_long next v k h (omega arith)))

  pub bring_spare : (v b : ℕ) (next : List ℤ) → v < 8 → b ≤ 16 → Spare next → Spare (bring row x v b next)
  bring_spare v zero next h l s = s
  bring_spare v (suc k) next h l s =
      let at = k * 17 in
      let sum = each_sums 4000000 4000000 x (arc_at row v) inside (each_arc 4000000 row v slot.inside) in
      let old = each_take (Within 8000000) 17 (drop at next) (each_drop (Within 8000000) at next s.inside) in
      let new = each_leasts (Within 8000000) (lanes_at next at) (sums x (arc_at row v)) old sum in
      record {
        long = bring_long v (suc k) next h (omega (arith, s.long)) ∙ s.long;
        inside = each_append (Within 8000000) (take at next ++ take 17 (comes next v k)) (drop (at + 17) next)
            (each_append (Within 8000000) (take at next) (take 17 (comes next v k)) (each_take (Within 8000000) at next s.inside) (each_take (Within 8000000) 17 (comes next v k) new))
            (each_drop (Within 8000000) (at + 17) next s.inside);
      }

  pub node_spare : (v : ℕ) (bs : List ℕ) (next : List ℤ) → v + length bs ≤ 8 → Bytes bs → Spare next → Spare (bring_node row x v bs next)
  node_spare v [] next h l s = s
  node_spare v (b ∷ bs) next h l s = node_spare (suc v) bs (bring row x v b next) (omega arith) l.1 (bring_spare v b next (omega arith) l.0 s)

  -- ---- no further than the bytes lead
  module _ (rest : List ℤ) where
    bring_front : (v b : ℕ) (a : List ℤ) → b * 17 ≤ length a → bring row x v b (a ++ rest) ≡ bring row x v b a ++ rest
    bring_front v zero a h = refl
    bring_front v (suc k) a h =
        let at = k * 17 in
        let lanes : lanes_at (a ++ rest) at ≡ lanes_at a at = ap (take 17) (drop-append-le at a rest (omega arith)) ∙ take-append-le 17 (drop at a) rest (omega (arith, length-drop at a)) in
        let new = take 17 (comes a v k) in
        (λ i. take-append-le at a rest (omega arith) i ++ take 17 (leasts (lanes i) (sums x (arc_at row v))) ++ drop-append-le (at + 17) a rest (omega arith) i)
        ∙ sym (append_assoc (take at a ++ new) (drop (at + 17) a) rest)

    node_front : (w v : ℕ) (bs : List ℕ) (a : List ℤ) → v + length bs ≤ 8 → Each (λ b. b ≤ w) bs → length a ≡ w * 17
        → (bring_node row x v bs (a ++ rest) ≡ bring_node row x v bs a ++ rest) × (length (bring_node row x v bs a) ≡ w * 17)
    node_front w v [] a h l e = (refl, e)
    node_front w v (b ∷ bs) a h l e =
        let place : b * 17 ≤ length a = omega (arith, l.0) in
        let r = node_front w (suc v) bs (bring row x v b a) (omega arith) l.1 (bring_long v b a (omega arith) place ∙ e) in
        (ap (bring_node row x (suc v) bs) (bring_front v b a place) ∙ r.0, r.1)

-- ---- a layer
module _ (row here : List ℤ) (slot : Slot row) (right : Row here) where
  abbrev node : ℕ → List ℤ
  node j = lanes_at here (j * 17)

  module _ (j : ℕ) (few : j < 16) where
    lanes_long : length (lanes_at here (j * 17)) ≡ 17
    lanes_long = length_lanes here (j * 17) (omega (arith, right.long))

    lanes_low : Each (Within 4000000) (lanes_at here (j * 17))
    lanes_low = each_lanes here (j * 17) right.inside

  layer_spare : (j : ℕ) (l : List (List ℕ)) (next : List ℤ) → j + length l ≤ 16 → Each (λ bs. (length bs ≡ 8) × Bytes bs) l → Spare next → Spare (bring_layer row here j l next)
  layer_spare j [] next h b s = s
  layer_spare j (bs ∷ l) next h b s = layer_spare (suc j) l (cond (far (node j)) next (bring_node row (node j) 0 bs next)) (omega arith) b.1 (go (far (node j)))
    where
      go : (t : Bool) → Spare (cond t next (bring_node row (node j) 0 bs next))
      go true = s
      go false = node_spare row (node j) slot (lanes_long j (omega arith)) (lanes_low j (omega arith)) 0 bs next (omega (arith, b.0.0)) b.0.1 s

  layer_front : (rest : List ℤ) (w j : ℕ) (l : List (List ℕ)) (a : List ℤ) → j + length l ≤ 16 → Each (λ bs. (length bs ≡ 8) × Each (λ b. b ≤ w) bs) l → length a ≡ w * 17
      → (bring_layer row here j l (a ++ rest) ≡ bring_layer row here j l a ++ rest) × (length (bring_layer row here j l a) ≡ w * 17)
  layer_front rest w j [] a h b e = (refl, e)
  layer_front rest w j (bs ∷ l) a h b e =
      let r = layer_front rest w (suc j) l (cond (far (node j)) a (bring_node row (node j) 0 bs a)) (omega arith) b.1 (go (far (node j))).1 in
      (ap (bring_layer row here (suc j) l) (go (far (node j))).0 ∙ r.0, r.1)
    where
      go : (t : Bool) → (cond t (a ++ rest) (bring_node row (node j) 0 bs (a ++ rest)) ≡ cond t a (bring_node row (node j) 0 bs a) ++ rest) × (length (cond t a (bring_node row (node j) 0 bs a)) ≡ w * 17)
      go true = (refl, e)
      go false = node_front row (node j) slot (lanes_long j (omega arith)) (lanes_low j (omega arith)) rest w 0 bs a (omega (arith, b.0.0)) b.0.1 e

  -- ---- w nodes, in a row of which only theirs are cleared first
  module _ (w : ℕ) (few : w ≤ 16) (arcs : List ℕ) (long : length arcs ≡ w * 8) (low : Each (λ b. b ≤ w) arcs) where
    pub low_bytes : Bytes arcs
    low_bytes = each_more (λ b. b ≤ w) (λ b. b ≤ 16) (λ b h. omega arith) arcs low

    abbrev blank : List ℤ
    blank = replicate (w * 17) (pos 4000000)

    parts : w ≤ 16 → 0 + length (parted w 8 arcs) ≤ 16
    parts h = omega (arith, parted_count w 8 arcs)

    front : (rest : List ℤ) → (bring_layer row here 0 (parted w 8 arcs) (blank ++ rest) ≡ bring_layer row here 0 (parted w 8 arcs) blank ++ rest) × (length (bring_layer row here 0 (parted w 8 arcs) blank) ≡ w * 17)
    front rest = layer_front rest w 0 (parted w 8 arcs) blank (parts few) (parted_each (λ b. b ≤ w) w 8 arcs long low) (length-replicate (w * 17) (pos 4000000))

    pub blank_spare : (rest : List ℤ) {one : List ℤ} → Spare (blank ++ rest) → one ≡ bring_layer row here 0 (parted w 8 arcs) (blank ++ rest) → Spare one
    blank_spare rest s e = rw e (layer_spare 0 (parted w 8 arcs) (blank ++ rest) (parts few) (parted_each (λ b. b ≤ 16) w 8 arcs long low_bytes) s)

    pub next_row : (rest : List ℤ) {one next : List ℤ} → one ≡ bring_layer row here 0 (parted w 8 arcs) (blank ++ rest) → next ≡ take (w * 17) one ++ drop (w * 17) here
        → drop (w * 17) here ≡ replicate ((16 - w) * 17) (pos 4000000) → next ≡ bring_layer row here 0 (parted w 8 arcs) (replicate 272 (pos 4000000))
    next_row rest {one} {next} e f g =
        let made = bring_layer row here 0 (parted w 8 arcs) blank in
        let clear = replicate ((16 - w) * 17) (pos 4000000) in
        let first : take (w * 17) one ≡ made = ap (take (w * 17)) (e ∙ (front rest).0) ∙ take_at made rest (w * 17) (front rest).1 in
        let all : w * 17 + (16 - w) * 17 ≡ 272 = omega arith in
        f ∙ (λ i. first i ++ g i) ∙ sym (front clear).0 ∙ ap (bring_layer row here 0 (parted w 8 arcs)) (replicate-append-replicate (w * 17) ((16 - w) * 17) (pos 4000000) ∙ ap (λ n. replicate n (pos 4000000)) all)

-- the row that is cleared so far
pub spare_blank : (w : ℕ) → w ≤ 16 → {row one : List ℤ} → Spare row → one ≡ replicate (w * 17) (pos 4000000) ++ drop (w * 17) row → Spare one
spare_blank w few {row} s e =
    rw e (record {
      long = length-append (replicate (w * 17) (pos 4000000)) (drop (w * 17) row) ∙ omega (arith, length-replicate (w * 17) (pos 4000000), length-drop (w * 17) row, s.long);
      inside = each_append (Within 8000000) (replicate (w * 17) (pos 4000000)) (drop (w * 17) row) (each_replicate (Within 8000000) (w * 17) (record { size = omega arith })) (each_drop (Within 8000000) (w * 17) row s.inside);
    })
