-- What has a loop over a node's arcs made of its up numbers and bytes at each turn, and one over a layer's nodes of the layer?
use mathlib.Core.Path.{◌≡◌, refl, sym, ap, ◌∙◌, subst}
use mathlib.Core.Bool.{Bool, true, false, not, ◌&&◌, ◌||◌, cond}
use mathlib.Core.List.{List, [], ◌∷◌, ◌++◌, append-nil}
use Prim.Native.Nat.{ℕ, zero, suc, ◌+◌, ◌-◌, ◌*◌, ◌≤◌, ◌<◌}
use native.Mathlib.Numerals.{add-one}
use native.Mathlib.Omega.{arith}
use borrow.Author.Tests.{eq-eqb, ne_eqb}
use lib.Dec.{eqb}
use lib.ListN.{length, get_or, set, take, drop, length-set, drop_of_length-le}
use lib.Seq.{length-take-le, take_all, take-suc, take-suc-set, drop-cons, drop-set-lt, drop-drop, get_or-drop, set-get_or, append_snoc}
use lib.IntN.{ℤ, ◌+ℤ◌}
use Rattle.laws.specs.Z.{min_z, Within, widen}
use Rattle.laws.specs.Lists.{flat, same}
use Rattle.laws.proofs.Lists.{and_true}
use Rattle.laws.proofs.Each.{Each, each_append, each_more}
use Rattle.lent.specs.Lanes.{lanes_at, arc_at, leasts, at_most}
use Rattle.lent.specs.Passes.{Bytes, far, nowhere, arc_lanes, raise, raise_node, raise_layer, test_byte, test_node}
use Rattle.lanes.proofs.Laws.{length_lanes, length_arc, length-zipped, each_arc, each_sums, each_leasts}
use Rattle.rows.proofs.Lanes.{each_replicate, each_lanes, byte_at}

-- ---- how great up numbers are
module _ (row next : List ℤ) (low : Each (Within 4000000) row) (far_low : Each (Within 4000000) next) where
  each_brought : (v k : ℕ) → Each (Within 10000000) (arc_lanes row next v k)
  each_brought v k =
      each_more (Within 8000000) (Within 10000000) (λ z h. widen tt h) (arc_lanes row next v k)
      (each_sums 4000000 4000000 (lanes_at next (k * 17)) (arc_at row v) (each_lanes next (k * 17) far_low) (each_arc 4000000 row v low))

  each_raise : (v : ℕ) (bs : List ℕ) (up : List ℤ) → Each (Within 10000000) up → Each (Within 10000000) (raise_node row next v bs up)
  each_raise v [] up h = h
  each_raise v (zero ∷ bs) up h = each_raise (suc v) bs up h
  each_raise v (suc k ∷ bs) up h = each_raise (suc v) bs (raise row next v (suc k) up) (go (far (lanes_at next (k * 17))))
    where
      go : (t : Bool) → Each (Within 10000000) (cond t up (leasts up (arc_lanes row next v k)))
      go true = h
      go false = each_leasts (Within 10000000) up (arc_lanes row next v k) h (each_brought v k)

  each_up : (bs : List ℕ) → Each (Within 10000000) (raise_node row next 0 bs nowhere)
  each_up bs = each_raise 0 bs nowhere (each_replicate (Within 10000000) 17 (record { size = omega arith }))

  pub each_layer : (l : List (List ℕ)) → Each (Within 10000000) (flat (raise_layer row next l))
  each_layer [] = tt
  each_layer (bs ∷ l) = each_append (Within 10000000) (raise_node row next 0 bs nowhere) (flat (raise_layer row next l)) (each_up bs) (each_layer l)

-- ---- up numbers have 17 lanes
module _ (row next : List ℤ) (slot : length row ≡ 72) (wide : length next ≡ 272) where
  raise_long : (v : ℕ) (bs : List ℕ) (up : List ℤ) → v + length bs ≤ 8 → Bytes bs → length up ≡ 17 → length (raise_node row next v bs up) ≡ 17
  raise_long v [] up h b e = e
  raise_long v (zero ∷ bs) up h b e = raise_long (suc v) bs up (omega arith) b.1 e
  raise_long v (suc k ∷ bs) up h b e = raise_long (suc v) bs (raise row next v (suc k) up) (omega arith) b.1 (go (far (lanes_at next (k * 17))))
    where
      arc : length (arc_lanes row next v k) ≡ 17
      arc =
          let y = length_lanes next (k * 17) (omega (arith, b.0)) in
          let s = length_arc row v slot (omega arith) in
          length-zipped ◌+ℤ◌ (lanes_at next (k * 17)) (arc_at row v) (y ∙ sym s) ∙ y

      go : (t : Bool) → length (cond t up (leasts up (arc_lanes row next v k))) ≡ 17
      go true = e
      go false = length-zipped min_z up (arc_lanes row next v k) (e ∙ sym arc) ∙ e

  pub rises_long : (bs : List ℕ) → length bs ≡ 8 → Bytes bs → length (raise_node row next 0 bs nowhere) ≡ 17
  rises_long bs e b = raise_long 0 bs nowhere (omega arith) b refl

-- ---- bytes that have not changed
and_assoc : (a b c : Bool) → (a && (b && c)) ≡ ((a && b) && c)
and_assoc true b c = refl
and_assoc false b c = refl

pub same_append : (a b c d : List ℕ) → length a ≡ length b → same (a ++ c) (b ++ d) ≡ (same a b && same c d)
same_append [] [] c d e = refl
same_append [] (y ∷ b) c d e = absurd (omega arith)
same_append (x ∷ a) [] c d e = absurd (omega arith)
same_append (x ∷ a) (y ∷ b) c d e = ap (λ t. eqb x y && t) (same_append a b c d (omega arith)) ∙ and_assoc (eqb x y) (same a b) (same c d)

pub not_and : (a b : Bool) → (not a || not b) ≡ not (a && b)
not_and true b = refl
not_and false b = refl

pub length_test : (row next room : List ℤ) (v : ℕ) (bs : List ℕ) → length (test_node row next room v bs) ≡ length bs
length_test row next room v [] = refl
length_test row next room v (b ∷ bs) = ap suc (length_test row next room (suc v) bs)

-- ---- an arc leads to the place before its byte: its child has no numbers, or z is what it brings up
module _ (row next room up : List ℤ) (v : ℕ) where
  pub arc_lone : (b : ℕ) → 1 ≤ b → far (lanes_at next ((b - 1) * 17)) ≡ true → (up ≡ raise row next v b up) × (0 ≡ test_byte row next room v b)
  arc_lone zero h f = absurd (omega arith)
  arc_lone (suc k) h f =
      let o : suc k - 1 ≡ k = omega arith in
      rw (rw o at f) (refl, refl)

  pub arc_near : (b : ℕ) {z : List ℤ} → 1 ≤ b → far (lanes_at next ((b - 1) * 17)) ≡ false → z ≡ arc_lanes row next v (b - 1) → (leasts up z ≡ raise row next v b up) × (cond (at_most z room) b 0 ≡ test_byte row next room v b)
  arc_near zero h f e = absurd (omega arith)
  arc_near (suc k) h f e =
      let o : suc k - 1 ≡ k = omega arith in
      rw (e, o, rw o at f) (refl, refl)

-- ---- a node's arcs: bs, up and fell are what the loop has after v of them
pub record Tested (row next room : List ℤ) (bs₀ bs : List ℕ) (up : List ℤ) (fell : Bool) (v : ℕ) : Type 0 where
  pub done : v ≤ 8
  pub long : length bs ≡ length bs₀
  pub rest : drop v bs ≡ drop v bs₀
  pub ups : raise_node row next v (drop v bs) up ≡ raise_node row next 0 bs₀ nowhere
  pub bytes : take v bs ++ test_node row next room v (drop v bs) ≡ test_node row next room 0 bs₀
  pub falls : fell ≡ not (same (take v bs₀) (take v bs))

pub tested_start : (row next room : List ℤ) (bs : List ℕ) → Tested row next room bs bs nowhere false 0
tested_start row next room bs = record { done = omega arith; long = refl; rest = refl; ups = refl; bytes = refl; falls = refl }

module _ {row next room up : List ℤ} {bs₀ bs : List ℕ} {fell : Bool} {v : ℕ} (s : Tested row next room bs₀ bs up fell v) (wide : length bs₀ ≡ 8) where
  -- the byte is the one that stood there
  old : get_or bs v 0 ≡ get_or bs₀ v 0
  old =
      let o : v + 0 ≡ v = omega arith in
      rw (rw o at (get_or-drop v bs 0 0), rw o at (get_or-drop v bs₀ 0 0)) at (ap (λ l. get_or l 0 0) s.rest)

  pub tested_byte : Bytes bs₀ → get_or bs v 0 ≤ 16
  tested_byte h = rw old (byte_at bs₀ v h)

  turn : (t : ℕ) {up' : List ℤ} {fell' : Bool} → v < 8 → t ≡ test_byte row next room v (get_or bs v 0) → up' ≡ raise row next v (get_or bs v 0) up
      → fell' ≡ not (same (take v bs₀) (take v bs) && eqb (get_or bs v 0) t) → Tested row next room bs₀ (set bs v t) up' fell' (v + 1)
  turn t {up'} {fell'} h et eu ef =
      let one : v + 1 ≡ suc v = add-one v in
      let there : v < length bs = omega (arith, s.long) in
      let behind : drop (suc v) (set bs v t) ≡ drop (suc v) bs = drop-set-lt (suc v) bs v t (omega arith) in
      let front : take (suc v) (set bs v t) ≡ take v bs ++ (t ∷ []) = take-suc-set bs v t there in
      let first : take (suc v) bs₀ ≡ take v bs₀ ++ (get_or bs v 0 ∷ []) = rw old (take-suc bs₀ v 0 (omega arith)) in
      let both : same (take v bs₀ ++ (get_or bs v 0 ∷ [])) (take v bs ++ (t ∷ [])) ≡ (same (take v bs₀) (take v bs) && eqb (get_or bs v 0) t) =
      same_append (take v bs₀) (take v bs) (get_or bs v 0 ∷ []) (t ∷ []) (length-take-le v bs₀ (omega arith) ∙ sym (length-take-le v bs (omega arith)))
      ∙ ap (λ b. same (take v bs₀) (take v bs) && b) (and_true (eqb (get_or bs v 0) t) true refl) in
      rw one (record {
        done = omega arith;
        long = length-set bs v t ∙ s.long;
        rest = behind ∙ rw (← one, ← drop-drop 1 v bs, ← drop-drop 1 v bs₀) (ap (drop 1) s.rest);
        ups = rw (behind, eu) (rw (drop-cons bs v 0 there) at s.ups);
        bytes = rw (front, behind, et) (append_snoc (take v bs) (test_byte row next room v (get_or bs v 0)) (test_node row next room (suc v) (drop (suc v) bs)) ∙ rw (drop-cons bs v 0 there) at s.bytes);
        falls = ef ∙ rw (first, front) (ap not (sym both));
      })

  -- no arc
  pub tested_none : v < 8 → get_or bs v 0 ≡ 0 → Tested row next room bs₀ bs up fell (v + 1)
  tested_none h e =
      let stays : fell ≡ not (same (take v bs₀) (take v bs) && eqb (get_or bs v 0) (get_or bs v 0)) = s.falls ∙ ap not (sym (and_true (same (take v bs₀) (take v bs)) (eqb (get_or bs v 0) (get_or bs v 0)) (eq-eqb (get_or bs v 0) (get_or bs v 0) refl))) in
      subst (λ l. Tested row next room bs₀ l up fell (v + 1)) (set-get_or bs v 0) (turn (get_or bs v 0) h (rw e refl) (rw e refl) stays)

  -- an arc that stays or falls; up' and fell' are what the turn makes of it
  pub tested_arc : (stays : Bool) {up' : List ℤ} {fell' : Bool} → v < 8 → (get_or bs v 0 ≡ 0 → ⊥) → cond stays (get_or bs v 0) 0 ≡ test_byte row next room v (get_or bs v 0) → up' ≡ raise row next v (get_or bs v 0) up → fell' ≡ (fell || not stays)
      → Tested row next room bs₀ (set bs v (cond stays (get_or bs v 0) 0)) up' fell' (v + 1)
  tested_arc stays h f et eu ef =
      turn (cond stays (get_or bs v 0) 0) h et eu (ef ∙ ap (λ t. t || not stays) s.falls ∙ not_and (same (take v bs₀) (take v bs)) stays ∙ ap (λ t. not (same (take v bs₀) (take v bs) && t)) (told stays))
    where
      told : (t : Bool) → t ≡ eqb (get_or bs v 0) (cond t (get_or bs v 0) 0)
      told true = sym (eq-eqb (get_or bs v 0) (get_or bs v 0) refl)
      told false = sym (ne_eqb (get_or bs v 0) 0 f)

  pub tested_up : 8 ≤ v → up ≡ raise_node row next 0 bs₀ nowhere
  tested_up h =
      let none : drop v bs ≡ [] = drop_of_length-le bs {i = v} (omega (arith, s.long)) in
      rw none at s.ups

  pub tested_bytes : 8 ≤ v → bs ≡ test_node row next room 0 bs₀
  tested_bytes h =
      let none : drop v bs ≡ [] = drop_of_length-le bs {i = v} (omega (arith, s.long)) in
      sym (append-nil bs) ∙ rw (none, take_all v bs (omega (arith, s.long))) at s.bytes

  pub tested_fell : 8 ≤ v → fell ≡ not (same bs₀ bs)
  tested_fell h = rw (take_all v bs₀ (omega arith), take_all v bs (omega (arith, s.long))) at s.falls
