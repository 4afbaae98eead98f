-- Are the arcs of a diagram of the form that the passes ask for, as they are built and whatever falls?
use mathlib.Core.Path.{◌≡◌, refl, ◌∙◌}
use mathlib.Core.List.{List, [], ◌∷◌, map, tail}
use mathlib.Core.Bool.{Bool, true, false, cond}
use mathlib.Core.Option.{Option, none, some}
use Prim.Native.Nat.{ℕ, zero, suc, ◌≤◌, ◌<◌}
use native.Mathlib.Omega.{arith}
use borrow.Author.Tests.{le-leb, leb-true, ltb-true}
use lib.Dec.{leb, ltb}
use lib.ListN.{length, get_or, replicate}
use lib.IntN.{ℤ}
use Rattle.laws.specs.Lists.{every, padded, place}
use Rattle.laws.proofs.Lists.{and_l, and_r, and_both}
use Rattle.laws.proofs.Each.{Each, each_of, each_more, each_map, each_every, every_each}
use Rattle.meaning.specs.Plan.{Campaign, slots}
use Rattle.meaning.specs.Diagram.{Node, arrivals, Builder, relaxed, restricted, place_byte, arc_byte, sink_byte, has, states, nodes_of, first_appearance, source, layers, Arcs, built}
use Rattle.meaning.specs.Filter.{Numbers, begins, downs, up_numbers, each_step, each_parent, each_slot, Test, within, stays, over, test_arc, drops, rounds}
use Rattle.meaning.specs.Buffers.{of_form}
use Rattle.meaning.proofs.Drops.{OneSource, built_source, drops_source}
use Rattle.lent.specs.Wide.{wide, Sized}
use Rattle.lent.proofs.Places.{next_downs}
use Rattle.lent.proofs.Wide.{built_sized, built_long, drops_sized, drops_long}

-- ---- no byte leads past the next layer's w nodes, in the last layer past the sink
abbrev pub Low : ℕ → List (List ℕ) → Type 0
Low c l = Each (Each (λ b. b ≤ c)) l

abbrev pub Form : ℕ → Arcs → Type 0
Form w [] = Unit {0}
Form w (l ∷ []) = Low 1 l
Form w (l ∷ m ∷ ls) = Low w l × Form w (m ∷ ls)

-- filled up, as the buffer's test asks
low_true : (c : ℕ) (l : List (List ℕ)) → Low c l → every (every (λ b. leb b c)) l ≡ true
low_true c l h = each_every (every (λ b. leb b c)) (Each (λ b. b ≤ c)) (λ bs e. each_every (λ b. leb b c) (λ b. b ≤ c) (λ b f. le-leb b c f) bs e) l h

low_wide : (k c w : ℕ) (l : List (List ℕ)) → Low c l → Low c (padded w (replicate k 0) l)
low_wide k c zero l h = tt
low_wide k c (suc w) [] h = (zeros k, low_wide k c w [] tt)
  where
    zeros : (k : ℕ) → Each (λ b. b ≤ c) (replicate k 0)
    zeros zero = tt
    zeros (suc k) = (omega arith, zeros k)
low_wide k c (suc w) (bs ∷ l) h = (h.0, low_wide k c w l h.1)

pub form_true : (k w : ℕ) (a : Arcs) → Form w a → of_form w (wide k w a) ≡ true
form_true k w [] h = refl
form_true k w (l ∷ []) h = low_true 1 (padded w (replicate k 0) l) (low_wide k 1 w l h)
form_true k w (l ∷ m ∷ ls) h =
    and_both (every (every (λ b. leb b w)) (padded w (replicate k 0) l)) (of_form w (wide k w (m ∷ ls)))
    (low_true w (padded w (replicate k 0) l) (low_wide k w w l h.0)) (form_true k w (m ∷ ls) h.1)

-- as the test says, and so no byte of any layer leads past w nodes
pub true_low : (c : ℕ) (l : List (List ℕ)) → every (every (λ b. leb b c)) l ≡ true → Low c l
true_low c l e = every_each (every (λ b. leb b c)) (Each (λ b. b ≤ c)) (λ bs d. every_each (λ b. leb b c) (λ b. b ≤ c) (λ b t. leb-true b c t) bs d) l e

pub form_of : (w : ℕ) (a : Arcs) → of_form w a ≡ true → Form w a
form_of w [] e = tt
form_of w (l ∷ []) e = true_low 1 l e
form_of w (l ∷ m ∷ ls) e =
    let first = every (every (λ b. leb b w)) l in
    (true_low w l (and_l first (of_form w (m ∷ ls)) e), form_of w (m ∷ ls) (and_r first (of_form w (m ∷ ls)) e))

pub form_low : (w : ℕ) → 1 ≤ w → (a : Arcs) → Form w a → Each (Low w) a
form_low w h [] f = tt
form_low w h (l ∷ []) f = (each_more (Each (λ b. b ≤ 1)) (Each (λ b. b ≤ w)) (λ bs e. each_more (λ b. b ≤ 1) (λ b. b ≤ w) (λ b t. omega arith) bs e) l f, tt)
form_low w h (l ∷ m ∷ ls) f = (f.0, form_low w h (m ∷ ls) f.1)

-- ---- as it is built
module _ (b : Builder) (q : Campaign) (w : ℕ) (some_wide : 0 < w) where
  place_low : (b : Builder) (k : ℕ) → place_byte b w k ≤ w
  place_low relaxed k = omega arith
  place_low restricted k = go (ltb k w) refl
    where
      go : (t : Bool) → ltb k w ≡ t → cond t (suc k) 0 ≤ w
      go true e = omega (arith, ltb-true k w e)
      go false e = omega arith

  arc_low : (ts : List Node) (o : Option Node) → arc_byte b w ts o ≤ w
  arc_low ts none = omega arith
  arc_low ts (some c) = place_low b (place (has c.0) ts)

  sink_low : (o : Option Node) → sink_byte o ≤ 1
  sink_low none = omega arith
  sink_low (some c) = omega arith

  layer_low : (c : ℕ) (f : Option Node → ℕ) → ((o : Option Node) → f o ≤ c) → (os : List (List (Option Node))) → Low c (map (map f) os)
  layer_low c f h os =
      each_map (λ (o : List (Option Node)). Unit {0}) (Each (λ b. b ≤ c)) (map f)
      (λ o u. each_map (λ (x : Option Node). Unit {0}) (λ b. b ≤ c) f (λ x v. h x) o (each_of (λ x. Unit {0}) (λ x. tt) o)) os (each_of (λ o. Unit {0}) (λ o. tt) os)

  form_from : (i : ℕ) (ns : List Node) (ss : List ℕ) → Form w (map (λ l. l.arcs) (layers b first_appearance q w i ns ss))
  form_from i ns [] = tt
  form_from i ns (s ∷ []) = layer_low 1 sink_byte sink_low (map (arrivals first_appearance q i s []) ns)
  form_from i ns (s ∷ s' ∷ []) =
      let os = map (arrivals first_appearance q i s (s' ∷ [])) ns in
      let ts = states os in
      (layer_low w (arc_byte b w ts) (arc_low ts) os, form_from (suc i) (nodes_of b w ts) (s' ∷ []))
  form_from i ns (s ∷ s' ∷ s'' ∷ ss) =
      let os = map (arrivals first_appearance q i s (s' ∷ s'' ∷ ss)) ns in
      let ts = states os in
      (layer_low w (arc_byte b w ts) (arc_low ts) os, form_from (suc i) (nodes_of b w ts) (s' ∷ s'' ∷ ss))

-- ---- whatever falls: a byte stays or becomes 0
module _ (e : Test) (q : Campaign) where
  test_low : (c i : ℕ) (us : List Numbers) (d : Numbers) (v b : ℕ) → b ≤ c → test_arc e q i us d v b ≤ c
  test_low c i us d v zero h = omega arith
  test_low c i us d v (suc k) h = go (stays e q (over q i v d) (get_or us k none))
    where
      go : (t : Bool) → cond t (suc k) 0 ≤ c
      go true = h
      go false = omega arith

  steps_low : (c i : ℕ) (us : List Numbers) (d : Numbers) (v : ℕ) (bs : List ℕ) → Each (λ b. b ≤ c) bs → Each (λ b. b ≤ c) (each_step (test_arc e q i us d) v bs)
  steps_low c i us d v [] h = tt
  steps_low c i us d v (b ∷ bs) h = (test_low c i us d v b h.0, steps_low c i us d (suc v) bs h.1)

  parents_low : (c i : ℕ) (us ds : List Numbers) (l : List (List ℕ)) → Low c l → Low c (each_parent (test_arc e q i us) ds l)
  parents_low c i us ds [] h = tt
  parents_low c i us [] (bs ∷ l) h = tt
  parents_low c i us (d ∷ ds) (bs ∷ l) h = (steps_low c i us d 0 bs h.0, parents_low c i us ds l h.1)

  slots_form : (w i : ℕ) (ds : List Numbers) (us : List (List Numbers)) (a : Arcs) → Form w a → Form w (each_slot (test_arc e q) i (downs q i ds a) us a)
  slots_form w i ds us [] h = tt
  slots_form w i ds us (l ∷ []) h = parents_low 1 i (get_or us 1 []) ds l h
  slots_form w i ds us (l ∷ m ∷ ls) h = (parents_low w i (get_or us 1 []) ds l h.0, slots_form w (suc i) (next_downs q i ds l (m ∷ ls)) (tail us) (m ∷ ls) h.1)

-- ---- all of it
pub record Shaped (q : Campaign) (w : ℕ) (a : Arcs) : Type 0 where
  pub sized : Sized q.steps w a
  pub long : length a ≡ slots q
  pub one : OneSource a
  pub form : Form w a

pub built_shaped : (b : Builder) (q : Campaign) (w : ℕ) → 0 < w → Shaped q w (built b q w)
built_shaped b q w h = record {
  sized = built_sized b q w h;
  long = built_long b q w;
  one = built_source b q w;
  form = form_from b q w h 0 (source q) q.sets;
}

pub drops_shaped : (e : Test) (q : Campaign) (w : ℕ) (a : Arcs) → Shaped q w a → Shaped q w (drops e q a)
drops_shaped e q w a h = record {
  sized = drops_sized q.steps w e q a h.sized;
  long = drops_long e q a ∙ h.long;
  one = drops_source e q a h.one;
  form = slots_form e q w 0 (begins q ∷ []) (up_numbers q a) a h.form;
}

pub rounds_shaped : (c : ℤ) (q : Campaign) (w n : ℕ) (a : Arcs) → Shaped q w a → Shaped q w (rounds c q n a)
rounds_shaped c q w zero a h = h
rounds_shaped c q w (suc n) a h = rounds_shaped c q w n (drops (within c) q a) (drops_shaped (within c) q w a h)
