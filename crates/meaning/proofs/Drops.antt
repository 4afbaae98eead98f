-- Does a round or the sweep ever make an arc, and where do the rounds stop? What is left was there before, byte for byte, and passed the test.
use mathlib.Core.Path.{◌≡◌, refl, ◌∙◌, ap}
use mathlib.Core.List.{List, [], ◌∷◌, map, tail}
use mathlib.Core.Bool.{Bool, true, false}
use mathlib.Core.Option.{none}
use Prim.Native.Nat.{ℕ, zero, suc, ◌+◌, ◌≤◌}
use native.Mathlib.Omega.{arith}
use native.Mathlib.Nat.{zero-add}
use lib.ListN.{length, get_or, length-map}
use lib.IntN.{ℤ}
use Rattle.laws.specs.Lists.{from}
use Rattle.laws.proofs.Lists.{length_from}
use Rattle.meaning.specs.Plan.{Campaign}
use Rattle.meaning.specs.Diagram.{Builder, layers, first_appearance, source, Arcs, built}
use Rattle.meaning.specs.Filter.{Numbers, over, ups, down_at, node_count, downs, begins, each_step, each_parent, each_slot, Test, on_path, within, stays, test_arc, drops, rounds, swept}
use Rattle.meaning.proofs.Walks.{Fewer, fewer_refl, fewer_trans}

-- ---- an arc that is left passed the test
module _ (e : Test) (q : Campaign) (i : ℕ) (us : List Numbers) where
  pub record Left (d : Numbers) (v b k : ℕ) : Type 0 where
    pub was : b ≡ suc k
    pub passed : stays e q (over q i v d) (get_or us k none) ≡ true

  arc_left : (d : Numbers) (v b k : ℕ) → test_arc e q i us d v b ≡ suc k → Left d v b k
  arc_left d v zero k h = absurd (omega arith)
  arc_left d v (suc m) k h = go (stays e q (over q i v d) (get_or us m none)) refl
    where
      go : (t : Bool) → stays e q (over q i v d) (get_or us m none) ≡ t → Left d v (suc m) k
      go true f =
          let is : test_arc e q i us d v (suc m) ≡ suc m = rw f refl in
          let o : m ≡ k = omega arith in
          record { was = ap suc o; passed = rw o at f }
      go false f = let is : test_arc e q i us d v (suc m) ≡ 0 = rw f refl in absurd (omega arith)

  node_left : (d : Numbers) (bs : List ℕ) (v₀ v k : ℕ) → get_or (each_step (test_arc e q i us d) v₀ bs) v 0 ≡ suc k → Left d (v₀ + v) (get_or bs v 0) k
  node_left d [] v₀ v k h = absurd (omega arith)
  node_left d (b ∷ bs) v₀ zero k h = let o : v₀ + 0 ≡ v₀ = omega arith in rw o (arc_left d v₀ b k h)
  node_left d (b ∷ bs) v₀ (suc v) k h = let o : v₀ + suc v ≡ suc v₀ + v = omega arith in rw o (node_left d bs (suc v₀) v k h)

  pub layer_left : (ds : List Numbers) (l : List (List ℕ)) (j v k : ℕ)
      → get_or (get_or (each_parent (test_arc e q i us) ds l) j []) v 0 ≡ suc k → Left (get_or ds j none) v (get_or (get_or l j []) v 0) k
  layer_left ds [] j v k h = absurd (omega arith)
  layer_left [] (bs ∷ l) j v k h = absurd (omega arith)
  layer_left (d ∷ ds) (bs ∷ l) zero v k h = rw zero-add at (node_left d bs 0 v k h)
  layer_left (d ∷ ds) (bs ∷ l) (suc j) v k h = layer_left ds l j v k h

-- ---- what is left is fewer
tested_fewer : (e : Test) (q : Campaign) (i : ℕ) (ds : List Numbers) (us : List (List Numbers)) (a : Arcs) → Fewer (each_slot (test_arc e q) i (downs q i ds a) us a) a
tested_fewer e q i ds us [] = tt
tested_fewer e q i ds us (l ∷ ls) = ((λ j v k h. (layer_left e q i (get_or us 1 []) ds l j v k h).was), tested_fewer e q (suc i) _ (tail us) ls)

pub drops_fewer : (e : Test) (q : Campaign) (a : Arcs) → Fewer (drops e q a) a
drops_fewer e q a = tested_fewer e q 0 (begins q ∷ []) (ups q 0 a) a

rounds_fewer : (c : ℤ) (q : Campaign) (n : ℕ) (a : Arcs) → Fewer (rounds c q n a) a
rounds_fewer c q zero a = fewer_refl a
rounds_fewer c q (suc n) a =
    let b = drops (within c) q a in
    fewer_trans (rounds c q n b) b a (rounds_fewer c q n b) (drops_fewer (within c) q a)

-- of any arcs, after the rounds and the closing sweep
pub filtered_fewer : (c : ℤ) (q : Campaign) (n : ℕ) (a : Arcs) → Fewer (swept q (rounds c q n a)) a
filtered_fewer c q n a = let b = rounds c q n a in fewer_trans (swept q b) b a (drops_fewer on_path q b) (rounds_fewer c q n a)

-- ---- a round that drops nothing changes nothing
-- the first layer has no more nodes than there are numbers
abbrev Numbered : List Numbers → Arcs → Type 0
Numbered ds [] = Unit {0}
Numbered ds (l ∷ ls) = length l ≤ length ds

module _ (e : Test) (q : Campaign) (i : ℕ) (us : List Numbers) where
  steps_same : (d : Numbers) (bs : List ℕ) (v₀ : ℕ) → ((v k : ℕ) → get_or bs v 0 ≡ suc k → get_or (each_step (test_arc e q i us d) v₀ bs) v 0 ≡ suc k)
      → each_step (test_arc e q i us d) v₀ bs ≡ bs
  steps_same d [] v₀ h = refl
  steps_same d (zero ∷ bs) v₀ h = ap (λ (m : List ℕ). 0 ∷ m) (steps_same d bs (suc v₀) (λ v. h (suc v)))
  steps_same d (suc k ∷ bs) v₀ h = rw (h 0 k refl) (ap (λ (m : List ℕ). suc k ∷ m) (steps_same d bs (suc v₀) (λ v. h (suc v))))

  layer_same : (ds : List Numbers) (l : List (List ℕ)) → length l ≤ length ds
      → ((j v k : ℕ) → get_or (get_or l j []) v 0 ≡ suc k → get_or (get_or (each_parent (test_arc e q i us) ds l) j []) v 0 ≡ suc k) → each_parent (test_arc e q i us) ds l ≡ l
  layer_same ds [] n h = refl
  layer_same [] (bs ∷ l) n h = absurd (omega arith)
  layer_same (d ∷ ds) (bs ∷ l) n h = rw (steps_same d bs 0 (h 0)) (ap (λ (m : List (List ℕ)). bs ∷ m) (layer_same ds l (omega arith) (λ j. h (suc j))))

arcs_same : (e : Test) (q : Campaign) (i : ℕ) (ds : List Numbers) (us : List (List Numbers)) (a : Arcs) → Numbered ds a
    → Fewer a (each_slot (test_arc e q) i (downs q i ds a) us a) → each_slot (test_arc e q) i (downs q i ds a) us a ≡ a
arcs_same e q i ds us [] n f = refl
arcs_same e q i ds us (l ∷ ls) n f =
    rw (layer_same e q i (get_or us 1 []) ds l n f.0) (ap (λ (m : Arcs). l ∷ m) (arcs_same e q (suc i) (next_numbers ls) (tail us) ls (numbered ls) f.1))
  where
    next_numbers : Arcs → List Numbers
    next_numbers m = map (λ k. down_at q i k ds l) (from 0 (node_count m))

    numbered : (m : Arcs) → Numbered (next_numbers m) m
    numbered [] = tt
    numbered (k ∷ m) = rw (length-map, length_from 0 (length k)) (omega arith)

-- one source: then, if every arc is still there, the arcs are the same
abbrev pub OneSource : Arcs → Type 0
OneSource a = Numbered (none ∷ []) a

pub nothing_falls : (e : Test) (q : Campaign) (a : Arcs) → OneSource a → Fewer a (drops e q a) → drops e q a ≡ a
nothing_falls e q a n f = arcs_same e q 0 (begins q ∷ []) (ups q 0 a) a (one a n) f
  where
    one : (a : Arcs) → OneSource a → Numbered (begins q ∷ []) a
    one [] n = tt
    one (l ∷ ls) n = n

-- a diagram has one source, as it is built and whatever falls
pub built_source : (b : Builder) (q : Campaign) (w : ℕ) → OneSource (built b q w)
built_source b q w = go q.sets
  where
    go : (ss : List ℕ) → OneSource (map (λ l. l.arcs) (layers b first_appearance q w 0 (source q) ss))
    go [] = tt
    go (s ∷ []) = omega arith
    go (s ∷ s' ∷ ss) = omega arith

pub drops_source : (e : Test) (q : Campaign) (a : Arcs) → OneSource a → OneSource (drops e q a)
drops_source e q [] n = tt
drops_source e q ([] ∷ ls) n = omega arith
drops_source e q ((bs ∷ []) ∷ ls) n = omega arith
drops_source e q ((bs ∷ cs ∷ l) ∷ ls) n = absurd (omega arith)

-- ---- so a round that drops nothing is a fixed point
pub fixed : (c : ℤ) (q : Campaign) (n : ℕ) (a : Arcs) → drops (within c) q a ≡ a → rounds c q n a ≡ a
fixed c q zero a e = refl
fixed c q (suc n) a e = ap (rounds c q n) e ∙ fixed c q n a e

-- if the round behind the first n drops nothing, n rounds are as good as more
pub finished : (c : ℤ) (q : Campaign) (n m : ℕ) (a : Arcs) → drops (within c) q (rounds c q n a) ≡ rounds c q n a → rounds c q (n + m) a ≡ rounds c q n a
finished c q zero m a e = let o : 0 + m ≡ m = omega arith in rw o (fixed c q m a e)
finished c q (suc n) m a e = let o : suc n + m ≡ suc (n + m) = omega arith in rw o (finished c q n m (drops (within c) q a) e)
