-- Which steps bear an arc? Those of the slot's own set, however a diagram is built and whatever falls: each path is a plan over the sets.
use mathlib.Core.Path.{◌≡◌, refl}
use mathlib.Core.List.{List, [], ◌∷◌, map}
use mathlib.Core.Bool.{true}
use mathlib.Core.Option.{Option, none}
use Prim.Native.Nat.{ℕ, zero, suc, ◌+◌, ◌≤◌, ◌<◌}
use native.Mathlib.Omega.{arith}
use native.Mathlib.Nat.{zero-add}
use lib.ListN.{length, get_or}
use lib.IntN.{ℤ}
use Rattle.laws.proofs.Lists.{and_both}
use Rattle.laws.proofs.Each.{Each, each_at}
use Rattle.meaning.specs.Plan.{Campaign, allows, allowed}
use Rattle.meaning.specs.Diagram.{Node, Rank, arrivals, Builder, relaxed, restricted, arc_byte, sink_byte, layers, first_appearance, source, Arcs, built}
use Rattle.meaning.specs.Filter.{on_path, relaxed_arcs, restricted_arcs}
use Rattle.meaning.specs.Bound.{walks, is_path}
use Rattle.meaning.proofs.Walks.{next, byte_there, Fewer}
use Rattle.meaning.proofs.Layers.{arc_at}
use Rattle.meaning.proofs.Drops.{drops_fewer, filtered_fewer}

-- ---- the steps that bear an arc have a property
-- a step with this byte: only an arc is asked for it
abbrev pub IfArc : Type 0 → ℕ → Type 0
IfArc A zero = Unit {0}
IfArc A (suc k) = A

-- the steps of a node, its bytes from step v on
abbrev pub OnSteps : (ℕ → Type 0) → ℕ → List ℕ → Type 0
OnSteps P v [] = Unit {0}
OnSteps P v (b ∷ bs) = IfArc (P v) b × OnSteps P (suc v) bs

-- all arcs from layer i on, one element of a list for each slot: P says it of the slot, its element and the step
abbrev pub OnArcs : (ℕ → ℕ → ℕ → Type 0) → ℕ → List ℕ → Arcs → Type 0
OnArcs P i [] [] = Unit {0}
OnArcs P i [] (l ∷ ls) = ⊥
OnArcs P i (s ∷ ss) [] = ⊥
OnArcs P i (s ∷ ss) (l ∷ ls) = Each (OnSteps (P i s) 0) l × OnArcs P (suc i) ss ls

-- place by place: an arc's step has it
module _ (P : ℕ → Type 0) where
  step_has : (bs : List ℕ) (u v k : ℕ) → OnSteps P u bs → get_or bs v 0 ≡ suc k → P (u + v)
  step_has [] u v k h e = absurd (omega arith)
  step_has (zero ∷ bs) u zero k h e = absurd (omega arith)
  step_has (suc b ∷ bs) u zero k h e = let o : u + 0 ≡ u = omega arith in rw o h.0
  step_has (b ∷ bs) u (suc v) k h e = let o : u + suc v ≡ suc u + v = omega arith in rw o (step_has bs (suc u) v k h.1 e)

  arc_has : (l : List (List ℕ)) (j v k : ℕ) → Each (OnSteps P 0) l → get_or (get_or l j []) v 0 ≡ suc k → P v
  arc_has l j v k h e = rw zero-add at (step_has (get_or l j []) 0 v k (each_at (OnSteps P 0) l j [] tt h) e)

  -- and the other way
  on_steps : (bs : List ℕ) (u : ℕ) → ((v k : ℕ) → get_or bs v 0 ≡ suc k → P (u + v)) → OnSteps P u bs
  on_steps [] u h = tt
  on_steps (b ∷ bs) u h = (first b (λ k e. let o : u + 0 ≡ u = omega arith in rw o at (h 0 k e)), on_steps bs (suc u) (λ v k e. let o : u + suc v ≡ suc u + v = omega arith in rw o at (h (suc v) k e)))
    where
      first : (b : ℕ) → ((k : ℕ) → b ≡ suc k → P u) → IfArc (P u) b
      first zero f = tt
      first (suc k) f = f k refl

  on_layer : (l : List (List ℕ)) → ((j v k : ℕ) → get_or (get_or l j []) v 0 ≡ suc k → P v) → Each (OnSteps P 0) l
  on_layer [] h = tt
  on_layer (bs ∷ l) h = (on_steps bs 0 (λ v k e. rw zero-add (h 0 v k e)), on_layer l (λ j. h (suc j)))

-- what follows of each step that bears an arc
pub arcs_more : (P Q : ℕ → ℕ → ℕ → Type 0) → ((i s v : ℕ) → P i s v → Q i s v) → (i : ℕ) (ss : List ℕ) (a b : Arcs) → Fewer b a → OnArcs P i ss a → OnArcs Q i ss b
arcs_more P Q f i [] [] [] w h = tt
arcs_more P Q f i [] [] (m ∷ ms) w h = absurd w
arcs_more P Q f i [] (l ∷ ls) b w h = absurd h
arcs_more P Q f i (s ∷ ss) [] b w h = absurd h
arcs_more P Q f i (s ∷ ss) (l ∷ ls) [] w h = absurd w
arcs_more P Q f i (s ∷ ss) (l ∷ ls) (m ∷ ms) w h =
    (on_layer (Q i s) m (λ j v k e. f i s v (arc_has (P i s) l j v k h.0 (w.0 j v k e))), arcs_more P Q f (suc i) ss ls ms w.1 h.1)

-- of fewer arcs
pub fewer_on : (P : ℕ → ℕ → ℕ → Type 0) (ss : List ℕ) (a b : Arcs) → Fewer b a → OnArcs P 0 ss a → OnArcs P 0 ss b
fewer_on P ss a b w h = arcs_more P P (λ i s v p. p) 0 ss a b w h

-- whoever made the arcs: of nodes with k bytes only the first k steps bear one
pub arcs_below : (k i : ℕ) (ss : List ℕ) (a : Arcs) → length a ≡ length ss → Each (Each (λ bs. length bs ≤ k)) a → OnArcs (λ j s v. v < k) i ss a
arcs_below k i [] [] e h = tt
arcs_below k i [] (l ∷ ls) e h = absurd (omega arith)
arcs_below k i (s ∷ ss) [] e h = absurd (omega arith)
arcs_below k i (s ∷ ss) (l ∷ ls) e h =
    (on_layer (λ v. v < k) l (λ j v m b. let short = each_at (λ bs. length bs ≤ k) l j [] (omega arith) h.0 in omega (arith, byte_there (get_or l j []) v b)), arcs_below k (suc i) ss ls (omega arith) h.1)

-- ---- a diagram is built of steps of the sets
-- the property itself: step v is of the set s
abbrev pub OfSet : ℕ → ℕ → ℕ → ℕ → Type 0
OfSet k i s v = allows k s v ≡ true

module _ (o : Rank) (q : Campaign) where
  -- whatever function makes bytes of children, if it makes 0 of none
  layer_allowed : (f : Option Node → ℕ) → f none ≡ 0 → (i s : ℕ) (ss : List ℕ) (ns : List Node)
      → Each (OnSteps (OfSet q.steps i s) 0) (map (map f) (map (arrivals o q i s ss) ns))
  layer_allowed f z i s ss ns =
      on_layer (OfSet q.steps i s) (map (map f) (map (arrivals o q i s ss) ns)) (λ j v k e. (arc_at o q i s ss f z ns j v k e).1.allow)

  layers_allowed : (b : Builder) (w i : ℕ) (ns : List Node) (ss : List ℕ) → OnArcs (OfSet q.steps) i ss (map (λ l. l.arcs) (layers b o q w i ns ss))
  layers_allowed b w i ns [] = tt
  layers_allowed b w i ns (s ∷ []) = (layer_allowed sink_byte refl i s [] ns, tt)
  layers_allowed b w i ns (s ∷ s' ∷ ss) = (layer_allowed (arc_byte b w _) refl i s (s' ∷ ss) ns, layers_allowed b w (suc i) _ (s' ∷ ss))

-- the arcs of a campaign bear only steps of its sets
abbrev pub Allowed : Campaign → Arcs → Type 0
Allowed q a = OnArcs (OfSet q.steps) 0 q.sets a

pub built_allowed : (b : Builder) (q : Campaign) (w : ℕ) → Allowed q (built b q w)
built_allowed b q w = layers_allowed first_appearance q b w 0 (source q) q.sets

pub relaxed_allowed : (q : Campaign) (w n : ℕ) (c : ℤ) → Allowed q (relaxed_arcs q w n c)
relaxed_allowed q w n c =
    let a = built relaxed q w in
    fewer_on (OfSet q.steps) q.sets a (relaxed_arcs q w n c) (filtered_fewer c q n a) (built_allowed relaxed q w)

pub restricted_allowed : (q : Campaign) (w : ℕ) → Allowed q (restricted_arcs q w)
restricted_allowed q w =
    let a = built restricted q w in
    fewer_on (OfSet q.steps) q.sets a (restricted_arcs q w) (drops_fewer on_path q a) (built_allowed restricted q w)

-- ---- so a path is a plan over the sets
walk_allowed : (k i : ℕ) (ss : List ℕ) (a : Arcs) (j : ℕ) (p : List ℕ) → OnArcs (OfSet k) i ss a → walks a j p ≡ true → allowed k ss p ≡ true
walk_allowed k i [] [] j [] h e = refl
walk_allowed k i [] [] j (v ∷ p) h e = e
walk_allowed k i [] (l ∷ ls) j p h e = absurd h
walk_allowed k i (s ∷ ss) [] j p h e = absurd h
walk_allowed k i (s ∷ ss) (l ∷ ls) j [] h e = e
walk_allowed k i (s ∷ ss) (l ∷ ls) j (v ∷ p) h e =
    let x = next (λ m. walks ls m p) (get_or (get_or l j []) v 0) e in
    and_both (allows k s v) (allowed k ss p) (arc_has (OfSet k i s) l j v x.to h.0 x.byte) (walk_allowed k (suc i) ss ls x.to p h.1 x.on)

pub path_allowed : (q : Campaign) (a : Arcs) (p : List ℕ) → Allowed q a → is_path a p ≡ true → allowed q.steps q.sets p ≡ true
path_allowed q a p h e = walk_allowed q.steps 0 q.sets a 0 p h e
