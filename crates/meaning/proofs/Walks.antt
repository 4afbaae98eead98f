-- Where does a walk go, along any arcs, and what follows of arcs that are fewer?
use mathlib.Core.Path.{◌≡◌, refl, sym, ◌∙◌, ap}
use mathlib.Core.List.{List, [], ◌∷◌}
use mathlib.Core.Bool.{Bool, true, true≢false}
use Prim.Native.Nat.{ℕ, zero, suc, ◌<◌}
use native.Mathlib.Omega.{arith}
use lib.Dec.{eqb}
use lib.ListN.{length, get_or}
use borrow.Author.Tests.{eqb-true}
use Rattle.laws.proofs.Lists.{and_l, and_r, place_there}
use Rattle.meaning.specs.Diagram.{Arcs}
use Rattle.meaning.specs.Filter.{node_count}
use Rattle.meaning.specs.Bound.{along, walks, arc_at, passes}

-- what a walk's next arc is
pub record Next (f : ℕ → Bool) (b : ℕ) : Type 0 where
  pub to : ℕ
  pub byte : b ≡ suc to
  pub on : f to ≡ true

pub next : (f : ℕ → Bool) (b : ℕ) → along f b ≡ true → Next f b
next f zero e = absurd (true≢false (sym e))
next f (suc j) e = record { to = j; byte = refl; on = e }

-- an arc is at a step, and at a node, that is there
pub byte_there : (bs : List ℕ) (v : ℕ) {j : ℕ} → get_or bs v 0 ≡ suc j → v < length bs
byte_there bs v e = place_there bs v 0 (λ z. let d = sym z ∙ e in omega arith)

pub node_there : (l : List (List ℕ)) (k v : ℕ) {j : ℕ} → get_or (get_or l k []) v 0 ≡ suc j → k < length l
node_there l k v e = place_there l k [] (λ z. let d = sym (ap (λ (bs : List ℕ). get_or bs v 0) z) ∙ e in omega arith)

pub walk_there : (a : Arcs) (k : ℕ) (p : List ℕ) → walks a k p ≡ true → k < node_count a
walk_there [] k [] w = rw (eqb-true k 0 w) (omega arith)
walk_there [] k (v ∷ p) w = absurd (true≢false (sym w))
walk_there (l ∷ ls) k [] w = absurd (true≢false (sym w))
walk_there (l ∷ ls) k (v ∷ p) w = node_there l k v (next (λ j. walks ls j p) (get_or (get_or l k []) v 0) w).byte

-- ---- arcs that are all arcs of others, with the same bytes
abbrev pub Fewer : Arcs → Arcs → Type 0
Fewer [] [] = Unit {0}
Fewer [] (m ∷ ms) = ⊥
Fewer (l ∷ ls) [] = ⊥
Fewer (l ∷ ls) (m ∷ ms) = ((j v k : ℕ) → get_or (get_or l j []) v 0 ≡ suc k → get_or (get_or m j []) v 0 ≡ suc k) × Fewer ls ms

pub fewer_refl : (a : Arcs) → Fewer a a
fewer_refl [] = tt
fewer_refl (l ∷ ls) = ((λ j v k e. e), fewer_refl ls)

pub fewer_trans : (a b c : Arcs) → Fewer a b → Fewer b c → Fewer a c
fewer_trans [] [] c f g = g
fewer_trans [] (m ∷ ms) c f g = absurd f
fewer_trans (l ∷ ls) [] c f g = absurd f
fewer_trans (l ∷ ls) (m ∷ ms) [] f g = absurd g
fewer_trans (l ∷ ls) (m ∷ ms) (n ∷ ns) f g = ((λ j v k e. g.0 j v k (f.0 j v k e)), fewer_trans ls ms ns f.1 g.1)

-- so an arc, and a path, of the fewer is one of the others, and passes the same arcs
pub fewer_arc : (a b : Arcs) → Fewer a b → (i j v k : ℕ) → arc_at a i j v ≡ suc k → arc_at b i j v ≡ suc k
fewer_arc [] [] f i j v k e = e
fewer_arc [] (m ∷ ms) f i j v k e = absurd f
fewer_arc (l ∷ ls) [] f i j v k e = absurd f
fewer_arc (l ∷ ls) (m ∷ ms) f zero j v k e = f.0 j v k e
fewer_arc (l ∷ ls) (m ∷ ms) f (suc i) j v k e = fewer_arc ls ms f.1 i j v k e

pub fewer_walks : (a b : Arcs) → Fewer a b → (k : ℕ) (p : List ℕ) → walks a k p ≡ true → walks b k p ≡ true
fewer_walks [] [] f k p e = e
fewer_walks [] (m ∷ ms) f k p e = absurd f
fewer_walks (l ∷ ls) [] f k p e = absurd f
fewer_walks (l ∷ ls) (m ∷ ms) f k [] e = absurd (true≢false (sym e))
fewer_walks (l ∷ ls) (m ∷ ms) f k (v ∷ p) e =
    let x = next (λ j. walks ls j p) (get_or (get_or l k []) v 0) e in
    rw (f.0 k v x.to x.byte) (fewer_walks ls ms f.1 x.to p x.on)

pub fewer_passes : (a b : Arcs) → Fewer a b → (i j v k : ℕ) (p : List ℕ) → walks a k p ≡ true → passes i j v b k p ≡ true → passes i j v a k p ≡ true
fewer_passes [] [] f i j v k p w e = e
fewer_passes [] (m ∷ ms) f i j v k p w e = absurd f
fewer_passes (l ∷ ls) [] f i j v k p w e = absurd f
fewer_passes (l ∷ ls) (m ∷ ms) f i j v k [] w e = absurd (true≢false (sym w))
fewer_passes (l ∷ ls) (m ∷ ms) f zero j v k (u ∷ p) w e = e
fewer_passes (l ∷ ls) (m ∷ ms) f (suc i) j v k (u ∷ p) w e =
    let x = next (λ n. walks ls n p) (get_or (get_or l k []) u 0) w in
    let was = ap (along (λ n. passes i j v ms n p)) (f.0 k u x.to x.byte) in
    rw x.byte (fewer_passes ls ms f.1 i j v x.to p x.on (sym was ∙ e))

-- an arc that a walk passes is there
pub passes_arc : (i j v : ℕ) (a : Arcs) (k : ℕ) (p : List ℕ) → walks a k p ≡ true → passes i j v a k p ≡ true → 0 < arc_at a i j v
passes_arc i j v [] k p w e = absurd (true≢false (sym e))
passes_arc i j v (l ∷ ls) k [] w e = absurd (true≢false (sym e))
passes_arc zero j v (l ∷ ls) k (u ∷ p) w e =
    let x = next (λ m. walks ls m p) (get_or (get_or l k []) u 0) w in
    let at : k ≡ j = eqb-true k j (and_l (eqb k j) (eqb u v) e) in
    let by : u ≡ v = eqb-true u v (and_r (eqb k j) (eqb u v) e) in
    rw (← at, ← by, x.byte) (omega arith)
passes_arc (suc i) j v (l ∷ ls) k (u ∷ p) w e =
    let x = next (λ m. walks ls m p) (get_or (get_or l k []) u 0) w in
    passes_arc i j v ls x.to p x.on (sym (ap (along (λ m. passes i j v ls m p)) x.byte) ∙ e)
