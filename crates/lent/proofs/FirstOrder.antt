-- In which order do the states of a layer stand at rank first_appearance, and what does a loop need that looks each child up?
use mathlib.Core.Path.{◌≡◌, refl, sym, ◌∙◌, ap}
use mathlib.Core.List.{List, [], ◌∷◌, ◌++◌, map}
use mathlib.Core.Bool.{Bool, true, false, ◌&&◌, cond, true≢false}
use mathlib.Core.Option.{Option, none, some}
use Prim.Native.Nat.{ℕ, zero, suc, ◌≤◌, ◌<◌}
use native.Mathlib.Omega.{arith}
use lib.ListN.{length, get_or}
use lib.IntN.{pos}
use Rattle.laws.specs.Z.{min_z}
use Rattle.laws.specs.Lists.{place, flat, from}
use Rattle.laws.proofs.Lists.{no_true}
use Rattle.laws.proofs.Each.{Each, each_below, each_flat}
use Rattle.meaning.specs.Plan.{Campaign, allows}
use Rattle.meaning.specs.Diagram.{State, eq_state, child, reaches, may_keep_all, Node, first_appearance, arrival, arrivals, has, arrive, distinct, placed, ranked, states}
use Rattle.meaning.proofs.Sound.{eq_state→, eq_state_refl, no_node}

-- ---- equal states, and back
pub eq_state_yes : (a b : State) → a ≡ b → eq_state a b ≡ true
eq_state_yes a b e = rw e (eq_state_refl b)

eq_state_swap : (a b : State) → eq_state a b ≡ false → eq_state b a ≡ false
eq_state_swap a b e = no_true (eq_state b a) (λ f. true≢false (sym (eq_state_yes a b (sym (eq_state→ b a f))) ∙ e))

-- ---- ranks: all are 0, so the states stand by first appearance
abbrev pub Zero : Node → Type 0
Zero n = n.1 ≡ pos 0

-- of an arrival, where there is one
abbrev ZeroIf : Option Node → Type 0
ZeroIf none = Unit {0}
ZeroIf (some c) = Zero c

zero_placed : (c : Node) (l : List Node) → Zero c → Each Zero l → placed c l ≡ c ∷ l
zero_placed c [] z h = refl
zero_placed c (n ∷ l) z h = rw (z, h.0)

pub zero_ranked : (l : List Node) → Each Zero l → ranked l ≡ l
zero_ranked [] h = refl
zero_ranked (c ∷ l) h = rw (zero_ranked l h.1) (zero_placed c l h.0 h.1)

pub zero_arrive : (c : Node) (l : List Node) → Zero c → Each Zero l → Each Zero (arrive c l)
zero_arrive c [] z h = (z, tt)
zero_arrive c (n ∷ l) z h = go (has c.0 n) (zero_arrive c l z h.1)
  where
    go : (t : Bool) → Each Zero (arrive c l) → Each Zero (cond t ((n.0, min_z n.1 c.1) ∷ l) (n ∷ arrive c l))
    go true r = (rw (z, h.0), h.1)
    go false r = (h.0, r)

zero_distinct : (seen : List Node) (os : List (Option Node)) → Each Zero seen → Each ZeroIf os → Each Zero (distinct seen os)
zero_distinct seen [] h k = h
zero_distinct seen (none ∷ os) h k = zero_distinct seen os h k.1
zero_distinct seen (some c ∷ os) h k = zero_distinct (arrive c seen) os (zero_arrive c seen k.0 h) k.1

module _ (q : Campaign) (i s : ℕ) (ss : List ℕ) where
  zero_arrival : (n : Node) (v : ℕ) → ZeroIf (arrival first_appearance q i s ss n v)
  zero_arrival n v = go (allows q.steps s v && may_keep_all q.rules (child q.rules i v n.0) (reaches q (suc i) ss))
    where
      go : (t : Bool) → ZeroIf (cond t (some (child q.rules i v n.0, pos 0)) none)
      go true = refl
      go false = tt

  each_zero : (ns : List Node) → Each (Each ZeroIf) (map (arrivals first_appearance q i s ss) ns)
  each_zero [] = tt
  each_zero (n ∷ ns) = (steps (from 0 q.steps), each_zero ns)
    where
      steps : (vs : List ℕ) → Each ZeroIf (map (arrival first_appearance q i s ss n) vs)
      steps [] = tt
      steps (v ∷ vs) = (zero_arrival n v, steps vs)

  pub first_zero : (ns : List Node) → Each Zero (distinct [] (flat (map (arrivals first_appearance q i s ss) ns)))
  first_zero ns = let os = map (arrivals first_appearance q i s ss) ns in zero_distinct [] (flat os) tt (each_flat ZeroIf os (each_zero ns))

  pub first_states : (ns : List Node) → states (map (arrivals first_appearance q i s ss) ns) ≡ distinct [] (flat (map (arrivals first_appearance q i s ss) ns))
  first_states ns = zero_ranked (distinct [] (flat (map (arrivals first_appearance q i s ss) ns))) (first_zero ns)

-- ---- no two nodes have equal states
abbrev pub Differs : State → Node → Type 0
Differs t n = eq_state t n.0 ≡ false

abbrev pub AllDiffer : List Node → Type 0
AllDiffer [] = Unit {0}
AllDiffer (n ∷ l) = Each (Differs n.0) l × AllDiffer l

-- what differs from the child and from each seen
differs_arrive : (t : State) (c : Node) (l : List Node) → Differs t c → Each (Differs t) l → Each (Differs t) (arrive c l)
differs_arrive t c [] d h = (d, tt)
differs_arrive t c (n ∷ l) d h = go (has c.0 n) (differs_arrive t c l d h.1)
  where
    go : (b : Bool) → Each (Differs t) (arrive c l) → Each (Differs t) (cond b ((n.0, min_z n.1 c.1) ∷ l) (n ∷ arrive c l))
    go true r = h
    go false r = (h.0, r)

pub differ_arrive : (c : Node) (l : List Node) → AllDiffer l → AllDiffer (arrive c l)
differ_arrive c [] h = (tt, tt)
differ_arrive c (n ∷ l) h = go (has c.0 n) refl (differ_arrive c l h.1)
  where
    go : (b : Bool) → has c.0 n ≡ b → AllDiffer (arrive c l) → AllDiffer (cond b ((n.0, min_z n.1 c.1) ∷ l) (n ∷ arrive c l))
    go true e r = h
    go false e r = (differs_arrive n.0 c l (eq_state_swap c.0 n.0 e) h.0, r)

-- so a node that has a state stands at the state's place
pub place_is : (t : State) (l : List Node) (k : ℕ) → AllDiffer l → k < length l → has t (get_or l k no_node) ≡ true → place (has t) l ≡ k
place_is t [] k h b e = absurd (omega arith)
place_is t (n ∷ l) zero h b e = rw e
place_is t (n ∷ l) (suc k) h b e =
    let same = eq_state→ t (get_or l k no_node).0 e in
    let other : has t n ≡ false = eq_state_swap n.0 t (rw (← same) at (each_below (Differs n.0) l k no_node (omega arith) h.0)) in
    rw other (ap suc (place_is t l k h.1 (omega arith) e))

-- ---- places

-- ---- looking a child up: it is nowhere, and stands behind all others; or it is there, and nothing changes
pub arrive_new : (c : Node) (l : List Node) → place (has c.0) l ≡ length l → arrive c l ≡ l ++ c ∷ []
arrive_new c [] e = refl
arrive_new c (n ∷ l) e = go (has c.0 n) e (arrive_new c l)
  where
    go : (t : Bool) → cond t 0 (suc (place (has c.0) l)) ≡ suc (length l) → (place (has c.0) l ≡ length l → arrive c l ≡ l ++ c ∷ [])
        → cond t ((n.0, min_z n.1 c.1) ∷ l) (n ∷ arrive c l) ≡ n ∷ (l ++ c ∷ [])
    go true f r = absurd (omega arith)
    go false f r = ap (λ (m : List Node). n ∷ m) (r (omega arith))

pub place_new : (c : Node) (l : List Node) → place (has c.0) l ≡ length l → place (has c.0) (l ++ c ∷ []) ≡ length l
place_new c [] e = rw (eq_state_refl c.0)
place_new c (n ∷ l) e = go (has c.0 n) e (place_new c l)
  where
    go : (t : Bool) → cond t 0 (suc (place (has c.0) l)) ≡ suc (length l) → (place (has c.0) l ≡ length l → place (has c.0) (l ++ c ∷ []) ≡ length l)
        → cond t 0 (suc (place (has c.0) (l ++ c ∷ []))) ≡ suc (length l)
    go true f r = f
    go false f r = ap suc (r (omega arith))

pub arrive_old : (c : Node) (l : List Node) → Zero c → Each Zero l → place (has c.0) l < length l → arrive c l ≡ l
arrive_old c [] z h b = absurd (omega arith)
arrive_old c (n ∷ l) z h b = go (has c.0 n) b (arrive_old c l z h.1)
  where
    go : (t : Bool) → cond t 0 (suc (place (has c.0) l)) < suc (length l) → (place (has c.0) l < length l → arrive c l ≡ l)
        → cond t ((n.0, min_z n.1 c.1) ∷ l) (n ∷ arrive c l) ≡ n ∷ l
    go true f r = let least : min_z n.1 c.1 ≡ n.1 = rw (z, h.0) in λ d. (n.0, least d) ∷ l
    go false f r = ap (λ (m : List Node). n ∷ m) (r (omega arith))

-- ---- every arrival's state has a place, which it keeps
length_arrive : (c : Node) (l : List Node) → length l ≤ length (arrive c l)
length_arrive c [] = omega arith
length_arrive c (n ∷ l) = go (has c.0 n) (length_arrive c l)
  where
    go : (t : Bool) → length l ≤ length (arrive c l) → suc (length l) ≤ length (cond t ((n.0, min_z n.1 c.1) ∷ l) (n ∷ arrive c l))
    go true h = omega arith
    go false h = omega arith

abbrev pub Placed : State → List Node → Type 0
Placed t l = place (has t) l < length l

place-arrive : (t : State) (c : Node) (l : List Node) → Placed t l → place (has t) (arrive c l) ≡ place (has t) l
place-arrive t c [] b = absurd (omega arith)
place-arrive t c (n ∷ l) b = go (has c.0 n) (has t n) refl b (place-arrive t c l)
  where
    go : (d s : Bool) → has t n ≡ s → cond s 0 (suc (place (has t) l)) < suc (length l) → (Placed t l → place (has t) (arrive c l) ≡ place (has t) l)
        → place (has t) (cond d ((n.0, min_z n.1 c.1) ∷ l) (n ∷ arrive c l)) ≡ cond s 0 (suc (place (has t) l))
    go true s e h r = rw e
    go false true e h r = rw e
    go false false e h r = rw e (ap suc (r (omega arith)))

pub place-distinct : (t : State) (seen : List Node) (os : List (Option Node)) → Placed t seen → place (has t) (distinct seen os) ≡ place (has t) seen
place-distinct t seen [] b = refl
place-distinct t seen (none ∷ os) b = place-distinct t seen os b
place-distinct t seen (some c ∷ os) b =
    let same = place-arrive t c seen b in
    place-distinct t (arrive c seen) os (omega (arith, length_arrive c seen)) ∙ same

pub placed_arrive : (c : Node) (l : List Node) → Placed c.0 (arrive c l)
placed_arrive c [] = rw (eq_state_refl c.0) (omega arith)
placed_arrive c (n ∷ l) = go (has c.0 n) refl (placed_arrive c l)
  where
    go : (t : Bool) → has c.0 n ≡ t → Placed c.0 (arrive c l) → Placed c.0 (cond t ((n.0, min_z n.1 c.1) ∷ l) (n ∷ arrive c l))
    go true e h = rw e (omega arith)
    go false e h = rw e (omega arith)

-- more arrivals
pub distinct_more : (seen : List Node) (os ps : List (Option Node)) → distinct seen (os ++ ps) ≡ distinct (distinct seen os) ps
distinct_more seen [] ps = refl
distinct_more seen (none ∷ os) ps = distinct_more seen os ps
distinct_more seen (some c ∷ os) ps = distinct_more (arrive c seen) os ps
