-- Do states that are filled up with zeros make the same states, places, nodes and bytes as those of the rules alone?
use mathlib.Core.Path.{◌≡◌, refl, sym, ap, ◌∙◌}
use mathlib.Core.List.{List, [], ◌∷◌, ◌++◌, map}
use mathlib.Core.Bool.{Bool, true, false, cond}
use mathlib.Core.Option
use mathlib.Core.Option.{Option, none, some}
use Prim.Native.Nat.{ℕ, suc, ◌-◌, ◌≤◌}
use native.Mathlib.Omega.{arith}
use lib.Dec.{leb}
use lib.ListN.{length, take, drop}
use Rattle.laws.specs.Z.{min_z}
use Rattle.laws.specs.Lists.{place, padded}
use Rattle.laws.proofs.Each.{Each, each_append, each_take, each_drop}
use Rattle.meaning.specs.Diagram.{State, merged_state, Node, has, arrive, distinct, Builder, relaxed, restricted, merged_node, merged_all, shared, nodes_of, arc_byte, sink_byte}
use Rattle.state.proofs.Joined.{no_pair}
use Rattle.state.proofs.Padded.{equal_padded}
use Rattle.classes.specs.Classes.{class_byte}
use Rattle.layer.specs.Places.{placed}

-- ---- what holds of the states of all arrivals holds of the states and the nodes that they make
abbrev pub Of : (State → Type 0) → Node → Type 0
Of P n = P n.0

abbrev pub OfIf : (State → Type 0) → Option Node → Type 0
OfIf P none = Unit {0}
OfIf P (some c) = P c.0

module _ (P : State → Type 0) where
  arrive_of : (c : Node) (l : List Node) → P c.0 → Each (Of P) l → Each (Of P) (arrive c l)
  arrive_of c [] z h = (z, tt)
  arrive_of c (n ∷ l) z h = go (has c.0 n) (arrive_of c l z h.1)
    where
      go : (t : Bool) → Each (Of P) (arrive c l) → Each (Of P) (cond t ((n.0, min_z n.1 c.1) ∷ l) (n ∷ arrive c l))
      go true r = h
      go false r = (h.0, r)

  pub distinct_of : (seen : List Node) (xs : List (Option Node)) → Each (Of P) seen → Each (OfIf P) xs → Each (Of P) (distinct seen xs)
  distinct_of seen [] h k = h
  distinct_of seen (none ∷ xs) h k = distinct_of seen xs h k.1
  distinct_of seen (some c ∷ xs) h k = distinct_of (arrive c seen) xs (arrive_of c seen k.0 h) k.1

  module _ (m : (s t : State) → P s → P t → P (merged_state s t)) where
    merged_of : (n : Node) (l : List Node) → P n.0 → Each (Of P) l → P (merged_all n l).0
    merged_of n [] z h = z
    merged_of n (k ∷ l) z h = merged_of (merged_node n k) l (m n.0 k.0 z h.0) h.1

    shared_of : (l : List Node) → Each (Of P) l → Each (Of P) (shared l)
    shared_of [] h = tt
    shared_of (n ∷ l) h = (merged_of n l h.0 h.1, tt)

    pub nodes_of_lem : (b : Builder) (w : ℕ) (ts : List Node) → Each (Of P) ts → Each (Of P) (nodes_of b w ts)
    nodes_of_lem restricted w ts h = each_take (Of P) w ts h
    nodes_of_lem relaxed w ts h = go (leb (length ts) w)
      where
        go : (t : Bool) → Each (Of P) (cond t ts (take (w - 1) ts ++ shared (drop (w - 1) ts)))
        go true = h
        go false = each_append (Of P) (take (w - 1) ts) (shared (drop (w - 1) ts)) (each_take (Of P) (w - 1) ts h) (shared_of (drop (w - 1) ts) (each_drop (Of P) (w - 1) ts h))

-- ---- states of m pairs, filled up to eight
abbrev pub fill : Node → Node
fill n = (padded 8 no_pair n.0, n.1)

abbrev pub Long : ℕ → State → Type 0
Long m t = length t ≡ m

module _ (m : ℕ) (few : m ≤ 8) where
  has_filled : (t : State) (n : Node) → Long m t → Of (Long m) n → has (padded 8 no_pair t) (fill n) ≡ has t n
  has_filled t n e h = equal_padded 8 t n.0 (e ∙ sym h) (omega arith)

  place_filled : (t : State) (l : List Node) → Long m t → Each (Of (Long m)) l → place (has (padded 8 no_pair t)) (map fill l) ≡ place (has t) l
  place_filled t [] e h = refl
  place_filled t (n ∷ l) e h = rw (has_filled t n e h.0, place_filled t l e h.1)

  arrive_filled : (c : Node) (l : List Node) → Of (Long m) c → Each (Of (Long m)) l → arrive (fill c) (map fill l) ≡ map fill (arrive c l)
  arrive_filled c [] e h = refl
  arrive_filled c (n ∷ l) e h = rw (has_filled c.0 n e h.0, arrive_filled c l e h.1) (go (has c.0 n))
    where
      go : (t : Bool) → cond t (((fill n).0, min_z n.1 c.1) ∷ map fill l) (fill n ∷ map fill (arrive c l)) ≡ map fill (cond t ((n.0, min_z n.1 c.1) ∷ l) (n ∷ arrive c l))
      go true = refl
      go false = refl

  distinct-seen : (seen : List Node) (xs : List (Option Node)) → Each (Of (Long m)) seen → Each (OfIf (Long m)) xs → distinct (map fill seen) (map (Option.map fill) xs) ≡ map fill (distinct seen xs)
  distinct-seen seen [] h k = refl
  distinct-seen seen (none ∷ xs) h k = distinct-seen seen xs h k.1
  distinct-seen seen (some c ∷ xs) h k =
      ap (λ s. distinct s (map (Option.map fill) xs)) (arrive_filled c seen k.0 h) ∙ distinct-seen (arrive c seen) xs (arrive_of (Long m) c seen k.0 h) k.1

  -- the states
  pub distinct_filled : (xs : List (Option Node)) → Each (OfIf (Long m)) xs → distinct [] (map (Option.map fill) xs) ≡ map fill (distinct [] xs)
  distinct_filled xs h = distinct-seen [] xs tt h

  -- ---- the bytes
  class_filled : (ts : List Node) (x : Option Node) → Each (Of (Long m)) ts → OfIf (Long m) x → class_byte (map fill ts) (Option.map fill x) ≡ class_byte ts x
  class_filled ts none h e = refl
  class_filled ts (some c) h e = ap suc (place_filled c.0 ts e h)

  bytes_filled : (f : ℕ → ℕ) (g : Option Node → ℕ) (ts : List Node) → ((x : Option Node) → f (class_byte ts x) ≡ g x) → Each (Of (Long m)) ts
      → (xs : List (Option Node)) → Each (OfIf (Long m)) xs → map f (map (class_byte (map fill ts)) (map (Option.map fill) xs)) ≡ map g xs
  bytes_filled f g ts e h [] k = refl
  bytes_filled f g ts e h (x ∷ xs) k = rw (class_filled ts x h k.0, e x, bytes_filled f g ts e h xs k.1)

  -- those of places
  pub arcs_filled : (b : Builder) (w : ℕ) (ts : List Node) → Each (Of (Long m)) ts → (xs : List (Option Node)) → Each (OfIf (Long m)) xs
      → map (placed b w) (map (class_byte (map fill ts)) (map (Option.map fill) xs)) ≡ map (arc_byte b w ts) xs
  arcs_filled b w ts h xs k = bytes_filled (placed b w) (arc_byte b w ts) ts own h xs k
    where
      own : (x : Option Node) → placed b w (class_byte ts x) ≡ arc_byte b w ts x
      own none = refl
      own (some c) = refl

  -- those of the sink
  pub sinks_filled : (ts : List Node) → Each (Of (Long m)) ts → (xs : List (Option Node)) → Each (OfIf (Long m)) xs
      → map (placed relaxed 1) (map (class_byte (map fill ts)) (map (Option.map fill) xs)) ≡ map sink_byte xs
  sinks_filled ts h xs k = bytes_filled (placed relaxed 1) sink_byte ts own h xs k
    where
      own : (x : Option Node) → placed relaxed 1 (class_byte ts x) ≡ sink_byte x
      own none = refl
      own (some c) = omega arith
