-- What does one arrival more make of the classes, their buckets and the arcs' bytes?
use mathlib.Core.Path.{◌≡◌, refl, sym, ap, ◌∙◌}
use mathlib.Core.List.{List, [], ◌∷◌, ◌++◌, map}
use mathlib.Core.Bool.{Bool, true, false, cond}
use mathlib.Core.Option.{Option, none, some}
use Rattle.std.specs.Prelude as rust
use Rattle.std.specs.Prelude.{Some, None}
use Prim.Native.Nat.{ℕ, suc, ◌+◌, ◌-◌, ◌≤◌, ◌<◌}
use native.Mathlib.Nat.{mod-lt}
use native.Mathlib.Numerals.{add-one}
use native.Mathlib.Decide.{dec_lt}
use native.Mathlib.Omega.{arith}
use borrow.Author.Tests.{eqb-true, eqb-false}
use lib.Dec.{eqb}
use lib.IntN.{ℤ, pos}
use lib.ListN.{length, get_or, set, take, drop, length-set, length-map, length-drop, length-append, get_or-append}
use lib.Seq.{get_or-set_same, get_or-set_other, get_or_at, get_or-append-add, get_or-drop, take-suc, split_at, take_all}
use Rattle.laws.specs.Lists.{place}
use Rattle.laws.proofs.Lists.{get_or_map}
use Rattle.laws.proofs.Each.{Each}
use Rattle.laws.proofs.Reached.{Reached, reached_none, reached_more, reached_end}
use Rattle.meaning.specs.Diagram.{State, eq_state, Node, has, arrive, distinct}
use Rattle.state.specs.Pairs.{bucket_of}
use Rattle.lent.proofs.FirstOrder.{differ_arrive, place_is, arrive_new, place_new, arrive_old, placed_arrive, place-distinct, distinct_more}
use Rattle.classes.specs.Classes.{classes_in, classes_of, no_node, class_byte, byte_of, latest, Laid, Linked, Seen, Fresh, Found, Classed, Arrived}
use Rattle.classes.specs.declared.Chains.{Chains}
use Rattle.classes.proofs.Lists.{classes_long, classes_zero, classes_more}
use Rattle.classes.proofs.Buckets.{latest_append}

-- a state that no node has
place_none : (t : State) (l : List Node) → Each (λ n. eq_state t n.0 ≡ false) l → place (has t) l ≡ length l
place_none t [] h = refl
place_none t (n ∷ l) h = rw h.0 (ap suc (place_none t l h.1))

-- ---- one class more
laid_more : {firsts : List ℕ} {count : ℕ} (f : ℕ) → Laid firsts count → count < 128 → f < 128 → Laid (set firsts count f) (count + 1)
laid_more {firsts} {count} f l h b = record {
  long = length-set firsts count f ∙ l.long;
  few = omega arith;
  low = λ k i. elim (dec_lt k count) [
    | yes j ↦ rw (get_or-set_other firsts count k f 0 (λ e. absurd (omega arith))) (l.low k j)
    | no j ↦ let same : k ≡ count = omega arith in rw (same, get_or-set_same firsts count f 0 (omega (arith, l.long))) b
  ];
}

-- node n becomes the newest of its bucket
module _ (ts : List Node) (n : Node) (count : ℕ) (long : length ts ≡ count) (room : count < 128) where
  new_there : get_or (ts ++ n ∷ []) count no_node ≡ n
  new_there = get_or_at ts n [] no_node count long

  linked_more : (older : List ℕ) (b : ℕ) → Linked ts older → b ≡ latest ts (bucket_of n.0) count → Linked (ts ++ n ∷ []) (set older count b)
  linked_more older b l e = record {
    long = length-set older count b ∙ l.long;
    link = λ k h. elim (dec_lt k count) [
      | yes i ↦
          rw (get_or-set_other older count k b 0 (λ q. absurd (omega arith)), get_or-append ts (n ∷ []) no_node k (omega arith), latest_append ts (n ∷ []) (bucket_of (get_or ts k no_node).0) k (omega arith))
          (l.link k (omega arith))
      | no i ↦
          let same : k ≡ count = omega (arith, length-append ts (n ∷ [])) in
          rw (same, get_or-set_same older count b 0 (omega (arith, l.long)), new_there, latest_append ts (n ∷ []) (bucket_of n.0) count (omega arith)) e
    ];
  }

  head_more : (heads : List ℕ) → length heads ≡ 256 → ((s : ℕ) → s < 256 → get_or heads s 0 ≡ latest ts s count) → (s : ℕ) → s < 256
      → get_or (set heads (bucket_of n.0) (count + 1)) s 0 ≡ latest (ts ++ n ∷ []) s (count + 1)
  head_more heads l f s h = rw (add-one, new_there, latest_append ts (n ∷ []) s count (omega arith)) (go (eqb (bucket_of n.0) s) refl)
    where
      go : (t : Bool) → eqb (bucket_of n.0) s ≡ t → get_or (set heads (bucket_of n.0) (suc count)) s 0 ≡ cond t (suc count) (latest ts s count)
      go true e = rw (eqb-true (bucket_of n.0) s e) (get_or-set_same heads s (suc count) 0 (omega arith))
      go false e = get_or-set_other heads (bucket_of n.0) s (suc count) 0 (λ q. eqb-false (bucket_of n.0) s e (sym q)) ∙ f s h

-- ---- a state arrives
module _ {here row : List ℤ} {chains : Chains} (t : State) (seen : Seen here row chains) where
  -- that class k has
  pub arrived_old : (k : ℕ) → Found t (classes_of here row chains) (Some k) → Arrived here row chains chains t k
  arrived_old k there =
      let ts = classes_of here row chains in
      let long = classes_long here row chains.firsts chains.count in
      let at : place (has t) ts ≡ k = place_is t ts k seen.differ there.0 there.1 in
      record {
        is = sym (arrive_old (t, pos 0) ts refl (classes_zero here row chains.firsts chains.count) (omega (arith, there.0)));
        seen = seen;
        grows = omega arith;
        low = omega (arith, there.0);
        byte = omega arith;
      }

  -- that no class has
  pub arrived_new : (f s : ℕ) → Fresh here row f chains.count t → s ≡ bucket_of t → Found t (classes_of here row chains) None
      → Arrived here row chains
      (record { count = chains.count + 1; firsts = set chains.firsts chains.count f; older = set chains.older chains.count (get_or chains.heads s 0); heads = set chains.heads s (chains.count + 1) }) t chains.count
  arrived_new f s fresh b found =
      let ts = classes_of here row chains in
      let count = chains.count in
      let n : Node = (t, pos 0) in
      let long = classes_long here row chains.firsts count in
      let room : count < 128 = omega (arith, fresh.below, fresh.room) in
      let more : classes_in here row (set chains.firsts count f) (count + 1) ≡ ts ++ n ∷ [] = classes_more here row chains.firsts count f (omega (arith, seen.laid.long)) ∙ rw fresh.is in
      let none = place_none t ts found in
      let all = more ∙ sym (arrive_new n ts none) in
      rw b
      record {
        is = all;
        seen = record {
          laid = laid_more f seen.laid room fresh.below;
          linked = rw more (linked_more ts n count long room chains.older (get_or chains.heads (bucket_of t) 0) seen.linked (seen.each (bucket_of t) (mod-lt _ (omega arith))));
          long = length-set chains.heads (bucket_of t) (count + 1) ∙ seen.long;
          each = rw more (head_more ts n count long room chains.heads seen.long seen.each);
          differ = rw all (differ_arrive n ts seen.differ);
        };
        grows = omega arith;
        low = omega arith;
        byte = rw more (omega (arith, place_new n ts none));
      }

-- ---- all children arrive, one after the other: the classes and the bytes of the first f of them
pub record Sought (here row : List ℤ) (xs : List (Option Node)) (arcs₀ arcs : List ℕ) (chains : Chains) (f : ℕ) : Type 0 where
  pub seen : Seen here row chains
  pub fewer : chains.count ≤ f
  pub is : classes_of here row chains ≡ distinct [] (take f xs)
  pub bytes : Reached (map (class_byte (distinct [] xs)) xs ++ drop (length xs) arcs₀) arcs₀ arcs f

pub sought_start : (here row : List ℤ) (xs : List (Option Node)) (arcs firsts older heads : List ℕ)
    → length firsts ≡ 128 → length older ≡ 128 → length heads ≡ 256 → ((s : ℕ) → s < 256 → get_or heads s 0 ≡ 0)
    → Sought here row xs arcs arcs (record { count = 0; firsts = firsts; older = older; heads = heads }) 0
sought_start here row xs arcs firsts older heads l m n z = record {
  seen = record {
    laid = record { long = l; few = omega arith; low = λ k h. absurd (omega arith) };
    linked = record { long = m; link = λ k h. absurd (omega arith) };
    long = n;
    each = z;
    differ = tt;
  };
  fewer = omega arith;
  is = refl;
  bytes = reached_none _ arcs;
}

-- an arrival keeps its class when others follow
byte_stays : (l : List Node) (o : Option Node) (os : List (Option Node)) → class_byte (distinct l (o ∷ os)) o ≡ class_byte (distinct l (o ∷ [])) o
byte_stays l none os = refl
byte_stays l (some c) os = ap suc (place-distinct c.0 (arrive c l) os (placed_arrive c l))

module _ {here row : List ℤ} {xs : List (Option Node)} {arcs₀ arcs : List ℕ} {chains : Chains} {f : ℕ} (room : length xs ≤ length arcs₀) (s : Sought here row xs arcs₀ arcs chains f) where
  abbrev byte : Option Node → ℕ
  byte = class_byte (distinct [] xs)

  bytes_long : length (map byte xs ++ drop (length xs) arcs₀) ≡ length arcs₀
  bytes_long = omega (arith, length-append (map byte xs) (drop (length xs) arcs₀), length-map xs byte, length-drop (length xs) arcs₀)

  pub sought_more : {after : Chains} {k : rust.Option ℕ} (o : Option Node) → f < length xs → get_or xs f none ≡ o → Classed here row chains after o k → Sought here row xs arcs₀ (set arcs f (byte_of k)) after (f + 1)
  sought_more {after} {k} o h e c =
      let next : take (f + 1) xs ≡ take f xs ++ o ∷ [] = rw (add-one, ← e) (take-suc xs f none h) in
      let whole : xs ≡ take f xs ++ o ∷ drop (suc f) xs = rw (← e) (split_at xs f none h) in
      let all : distinct [] xs ≡ distinct (distinct [] (take f xs)) (o ∷ drop (suc f) xs) = ap (distinct []) whole ∙ distinct_more [] (take f xs) (o ∷ drop (suc f) xs) in
      let here_now : get_or (map byte xs) f 0 ≡ byte_of k =
      get_or_map byte xs f none 0 h ∙ ap byte e ∙ ap (λ l. class_byte l o) all ∙ byte_stays (distinct [] (take f xs)) o (drop (suc f) xs)
      ∙ ap (λ l. class_byte (distinct l (o ∷ [])) o) (sym s.is) ∙ ap (λ l. class_byte l o) (sym c.is) ∙ sym c.byte in
      record {
        seen = c.seen;
        fewer = omega (arith, c.grows, s.fewer);
        is = rw next (c.is ∙ ap (λ l. distinct l (o ∷ [])) s.is ∙ sym (distinct_more [] (take f xs) (o ∷ [])));
        bytes = reached_more s.bytes 0 (byte_of k) (omega (arith, s.bytes.long)) (omega (arith, bytes_long))
            (sym here_now ∙ sym (get_or-append (map byte xs) (drop (length xs) arcs₀) 0 f (omega (arith, length-map xs byte))));
      }

  -- all of them: what is behind stays
  behind : (i : ℕ) → length xs ≤ i → get_or (map byte xs ++ drop (length xs) arcs₀) i 0 ≡ get_or arcs₀ i 0
  behind i h =
      let long = length-map xs byte in
      let at : i ≡ length (map byte xs) + (i - length xs) = omega arith in
      let there : length xs + (i - length xs) ≡ i = omega arith in
      ap (λ k. get_or (map byte xs ++ drop (length xs) arcs₀) k 0) at ∙ get_or-append-add (map byte xs) (drop (length xs) arcs₀) (i - length xs) 0
      ∙ get_or-drop (length xs) arcs₀ (i - length xs) 0 ∙ ap (λ k. get_or arcs₀ k 0) there

  pub sought_end : f ≡ length xs → (chains.count ≡ length (distinct [] xs)) × (arcs ≡ map byte xs ++ drop (length xs) arcs₀)
  sought_end e =
      let all : take f xs ≡ xs = take_all f xs (omega arith) in
      (sym (classes_long here row chains.firsts chains.count) ∙ ap length (s.is ∙ ap (distinct []) all), reached_end s.bytes 0 bytes_long (λ i h. behind i (omega arith)))
