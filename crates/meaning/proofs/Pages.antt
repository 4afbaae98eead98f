-- Do pages in sequence list every lawful plan within the ceiling, once, in order?
-- The list of plans stands strictly in dictionary order; a page's last plan leaves exactly what stands behind the page.
use mathlib.Core.Path.{◌≡◌, refl, sym, ◌∙◌, ap}
use mathlib.Core.List.{List, [], ◌∷◌, ◌++◌, map, append-nil}
use mathlib.Core.Bool.{Bool, true, false, true≢false, cond}
use Prim.Native.Nat.{ℕ, zero, suc, ◌≤◌, ◌<◌}
use native.Mathlib.Omega.{arith}
use lib.Dec.{ltb}
use lib.ListN.{length, take, drop, length-drop, take-append-drop}
use lib.Seq.{take_all}
use borrow.Author.Tests.{ltb-true, ltb-false}
use lib.IntN.{ℤ}
use lib.Signed.{le_z}
use Rattle.laws.specs.Z.{zarith}
use Rattle.laws.specs.Lists.{keep, every, last_or}
use Rattle.laws.proofs.Lists.{and_l, and_r, and_both, and_true, In, in_keep, in_kept, every_append, every-keep, every_kept, every_in, in_every, keep_every, keep_length, keep_keep, keep_swap, keep_agree, last_passes, Ordered, ordered_keep}
use Rattle.meaning.specs.Plan.{Campaign, slots, steps_of, plans, lawful, lawfuls, cost, after}
use Rattle.meaning.specs.Diagram.{Arcs}
use Rattle.meaning.specs.Filter.{relaxed_arcs}
use Rattle.meaning.specs.Bound.{is_path, paths}
use Rattle.meaning.specs.Page.{wanted, listed, walked, page_of, page, drawn, ending}
use Rattle.meaning.proofs.Order.{after_trans, after_irrefl, after_asym, led, plans_ordered, plans_in, lawful_allowed}
use Rattle.meaning.proofs.Keeps.{kept}

-- strictly after each other: each once
pub listed_ordered : (q : Campaign) (c : ℤ) (s : List ℕ) → Ordered after (listed q c s)
listed_ordered q c s = ordered_keep after (wanted q c s) (lawfuls q) (ordered_keep after (lawful q) (plans q.steps q.sets) (plans_ordered q.steps q.sets))

pub listed_in : (q : Campaign) (c : ℤ) (s p : List ℕ) → lawful q p ≡ true → wanted q c s p ≡ true → In p (listed q c s)
listed_in q c s p e h =
    in_keep (wanted q c s) h (in_keep (lawful q) e (plans_in q.steps q.sets p (lawful_allowed q p e)))

-- what is listed is lawful, within the ceiling and after the start
pub listed_are : (q : Campaign) (c : ℤ) (s p : List ℕ) → In p (listed q c s) → (lawful q p ≡ true) × (wanted q c s p ≡ true)
listed_are q c s p i =
    (every_in (lawful q) (listed q c s) (every-keep (lawful q) (wanted q c s) (lawfuls q) (every_kept (lawful q) (plans q.steps q.sets))) i, in_kept (wanted q c s) (lawfuls q) i)

-- ---- the empty start
after_none : (vs : List ℕ) (rest : List (List ℕ)) → every (after []) (led vs rest) ≡ true
after_none [] rest = refl
after_none (v ∷ vs) rest = every_append (after []) (map (λ p. v ∷ p) rest) (led vs rest) (go rest) (after_none vs rest)
  where
    go : (l : List (List ℕ)) → every (after []) (map (λ p. v ∷ p) l) ≡ true
    go [] = refl
    go (p ∷ l) = go l

-- with a slot or more, all lawful plans within the ceiling are listed after it
listed_all : (q : Campaign) (c : ℤ) → 0 < slots q → listed q c [] ≡ keep (λ p. le_z (cost q p) c) (lawfuls q)
listed_all q c h =
    keep_agree (wanted q c []) (λ p. le_z (cost q p) c) (lawfuls q)
    (λ p i. and_true (le_z (cost q p) c) (after [] p) (every_in (after []) (lawfuls q) (every-keep (after []) (lawful q) (plans q.steps q.sets) (go q.sets h)) i))
  where
    go : (ss : List ℕ) → 0 < length ss → every (after []) (plans q.steps ss) ≡ true
    go [] h = absurd (omega arith)
    go (s ∷ ss) h = after_none (steps_of q.steps s) (plans q.steps ss)

-- ---- behind the last plan of a page stands what the page left
behind : (p : List ℕ) (l : List (List ℕ)) (k : ℕ) → Ordered after (p ∷ l) → keep (after (last_or p (take k l))) (p ∷ l) ≡ drop k l
behind p l zero s = rw (after_irrefl p) (keep_every (after p) l s.0)
behind p [] (suc k) s = rw (after_irrefl p)
behind p (q ∷ l) (suc k) s =
    let x = last_or q (take k l) in
    let e = last_passes (after p) q l k (and_l (after p q) (every (after p) l) s.0) (and_r (after p q) (every (after p) l) s.0) in
    rw (after_asym p x e) (behind q l k s.1)

-- ---- pages in sequence
module _ (q : Campaign) (c : ℤ) where
  abbrev cheap : List ℕ → Bool
  cheap p = le_z (cost q p) c

  -- after the last of the first k plans the others are listed
  next_listed : (s : List ℕ) (k : ℕ) → listed q c (last_or s (take k (listed q c s))) ≡ drop k (listed q c s)
  next_listed s k = go (listed q c s) refl k
    where
      go : (l : List (List ℕ)) → listed q c s ≡ l → (k : ℕ) → listed q c (last_or s (take k l)) ≡ drop k l
      go l e zero = e
      go [] e (suc k) = e
      go (p ∷ l) e (suc k) =
          let x = last_or p (take k l) in
          let all : every (wanted q c s) (p ∷ l) ≡ true = rw e at (every_kept (wanted q c s) (lawfuls q)) in
          let within = in_every cheap (p ∷ l) (λ r i. and_l (cheap r) (after s r) (every_in (wanted q c s) (p ∷ l) all i)) in
          let on : wanted q c s x ≡ true = last_passes (wanted q c s) p l k (and_l (wanted q c s p) (every (wanted q c s) l) all) (and_r (wanted q c s p) (every (wanted q c s) l) all) in
          let order : Ordered after (p ∷ l) = rw e at (listed_ordered q c s) in
          keep_keep (wanted q c x) (wanted q c s)
          (λ r h. and_both (cheap r) (after s r) (and_l (cheap r) (after x r) h) (after_trans s x r (and_r (cheap x) (after s x) on) (and_r (cheap r) (after x r) h))) (lawfuls q)
          ∙ ap (keep (wanted q c x)) e ∙ keep_agree (wanted q c x) (after x) (p ∷ l) (λ r i. rw (every_in cheap (p ∷ l) within i)) ∙ behind p l k order

  -- pages with any rooms: if one of them says that there is no more, they list all that stands after the start
  pub ended_all : (rooms : List ℕ) (s : List ℕ) → ending rooms q c s ≡ true → drawn rooms q c s ≡ listed q c s
  ended_all [] s e = absurd (true≢false (sym e))
  ended_all (k ∷ ks) s e = go (ltb k (length (listed q c s))) refl (ended_all ks (last_or s (take k (listed q c s)))) e
    where
      l : List (List ℕ)
      l = listed q c s

      x : List ℕ
      x = last_or s (take k l)

      go : (b : Bool) → ltb k (length l) ≡ b → (ending ks q c x ≡ true → drawn ks q c x ≡ listed q c x) → cond b (ending ks q c x) true ≡ true
          → take k l ++ cond b (drawn ks q c x) [] ≡ l
      go true f r e = ap (λ (m : List (List ℕ)). take k l ++ m) (r e ∙ next_listed s k) ∙ take-append-drop k l
      go false f r e = append-nil (take k l) ∙ take_all k l (ltb-false k (length l) f)

  -- and one of them does: as many pages as plans are enough, and at least one
  drawn_ends : (rooms : List ℕ) (s : List ℕ) → every (ltb 0) rooms ≡ true → 0 < length rooms → length (listed q c s) ≤ length rooms → ending rooms q c s ≡ true
  drawn_ends [] s f n h = absurd (omega arith)
  drawn_ends (k ∷ ks) s f n h = go (ltb k (length (listed q c s))) refl (drawn_ends ks x (and_r (ltb 0 k) (every (ltb 0) ks) f))
    where
      x : List ℕ
      x = last_or s (take k (listed q c s))

      go : (b : Bool) → ltb k (length (listed q c s)) ≡ b → (0 < length ks → length (listed q c x) ≤ length ks → ending ks q c x ≡ true) → cond b (ending ks q c x) true ≡ true
      go true e r =
          let some = ltb-true 0 k (and_l (ltb 0 k) (every (ltb 0) ks) f) in
          let left = ltb-true k (length (listed q c s)) e in
          r (omega arith) (rw (next_listed s k, length-drop) (omega arith))
      go false e r = refl

  pub drawn_all : (rooms : List ℕ) (s : List ℕ) → every (ltb 0) rooms ≡ true → 0 < length rooms → length (listed q c s) ≤ length rooms
      → (drawn rooms q c s ≡ listed q c s) × (ending rooms q c s ≡ true)
  drawn_all rooms s f n h = let e = drawn_ends rooms s f n h in (ended_all rooms s e, e)

-- from the beginning: until one says there is no more, all lawful plans within the ceiling
pub pages_ended : (q : Campaign) (c : ℤ) (rooms : List ℕ) → 0 < slots q → ending rooms q c [] ≡ true → drawn rooms q c [] ≡ keep (λ p. le_z (cost q p) c) (lawfuls q)
pages_ended q c rooms s e = ended_all q c rooms [] e ∙ listed_all q c s

-- and the sequence ends
pub pages_all : (q : Campaign) (c : ℤ) (rooms : List ℕ) → 0 < slots q → every (ltb 0) rooms ≡ true → 0 < length rooms → length (lawfuls q) ≤ length rooms
    → (drawn rooms q c [] ≡ keep (λ p. le_z (cost q p) c) (lawfuls q)) × (ending rooms q c [] ≡ true)
pages_all q c rooms s f n h =
    let e = drawn_ends q c rooms [] f n (omega (arith, keep_length (wanted q c []) (lawfuls q))) in
    (pages_ended q c rooms s e, e)

-- ---- pages of paths
-- of the paths of any arcs, the lawful ones within the ceiling after the start are those that the walk finds
pub walked_paths : (q : Campaign) (a : Arcs) (c : ℤ) (s : List ℕ) → keep (wanted q c s) (keep (lawful q) (paths q a)) ≡ walked a q c s
walked_paths q a c s =
    ap (keep (wanted q c s)) (keep_swap (lawful q) (is_path a) (plans q.steps q.sets)) ∙ keep_swap (wanted q c s) (is_path a) (lawfuls q)

-- of the relaxed diagram's paths they are all that there are
walked_relaxed : (q : Campaign) (w n : ℕ) (c : ℤ) (s : List ℕ) → 0 < w → walked (relaxed_arcs q w n c) q c s ≡ listed q c s
walked_relaxed q w n c s hw =
    let a = relaxed_arcs q w n c in
    keep_every (is_path a) (listed q c s)
    (in_every (is_path a) (listed q c s) (λ p i. let b = listed_are q c s p i in kept q w n c p b.0 (let d = and_l (le_z (cost q p) c) (after s p) b.1 in omega zarith) hw))

pub page_of_plans : (q : Campaign) (w n : ℕ) (c : ℤ) (s : List ℕ) → 0 < w → keep (wanted q c s) (keep (lawful q) (paths q (relaxed_arcs q w n c))) ≡ listed q c s
page_of_plans q w n c s hw = walked_paths q (relaxed_arcs q w n c) c s ∙ walked_relaxed q w n c s hw

-- so the page along the relaxed diagram is the page, whatever the width and the rounds
pub page_along : (q : Campaign) (w n : ℕ) (c : ℤ) (k : ℕ) (s : List ℕ) → 0 < w → page_of k (walked (relaxed_arcs q w n c) q c s) ≡ page q c k s
page_along q w n c k s hw = ap (page_of k) (walked_relaxed q w n c s hw)
