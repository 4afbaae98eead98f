-- In which order do the plans stand? Strictly in dictionary order, and every plan over the sets is there.
use mathlib.Core.Path.{◌≡◌, refl, sym, ap, ◌∙◌}
use mathlib.Core.List.{List, [], ◌∷◌, ◌++◌, map}
use mathlib.Core.Bool.{true, false, ◌&&◌, true≢false}
use Prim.Native.Nat.{ℕ, zero, suc, ◌<◌}
use native.Mathlib.Omega.{arith}
use native.Mathlib.Nat.{zero-add}
use native.Mathlib.Decide.{dec_lt}
use lib.Dec.{eqb, ltb}
use lib.ListN.{length}
use borrow.Author.Tests.{ltb-true, lt-ltb, le-ltb, eq-eqb, ne_eqb}
use Rattle.laws.specs.Lists.{every, gather, from}
use Rattle.laws.proofs.Lists.{and_l, and_r, and_both, false_and, or_neither, no_true, In, here, in_map, in_made, in_kept, every_in, every_append, every-keep, Ordered, ordered_keep}
use Rattle.laws.proofs.Each.{Each, each_in, each_more, each_map, each_gather, each_from, each_every}
use Rattle.meaning.specs.Plan.{Campaign, bit, allows, allowed, keeps_rule, lawful, steps_of, plans, after}
use Rattle.meaning.proofs.Sound.{in_steps}

-- ---- dictionary order
pub after_irrefl : (a : List ℕ) → after a a ≡ false
after_irrefl [] = refl
after_irrefl (u ∷ a) = rw (le-ltb u u (omega arith), eq-eqb u u refl) (after_irrefl a)

data Behind (u v : ℕ) (s p : List ℕ) : Type 0 where
  less : u < v → Behind u v s p
  same : u ≡ v → after s p ≡ true → Behind u v s p

split : (u v : ℕ) (s p : List ℕ) → after (u ∷ s) (v ∷ p) ≡ true → Behind u v s p
split u v s p e = elim (dec_lt u v) [
  | yes h ↦ less h
  | no f ↦ elim (dec_lt v u) [
    | yes h ↦
        let more : ltb u v ≡ false = le-ltb u v (omega arith) in
        let other : eqb u v ≡ false = ne_eqb u v (λ d. omega arith) in
        let is : after (u ∷ s) (v ∷ p) ≡ false = or_neither (ltb u v) (eqb u v && after s p) more (false_and (eqb u v) (after s p) other) in
        absurd (true≢false (sym e ∙ is))
    | no g ↦ let d : u ≡ v = omega arith in same d (rw (le-ltb u v (omega arith), eq-eqb u v d) at e)
  ]
]

joined : {u v : ℕ} {s p : List ℕ} → Behind u v s p → after (u ∷ s) (v ∷ p) ≡ true
joined {u} {v} (less h) = rw (lt-ltb u v h)
joined {u} {v} (same e f) = rw (le-ltb u v (omega arith), eq-eqb u v e, f)

pub after_trans : (a b c : List ℕ) → after a b ≡ true → after b c ≡ true → after a c ≡ true
after_trans [] [] c e f = absurd (true≢false (sym e))
after_trans (u ∷ a) [] c e f = absurd (true≢false (sym e))
after_trans a (v ∷ b) [] e f = absurd (true≢false (sym f))
after_trans [] (v ∷ b) (w ∷ c) e f = refl
after_trans (u ∷ a) (v ∷ b) (w ∷ c) e f = joined (go (split u v a b e) (split v w b c f) (after_trans a b c))
  where
    go : Behind u v a b → Behind v w b c → (after a b ≡ true → after b c ≡ true → after a c ≡ true) → Behind u w a c
    go (less h) (less k) r = less (omega arith)
    go (less h) (same e f) r = less (omega arith)
    go (same e f) (less k) r = less (omega arith)
    go (same e f) (same g h) r = same (e ∙ g) (r f h)

pub after_asym : (a b : List ℕ) → after a b ≡ true → after b a ≡ false
after_asym a b e = no_true (after b a) (λ f. true≢false (sym (after_trans a b a e f) ∙ after_irrefl a))

-- ---- all plans stand in order
below_from : (u v n : ℕ) → u < v → every (ltb u) (from v n) ≡ true
below_from u v zero h = refl
below_from u v (suc n) h = rw (lt-ltb u v h) (below_from u (suc v) n (omega arith))

from_ordered : (v n : ℕ) → Ordered ltb (from v n)
from_ordered v zero = tt
from_ordered v (suc n) = (below_from v (suc v) n (omega arith), from_ordered (suc v) n)

-- what each step of a list, put before each rest, makes
abbrev pub led : List ℕ → List (List ℕ) → List (List ℕ)
led vs rest = gather (λ v. map (λ p. v ∷ p) rest) vs

later_led : (u v : ℕ) (p : List ℕ) (l : List (List ℕ)) → u < v → every (after (u ∷ p)) (map (λ r. v ∷ r) l) ≡ true
later_led u v p [] h = refl
later_led u v p (r ∷ l) h = rw (lt-ltb u v h) (later_led u v p l h)

later_all : (u : ℕ) (p : List ℕ) (rest : List (List ℕ)) (vs : List ℕ) → every (ltb u) vs ≡ true → every (after (u ∷ p)) (led vs rest) ≡ true
later_all u p rest [] e = refl
later_all u p rest (v ∷ vs) e =
    every_append (after (u ∷ p)) (map (λ r. v ∷ r) rest) (led vs rest)
    (later_led u v p rest (ltb-true u v (and_l (ltb u v) (every (ltb u) vs) e)))
    (later_all u p rest vs (and_r (ltb u v) (every (ltb u) vs) e))

same_led : (v : ℕ) (p : List ℕ) (l : List (List ℕ)) → every (after p) l ≡ true → every (after (v ∷ p)) (map (λ r. v ∷ r) l) ≡ true
same_led v p [] e = refl
same_led v p (r ∷ l) e =
    rw (le-ltb v v (omega arith), eq-eqb v v refl, and_l (after p r) (every (after p) l) e) (same_led v p l (and_r (after p r) (every (after p) l) e))

map_ordered : (v : ℕ) (l m : List (List ℕ)) → Ordered after l → Ordered after m → ((p : List ℕ) → every (after (v ∷ p)) m ≡ true) → Ordered after (map (λ r. v ∷ r) l ++ m)
map_ordered v [] m s t h = t
map_ordered v (p ∷ l) m s t h =
    (every_append (after (v ∷ p)) (map (λ r. v ∷ r) l) m (same_led v p l s.0) (h p), map_ordered v l m s.1 t h)

led_ordered : (vs : List ℕ) (rest : List (List ℕ)) → Ordered ltb vs → Ordered after rest → Ordered after (led vs rest)
led_ordered [] rest r s = tt
led_ordered (v ∷ vs) rest r s = map_ordered v rest (led vs rest) s (led_ordered vs rest r.1 s) (λ p. later_all v p rest vs r.0)

pub plans_ordered : (k : ℕ) (ss : List ℕ) → Ordered after (plans k ss)
plans_ordered k [] = (refl, tt)
plans_ordered k (s ∷ ss) = led_ordered (steps_of k s) (plans k ss) (ordered_keep ltb (bit s) (from 0 k) (from_ordered 0 k)) (plans_ordered k ss)

-- ---- every plan is there
pub plans_in : (k : ℕ) (ss p : List ℕ) → allowed k ss p ≡ true → In p (plans k ss)
plans_in k [] [] e = here
plans_in k [] (v ∷ p) e = absurd (true≢false (sym e))
plans_in k (s ∷ ss) [] e = absurd (true≢false (sym e))
plans_in k (s ∷ ss) (v ∷ p) e =
    in_made (λ v. map (λ p. v ∷ p) (plans k ss)) (in_steps k s v (and_l (allows k s v) (allowed k ss p) e))
    (in_map (λ p. v ∷ p) (plans_in k ss p (and_r (allows k s v) (allowed k ss p) e)))

pub lawful_allowed : (q : Campaign) (p : List ℕ) → lawful q p ≡ true → allowed q.steps q.sets p ≡ true
lawful_allowed q p e = and_l (allowed q.steps q.sets p) (every (keeps_rule p) q.rules) e

-- a plan over the sets has a step for each
pub allowed_length : (k : ℕ) (ss p : List ℕ) → allowed k ss p ≡ true → length p ≡ length ss
allowed_length k [] [] e = refl
allowed_length k [] (v ∷ p) e = absurd (true≢false (sym e))
allowed_length k (s ∷ ss) [] e = absurd (true≢false (sym e))
allowed_length k (s ∷ ss) (v ∷ p) e = ap suc (allowed_length k ss p (and_r (allows k s v) (allowed k ss p) e))

-- ---- and each that is there is allowed; so it has a step for each set
steps_allowed : (k s : ℕ) → Each (λ v. allows k s v ≡ true) (steps_of k s)
steps_allowed k s =
    let below : every (λ v. ltb v k) (from 0 k) ≡ true = each_every (λ v. ltb v k) (λ v. v < k) (λ v h. lt-ltb v k h) (from 0 k) (each_from (λ v. v < k) 0 k (λ v h. rw zero-add at h)) in
    each_in (λ v. allows k s v ≡ true) (steps_of k s)
    (λ v m. and_both (ltb v k) (bit s v) (every_in (λ v. ltb v k) (steps_of k s) (every-keep (λ v. ltb v k) (bit s) (from 0 k) below) m) (in_kept (bit s) (from 0 k) m))

pub plans_allowed : (k : ℕ) (ss : List ℕ) → Each (λ p. allowed k ss p ≡ true) (plans k ss)
plans_allowed k [] = (refl, tt)
plans_allowed k (s ∷ ss) =
    let rest = plans k ss in
    each_gather (λ v. allows k s v ≡ true) (λ p. allowed k (s ∷ ss) p ≡ true) (λ v. map (λ p. v ∷ p) rest)
    (λ v h. each_map (λ p. allowed k ss p ≡ true) (λ p. allowed k (s ∷ ss) p ≡ true) (λ p. v ∷ p) (λ p e. and_both (allows k s v) (allowed k ss p) h e) rest (plans_allowed k ss))
    (steps_of k s) (steps_allowed k s)

pub plans_long : (k : ℕ) (ss : List ℕ) → Each (λ p. length p ≡ length ss) (plans k ss)
plans_long k ss = each_more (λ p. allowed k ss p ≡ true) (λ p. length p ≡ length ss) (allowed_length k ss) (plans k ss) (plans_allowed k ss)
