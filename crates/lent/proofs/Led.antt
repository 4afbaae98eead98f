-- Do the costs up lead to the cheapest path that is first in dictionary order? They do, and each step of it is there to be taken.
use mathlib.Core.Path.{◌≡◌, refl, sym, ◌∙◌, ap, subst}
use mathlib.Core.List.{List, [], ◌∷◌}
use mathlib.Core.Bool.{Bool, true, false, cond, true≢false}
use mathlib.Core.Option.{Option, none, some, none-ne-some, some-injective}
use mathlib.Core.Logic.{◌⊎◌, inl, inr, ⊎_elim}
use Prim.Native.Nat.{ℕ, zero, suc, ◌+◌, ◌-◌, ◌≤◌, ◌<◌}
use native.Mathlib.Omega.{arith}
use native.Mathlib.Nat.{zero-add}
use native.Mathlib.Numerals.{add-one}
use native.Mathlib.Decide.{dec_lt}
use borrow.Author.Tests.{lt-ltb, le-ltb, eq-eqb}
use lib.ListN.{length, get_or, drop, get_or-map}
use lib.Seq.{drop-cons}
use lib.IntN.{ℤ, ◌+ℤ◌}
use lib.Signed.{le_z, ◌≤ℤ◌}
use Rattle.laws.specs.Z.{zarith, sum, eq_z, eq_z→, eq_z_refl}
use Rattle.laws.proofs.Lists.{In, in_keep, in_kept, place_there, Ordered, ordered_keep}
use Rattle.meaning.specs.Plan.{Campaign, plans, after, cheapest}
use Rattle.meaning.specs.Diagram.{State, Arcs}
use Rattle.meaning.specs.Filter.{Numbers, meet, over, up_arc, up_node, ups, node_count, restricted_arcs}
use Rattle.meaning.specs.Bound.{walks, is_path, paths, shown}
use Rattle.meaning.proofs.Sound.{totals}
use Rattle.meaning.proofs.Walks.{next, byte_there, node_there}
use Rattle.meaning.proofs.Keeps.{Cover, prices, ups_cover}
use Rattle.meaning.proofs.Order.{after_asym, plans_ordered, plans_in}
use Rattle.meaning.proofs.Allowed.{Allowed, restricted_allowed, path_allowed}
use Rattle.meaning.proofs.Attains.{source_up}
use Rattle.meaning.proofs.Cheapest.{Cheapest, some_cheapest, cheapest_is}
use Rattle.lent.proofs.Places.{ups_long}
use Rattle.lent.specs.Led.{cost_is, cost_of, reaches_cost, first_step, led_step, first_ups, led}

-- ---- the first step that reaches a cost
-- the least of two is one of them
meet_other : (z : ℤ) (n m : Numbers) → cost_is z (meet n m) ≡ true → cost_is z n ≡ false → cost_is z m ≡ true
meet_other z none m e f = e
meet_other z (some a) none e f = absurd (true≢false (sym e ∙ f))
meet_other z (some a) (some b) e f = go (le_z a.1 b.1) e
  where
    go : (t : Bool) → eq_z (cond t a.1 b.1) z ≡ true → eq_z b.1 z ≡ true
    go true e = absurd (true≢false (sym e ∙ f))
    go false e = e

module _ (q : Campaign) (i : ℕ) (us : List Numbers) where
  -- from step v on: it is there, reaches z, and none before it does
  record First (z : ℤ) (v : ℕ) (bs : List ℕ) : Type 0 where
    at : ℕ
    is : first_step q i us z v bs ≡ v + at
    on : reaches_cost q i us z (v + at) (get_or bs at 0) ≡ true
    least : (w : ℕ) → reaches_cost q i us z (v + w) (get_or bs w 0) ≡ true → at ≤ w

  first : (z : ℤ) (v : ℕ) (bs : List ℕ) → cost_is z (up_node q i us v bs) ≡ true → First z v bs
  first z v [] e = absurd (true≢false (sym e))
  first z v (b ∷ bs) e = go (reaches_cost q i us z v b) refl (first z (suc v) bs)
    where
      at_first : v + 0 ≡ v
      at_first = omega arith

      at_later : (w : ℕ) → v + suc w ≡ suc v + w
      at_later w = omega arith

      go : (t : Bool) → reaches_cost q i us z v b ≡ t → (cost_is z (up_node q i us (suc v) bs) ≡ true → First z (suc v) bs) → First z v (b ∷ bs)
      go true f r = record { at = 0; is = rw f (sym at_first); on = rw at_first f; least = λ w h. omega arith }
      go false f r =
          let x = r (meet_other z (up_arc q i us v b) (up_node q i us (suc v) bs) e f) in
          record { at = suc x.at; is = rw f (x.is ∙ sym (at_later x.at)); on = rw (at_later x.at) x.on; least = later x }
        where
          later : (x : First z (suc v) bs) (w : ℕ) → reaches_cost q i us z (v + w) (get_or (b ∷ bs) w 0) ≡ true → suc x.at ≤ w
          later x zero h = absurd (true≢false (sym (rw at_first at h) ∙ f))
          later x (suc w) h = omega (arith, x.least w (rw (at_later w) at h))

  -- the same by place, for a loop over the steps
  pub step_stops : (z : ℤ) (bs : List ℕ) (v : ℕ) → v < length bs → reaches_cost q i us z v (get_or bs v 0) ≡ true → first_step q i us z v (drop v bs) ≡ v
  step_stops z bs v h e = rw (drop-cons bs v 0 h, e)

  pub step_goes : (z : ℤ) (bs : List ℕ) (v : ℕ) → v < length bs → reaches_cost q i us z v (get_or bs v 0) ≡ false
      → first_step q i us z v (drop v bs) ≡ first_step q i us z (v + 1) (drop (v + 1) bs)
  step_goes z bs v h e = rw (drop-cons bs v 0 h, e, add-one v)

  -- where an arc that reaches z leads
  record Reached (z : ℤ) (v b : ℕ) : Type 0 where
    to : ℕ
    child : State × ℤ
    byte : b ≡ suc to
    up : get_or us to none ≡ some child
    adds : child.1 +ℤ q.price i v ≡ z

  reached : (z : ℤ) (v b : ℕ) → reaches_cost q i us z v b ≡ true → Reached z v b
  reached z v zero e = absurd (true≢false (sym e))
  reached z v (suc k) e = go (get_or us k none) refl e
    where
      go : (n : Numbers) → get_or us k none ≡ n → cost_is z (over q i v n) ≡ true → Reached z v (suc k)
      go none f e = absurd (true≢false (sym e))
      go (some c) f e = record { to = k; child = c; byte = refl; up = f; adds = eq_z→ (c.1 +ℤ q.price i v) z e }

-- ---- one step
-- the up numbers of all layers, by place
pub ups_at : (q : Campaign) (i : ℕ) (a : Arcs) (j : ℕ) → j ≤ length a → get_or (ups q i a) j [] ≡ first_ups q (i + j) (drop j a)
ups_at q i a zero h = let o : i + 0 ≡ i = omega arith in rw o
ups_at q i [] (suc j) h = absurd (omega arith)
ups_at q i (l ∷ ls) (suc j) h = let o : i + suc j ≡ suc i + j = omega arith in rw o (ups_at q (suc i) ls j (omega arith))

own_cost : (n : Numbers) {u : State × ℤ} → n ≡ some u → cost_is u.1 n ≡ true
own_cost n {u} e = rw e (eq_z_refl u.1)

-- from node k of layer i, whose arcs are l, where the node has the up numbers u: the arc is there, and its child has up numbers again
pub record Step (q : Campaign) (i : ℕ) (l : List (List ℕ)) (ls : Arcs) (k : ℕ) (u : State × ℤ) : Type 0 where
  pub step : ℕ
  pub to : ℕ
  pub child : State × ℤ
  pub is : led_step q i (first_ups q (suc i) ls) (get_or l k []) ≡ step
  pub on : led q i (l ∷ ls) k ≡ step ∷ led q (suc i) ls to
  pub there : k < length l
  pub within : step < length (get_or l k [])
  pub byte : get_or (get_or l k []) step 0 ≡ suc to
  pub below : to < node_count ls
  pub up : get_or (first_ups q (suc i) ls) to none ≡ some child
  pub adds : child.1 +ℤ q.price i step ≡ u.1
  pub first : (v : ℕ) → reaches_cost q i (first_ups q (suc i) ls) u.1 v (get_or (get_or l k []) v 0) ≡ true → step ≤ v

pub node_step : (q : Campaign) (i : ℕ) (l : List (List ℕ)) (ls : Arcs) (k : ℕ) {u : State × ℤ} → get_or (first_ups q i (l ∷ ls)) k none ≡ some u → Step q i l ls k u
node_step q i l ls k {u} e =
    let us = first_ups q (suc i) ls in
    let bs = get_or l k [] in
    let own : up_node q i us 0 bs ≡ some u = sym (get_or-map (up_node q i us 0) l k []) ∙ e in
    let x = first q i us u.1 0 bs (own_cost (up_node q i us 0 bs) own) in
    let r = reached q i us u.1 x.at (get_or bs x.at 0) (rw zero-add at x.on) in
    let is : led_step q i us bs ≡ x.at = ap (λ n. first_step q i us (cost_of n) 0 bs) own ∙ x.is ∙ zero-add x.at in
    let place : get_or bs (led_step q i us bs) 0 - 1 ≡ r.to = rw is (omega (arith, r.byte)) in
    let below : r.to < length us = place_there us r.to none (λ z. none-ne-some r.child (sym z ∙ r.up)) in
    record {
      step = x.at;
      to = r.to;
      child = r.child;
      is = is;
      on = λ d. is d ∷ led q (suc i) ls (place d);
      there = node_there l k x.at r.byte;
      within = byte_there bs x.at r.byte;
      byte = r.byte;
      below = rw (ups_long q (suc i) ls) at below;
      up = r.up;
      adds = r.adds;
      first = λ v h. x.least v (rw (zero-add v) h);
    }

-- ---- what is led is a walk of the node's own cost
record Leads (q : Campaign) (i : ℕ) (a : Arcs) (k : ℕ) (z : ℤ) : Type 0 where
  walk : walks a k (led q i a k) ≡ true
  costs : prices q i (led q i a k) ≡ z

leads : (q : Campaign) (i : ℕ) (a : Arcs) (k : ℕ) {u : State × ℤ} → get_or (first_ups q i a) k none ≡ some u → Leads q i a k u.1
leads q i [] zero {u} e = record { walk = refl; costs = ap (λ n. n.1) (some-injective _ u e) }
leads q i [] (suc k) {u} e = absurd (none-ne-some u e)
leads q i (l ∷ ls) k {u} e =
    let s = node_step q i l ls k e in
    let r = leads q (suc i) ls s.to s.up in
    let y = q.price i s.step in
    record { walk = ap (walks (l ∷ ls) k) s.on ∙ rw s.byte r.walk; costs = ap (prices q i) s.on ∙ rw r.costs (swapped y s.child.1 s.adds) }
  where
    swapped : (y c : ℤ) → c +ℤ y ≡ u.1 → y +ℤ c ≡ u.1
    swapped y c e = omega (zarith, sum y c, sum c y)

-- ---- a walk of that cost is what is led, or stands after it
-- its first arc reaches the cost, and it goes on at the child's own cost
record Tight (q : Campaign) (i : ℕ) (l : List (List ℕ)) (ls : Arcs) (k : ℕ) (u : State × ℤ) (v : ℕ) (p : List ℕ) : Type 0 where
  to : ℕ
  child : State × ℤ
  byte : get_or (get_or l k []) v 0 ≡ suc to
  on : walks ls to p ≡ true
  up : get_or (first_ups q (suc i) ls) to none ≡ some child
  costs : prices q (suc i) p ≡ child.1
  reach : reaches_cost q i (first_ups q (suc i) ls) u.1 v (get_or (get_or l k []) v 0) ≡ true

-- no walk costs less than the node
walk_least : (q : Campaign) (i : ℕ) (a : Arcs) (k : ℕ) {u : State × ℤ} (p : List ℕ) → get_or (first_ups q i a) k none ≡ some u → walks a k p ≡ true → u.1 ≤ℤ prices q i p
walk_least q i a k p e w = (subst (λ (n : Numbers). Cover n (totals q.rules i p) (prices q i p)) e (ups_cover q i a k p w)).1

tight : (q : Campaign) (i : ℕ) (l : List (List ℕ)) (ls : Arcs) (k : ℕ) {u : State × ℤ} (v : ℕ) (p : List ℕ) → get_or (first_ups q i (l ∷ ls)) k none ≡ some u
    → walks (l ∷ ls) k (v ∷ p) ≡ true → prices q i (v ∷ p) ≡ u.1 → Tight q i l ls k u v p
tight q i l ls k {u} v p e w c =
    let n = next (λ j. walks ls j p) (get_or (get_or l k []) v 0) w in
    go n.to n.byte n.on (get_or us n.to none) refl (ups_cover q (suc i) ls n.to p n.on)
  where
    us : List Numbers
    us = first_ups q (suc i) ls

    go : (j : ℕ) → get_or (get_or l k []) v 0 ≡ suc j → walks ls j p ≡ true → (n : Numbers) → get_or us j none ≡ n → Cover (get_or us j none) (totals q.rules (suc i) p) (prices q (suc i) p) → Tight q i l ls k u v p
    go j b on none f h = absurd (rw f at h)
    go j b on (some x) f h =
        let y = q.price i v in
        let z = prices q (suc i) p in
        let low : x.1 ≤ℤ z = walk_least q (suc i) ls j p f on in
        let r = leads q (suc i) ls j f in
        let best : u.1 ≤ℤ (y +ℤ x.1) = rw r.costs at (walk_least q i (l ∷ ls) k (v ∷ led q (suc i) ls j) e (rw b r.walk)) in
        let sums : x.1 +ℤ y ≡ u.1 = omega (zarith, sum y z, sum y x.1, sum x.1 y) in
        record {
          to = j;
          child = x;
          byte = b;
          on = on;
          up = f;
          costs = omega (zarith, sum y z, sum y x.1);
          reach = rw (b, f, sums) (eq_z_refl u.1);
        }

-- p is b, or stands after it
abbrev NotBefore : List ℕ → List ℕ → Type 0
NotBefore b p = (p ≡ b) ⊎ (after b p ≡ true)

not_before : (u v : ℕ) (b p : List ℕ) → u ≤ v → (u ≡ v → NotBefore b p) → NotBefore (u ∷ b) (v ∷ p)
not_before u v b p h r = elim (dec_lt u v) [
  | yes l ↦ inr (rw (lt-ltb u v l))
  | no f ↦
      let e : u ≡ v = omega arith in
      ⊎_elim (λ d. inl (λ j. sym e j ∷ d j)) (λ a. inr (rw (le-ltb u v (omega arith), eq-eqb u v e, a))) (r e)
]

led_first : (q : Campaign) (i : ℕ) (a : Arcs) (k : ℕ) {u : State × ℤ} (p : List ℕ) → get_or (first_ups q i a) k none ≡ some u → walks a k p ≡ true → prices q i p ≡ u.1
    → NotBefore (led q i a k) p
led_first q i [] k [] e w c = inl refl
led_first q i [] k (v ∷ p) e w c = absurd (true≢false (sym w))
led_first q i (l ∷ ls) k [] e w c = absurd (true≢false (sym w))
led_first q i (l ∷ ls) k (v ∷ p) e w c =
    let s = node_step q i l ls k e in
    let t = tight q i l ls k v p e w c in
    let rest = led_first q (suc i) ls t.to p t.up t.on t.costs in
    let place : s.step ≡ v → t.to ≡ s.to = λ same. let b = ap (λ (v : ℕ). get_or (get_or l k []) v 0) same in omega (arith, s.byte, t.byte) in
    subst (λ (b : List ℕ). NotBefore b (v ∷ p)) (sym s.on)
    (not_before s.step v (led q (suc i) ls s.to) p (s.first v t.reach) (λ same. subst (λ (j : ℕ). NotBefore (led q (suc i) ls j) p) (place same) rest))

-- ---- the cheapest of all paths
-- no other plan is the cheapest, and the first of these
cheapest_one : (q : Campaign) (ps : List (List ℕ)) (b : List ℕ) → Ordered after ps → Cheapest q ps b → cheapest q ps ≡ some b
cheapest_one q ps b o h = go (cheapest q ps) refl
  where
    same : (c : List ℕ) → Cheapest q ps c → c ≡ b
    same c k =
        let l = h.least c k.one in
        let m = k.least b h.one in
        ⊎_elim (λ e. e) (λ x. ⊎_elim (λ e. sym e) (λ y. absurd (true≢false (sym y ∙ after_asym b c x))) (k.first b h.one (omega zarith))) (h.first c k.one (omega zarith))

    go : (n : Option (List ℕ)) → cheapest q ps ≡ n → cheapest q ps ≡ some b
    go none e = absurd (some_cheapest q ps h.one e)
    go (some c) e = e ∙ ap some (same c (cheapest_is q ps o c e))

module _ (q : Campaign) (a : Arcs) where
  ordered : Ordered after (paths q a)
  ordered = ordered_keep after (is_path a) (plans q.steps q.sets) (plans_ordered q.steps q.sets)

  path : {p : List ℕ} → In p (paths q a) → is_path a p ≡ true
  path h = in_kept (is_path a) (plans q.steps q.sets) h

  pub led_shown : Allowed q a → {u : State × ℤ} → source_up q a ≡ some u → cheapest q (paths q a) ≡ some (led q 0 a 0)
  led_shown al {u} e =
      let b = led q 0 a 0 in
      let x = leads q 0 a 0 e in
      cheapest_one q (paths q a) b ordered (record {
        one = in_keep (is_path a) x.walk (plans_in q.steps q.sets b (path_allowed q a b al x.walk));
        least = λ p h. rw x.costs (walk_least q 0 a 0 p e (path h));
        first = λ p h c. led_first q 0 a 0 p e (path h) (c ∙ x.costs);
      })

  pub led_none : source_up q a ≡ none → cheapest q (paths q a) ≡ none
  led_none e = go (cheapest q (paths q a)) refl
    where
      go : (n : Option (List ℕ)) → cheapest q (paths q a) ≡ n → cheapest q (paths q a) ≡ none
      go none f = f
      go (some p) f = absurd (subst (λ (n : Numbers). Cover n (totals q.rules 0 p) (prices q 0 p)) e (ups_cover q 0 a 0 p (path (cheapest_is q (paths q a) ordered p f).one)))

-- of the restricted diagram: the plan shown
pub shown_led : (q : Campaign) (w : ℕ) {u : State × ℤ} → source_up q (restricted_arcs q w) ≡ some u → shown q w ≡ some (led q 0 (restricted_arcs q w) 0)
shown_led q w e = led_shown q (restricted_arcs q w) (restricted_allowed q w) e

pub shown_none : (q : Campaign) (w : ℕ) → source_up q (restricted_arcs q w) ≡ none → shown q w ≡ none
shown_none q w e = led_none q (restricted_arcs q w) e
