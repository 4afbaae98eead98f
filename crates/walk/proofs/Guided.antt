-- Does the recursion lose a plan where it turns back by the numbers in the cells?
use mathlib.Core.Path.{◌≡◌, refl, sym, ◌∙◌, ap, subst}
use mathlib.Core.List.{List, [], ◌∷◌, map}
use mathlib.Core.Bool.{Bool, true, false, not, ◌&&◌, cond, true≢false}
use mathlib.Core.Option.{none, some, none-ne-some}
use Prim.Native.Nat.{ℕ, zero, suc, ◌+◌, ◌*◌, ◌-◌, ◌≤◌, ◌<◌}
use native.Mathlib.Omega.{arith}
use native.Mathlib.Nat.{zero-add, add-mul, mul_assoc, mul_comm}
use borrow.Author.Tests.{eqb-true, eqb-false, eq-eqb, lt-ltb}
use lib.Dec.{eqb, ltb}
use lib.ListN.{length, get_or, take, drop, drop_of_length-le}
use lib.Seq.{length-take-le, get_or-take, get_or-drop}
use lib.IntN.{ℤ, pos, ◌+ℤ◌, ◌-ℤ◌, ◌*ℤ◌}
use lib.Signed.{le_z}
use Rattle.laws.specs.Z.{zarith, sum}
use Rattle.laws.specs.Lists.{keep, from, parted}
use Rattle.laws.proofs.Lists.{and_l, and_r, and_both, no_true, every_in, in_from, keep_none}
use Rattle.laws.proofs.Each.{Each, each_at, each_from, each_every}
use Rattle.laws.proofs.Filled.{take_within, get_or-parted}
use Rattle.meaning.specs.Plan.{Rule, Campaign, slots, bit, allows, summed, total, plans}
use Rattle.meaning.specs.Diagram.{State, Arcs}
use Rattle.meaning.specs.Filter.{Numbers, zeros, node_count, up_numbers}
use Rattle.meaning.specs.Bound.{walks, arc_at}
use Rattle.meaning.specs.Buffers.{node_need, of_form}
use Rattle.meaning.proofs.Sound.{Wider, totals as totals_of}
use Rattle.meaning.proofs.Keeps.{Cover, prices, ups_cover}
use Rattle.lent.specs.Lanes.{zipped, sums}
use Rattle.lent.specs.Led.{first_ups}
use Rattle.lent.proofs.Led.{ups_at}
use Rattle.lent.proofs.Whole.{Whole, layers_long, layer_at, bytes_whole, down_first, up_last}
use Rattle.lent.proofs.Brings.{has_not, has_some, arc_brings}
use Rattle.slot.specs.Rows.{lanes_of}
use Rattle.walk.specs.Beginnings.{keeps_from, fits, behind, rests, Walkable, Steers, Stands, first_of, is_open}
use Rattle.step.specs.Steps.{may_keep, with_shares}
use Rattle.walk.proofs.Rests.{added, onto, step_rests}
use Rattle.walk.proofs.Nodes.{origin, down_of, up_of, low_up, high_up, cost_up}

-- ---- totals with the shares of a step
added_sums : (rs : List Rule) (i v : ℕ) (ts : List ℤ) → added rs i v ts ≡ sums ts (map (λ r. r.share i v) rs)
added_sums [] i v [] = refl
added_sums [] i v (t ∷ ts) = refl
added_sums (r ∷ rs) i v [] = refl
added_sums (r ∷ rs) i v (t ∷ ts) = ap (λ (l : List ℤ). (t +ℤ r.share i v) ∷ l) (added_sums rs i v ts)

added_long : (rs : List Rule) (i v : ℕ) (ts : List ℤ) → length ts ≡ length rs → length (added rs i v ts) ≡ length rs
added_long [] i v ts e = refl
added_long (r ∷ rs) i v [] e = absurd (omega arith)
added_long (r ∷ rs) i v (t ∷ ts) e = ap suc (added_long rs i v ts (omega arith))

take-zipped : (f : ℤ → ℤ → ℤ) (n : ℕ) (xs ys : List ℤ) → take n (zipped f xs ys) ≡ zipped f (take n xs) (take n ys)
take-zipped f zero xs ys = refl
take-zipped f (suc n) [] ys = refl
take-zipped f (suc n) (x ∷ xs) [] = refl
take-zipped f (suc n) (x ∷ xs) (y ∷ ys) = ap (λ (l : List ℤ). f x y ∷ l) (take-zipped f n xs ys)

-- ---- the test of a rule: its total t, what can still be added at least and at most
abbrev rule_test : ℤ → ℤ → ℤ → ℤ → ℤ → Bool
rule_test t low high lb ub = le_z (t +ℤ low) ub && le_z lb (t +ℤ high)

-- a rest that keeps every rule passes it at each, where the numbers ahead are around the rest
keeps_test : (rs : List Rule) (i : ℕ) (ts : List ℤ) (us : State) (p : List ℕ) → length ts ≡ length rs → Wider us (totals_of rs i p) → keeps_from rs i ts p ≡ true → (r : ℕ) → r < length rs
    → rule_test (get_or ts r (pos 0)) (get_or us r origin).0 (get_or us r origin).1 (get_or (map (λ r. r.lb) rs) r (pos 0)) (get_or (map (λ r. r.ub) rs) r (pos 0)) ≡ true
keeps_test [] i ts us p e w k r b = absurd (omega arith)
keeps_test (x ∷ rs) i [] us p e w k r b = absurd (omega arith)
keeps_test (x ∷ rs) i (t ∷ ts) [] p e w k r b = absurd w
keeps_test (x ∷ rs) i (t ∷ ts) (u ∷ us) p e w k zero b =
    let z = total x i p in
    let own = and_l (le_z x.lb (t +ℤ z) && le_z (t +ℤ z) x.ub) (keeps_from rs i ts p) k in
    let lo : le_z x.lb (t +ℤ z) ≡ true = and_l (le_z x.lb (t +ℤ z)) (le_z (t +ℤ z) x.ub) own in
    let hi : le_z (t +ℤ z) x.ub ≡ true = and_r (le_z x.lb (t +ℤ z)) (le_z (t +ℤ z) x.ub) own in
    let low : le_z (t +ℤ u.0) x.ub ≡ true = omega (zarith, w.0.low, sum t z, sum t u.0) in
    let high : le_z x.lb (t +ℤ u.1) ≡ true = omega (zarith, w.0.high, sum t z, sum t u.1) in
    and_both (le_z (t +ℤ u.0) x.ub) (le_z x.lb (t +ℤ u.1)) low high
keeps_test (x ∷ rs) i (t ∷ ts) (u ∷ us) p e w k (suc r) b =
    let z = total x i p in
    keeps_test rs i ts us p (omega arith) w.1 (and_r (le_z x.lb (t +ℤ z) && le_z (t +ℤ z) x.ub) (keeps_from rs i ts p) k) r (omega arith)

-- at the sink, where nothing can be added, the tests say that the totals keep every rule
test_keeps : (rs : List Rule) (i : ℕ) (ts : List ℤ)
    → ((r : ℕ) → r < length rs → rule_test (get_or ts r (pos 0)) (get_or (map (λ r. origin) rs) r origin).0 (get_or (map (λ r. origin) rs) r origin).1 (get_or (map (λ r. r.lb) rs) r (pos 0)) (get_or (map (λ r. r.ub) rs) r (pos 0)) ≡ true)
    → keeps_from rs i ts [] ≡ true
test_keeps [] i ts h = refl
test_keeps (x ∷ rs) i [] h = refl
test_keeps (x ∷ rs) i (t ∷ ts) h =
    let z = t +ℤ pos 0 in
    let own = h 0 (omega arith) in
    and_both (le_z x.lb z && le_z z x.ub) (keeps_from rs i ts [])
    (and_both (le_z x.lb z) (le_z z x.ub) (and_r (le_z z x.ub) (le_z x.lb z) own) (and_l (le_z z x.ub) (le_z x.lb z) own))
    (test_keeps rs i ts (λ r b. h (suc r) (omega arith)))

-- ---- tests
not-true : (t : Bool) → not t ≡ true → t ≡ false
not-true true e = absurd (true≢false (sym e))
not-true false e = refl

either_way : {A : Type 0} (t : Bool) (x : A) → cond t x x ≡ x
either_way true x = refl
either_way false x = refl

module _ (q : Campaign) (a : Arcs) (n m w : ℕ) (sets : List ℕ) (weights lb ub coefs : List ℤ) (values arcs : List ℕ) (cells : List ℤ) (g : Walkable n m w weights coefs arcs cells) (e : Steers q a n m w sets weights lb ub coefs values arcs cells) where
  -- ---- the arcs
  arcs_of : a ≡ map (parted w 8) (parted n (w * 8) arcs)
  arcs_of = e.arcs_are ∙ (λ t. map (parted w (e.eight t)) (parted (e.slots_are t) (w * e.eight t) arcs))

  pub length-a : length a ≡ slots q
  length-a = ap length arcs_of ∙ layers_long n w arcs ∙ sym e.slots_are

  whole : Whole w a
  whole =
      let long : length arcs ≡ n * (w * 8) = g.bytes ∙ mul_assoc 8 n w ∙ mul_comm 8 (n * w) ∙ mul_assoc n w 8 in
      subst (Whole w) (sym arcs_of) (bytes_whole n w arcs g.slots_few g.nodes_few long (subst (λ (x : Arcs). of_form w x ≡ true) arcs_of e.formed))

  -- the byte of an arc
  pub byte_is : (i j v : ℕ) → i < n → j < w → v < 8 → arc_at a i j v ≡ get_or arcs ((i * w + j) * 8 + v) 0
  byte_is i j v hi hj hv =
      let layer : get_or a i [] ≡ parted w 8 (take (w * 8) (drop (i * (w * 8)) arcs)) = ap (λ (x : Arcs). get_or x i []) arcs_of ∙ layer_at n w arcs i hi in
      let room : j * 8 + 8 ≤ w * 8 = omega arith in
      let place : i * (w * 8) + (j * 8 + v) ≡ (i * w + j) * 8 + v = rw (add-mul (i * w) j 8, mul_assoc i w 8) (omega arith) in
      let bs = drop (i * (w * 8)) arcs in
      ap (λ (l : List (List ℕ)). get_or (get_or l j []) v 0) layer
      ∙ ap (λ (l : List ℕ). get_or l v 0) (get_or-parted w 8 j (take (w * 8) bs) hj ∙ take_within (j * 8) 8 (w * 8) bs room)
      ∙ get_or-take 8 (drop (j * 8) bs) v 0 hv ∙ get_or-drop (j * 8) bs v 0 ∙ get_or-drop (i * (w * 8)) arcs (j * 8 + v) 0
      ∙ ap (λ (x : ℕ). get_or arcs x 0) place

  -- ---- the totals
  pub long : (totals : List ℤ) → length totals ≡ 8 → length (take m totals) ≡ length q.rules
  long totals h = length-take-le m totals (omega (arith, g.rules_few)) ∙ sym e.rules_are

  -- ---- at the source
  pub begins : 0 < n → (c : ℤ) (ts : List ℤ) → Stands q a 0 0 ts c
  begins h c ts = record {
    reached = λ z. none-ne-some _ (sym z ∙ ap (λ (l : List Numbers). get_or l 0 none) (down_first q a));
    ends = λ z. absurd (omega (arith, e.slots_are));
  }

  -- ---- step v at node j of layer i
  module _ (i j v : ℕ) (totals : List ℤ) (c : ℤ) (eight : length totals ≡ 8) (hi : i < n) (hj : j < w) (hv : v < 8) where
    abbrev byte : ℕ
    byte = get_or arcs ((i * w + j) * 8 + v) 0

    abbrev rest : ℤ
    rest = c -ℤ get_or weights i (pos 0) *ℤ pos v

    abbrev opens : Bool
    opens = is_open m (get_or sets i 0) v byte ((i + 1) * w) cells rest

    abbrev at : ℕ
    at = ((i + 1) * w + byte - 1) * (4 * m + 3)

    abbrev here : List ℤ
    here = with_shares coefs values i v totals

    -- the totals behind the step are the campaign's
    here_is : added q.rules i v (take m totals) ≡ take m here
    here_is =
        let lanes = lanes_of (take 8 (drop (i * 8) coefs)) (take 8 (drop (i * 8) values)) v in
        added_sums q.rules i v (take m totals) ∙ ap (sums (take m totals)) (e.shares_are i v hi hv) ∙ sym (take-zipped ◌+ℤ◌ m totals lanes)

    here_long : length (take m here) ≡ length q.rules
    here_long = ap length (sym here_is) ∙ added_long q.rules i v (take m totals) (long totals eight)

    set_is : get_or q.sets i 0 ≡ get_or sets i 0
    set_is = ap (λ (l : List ℕ). get_or l i 0) e.sets_are ∙ get_or-take n sets i 0 hi

    -- what is open has an arc of a step that the slot allows
    abbrev costs : Bool
    costs = le_z (get_or cells (((i + 1) * w + byte - 1) * (4 * m + 3) + 4 * m + 2) (pos 0)) rest

    arc_there : eqb byte 0 ≡ false → byte ≡ suc (byte - 1)
    arc_there z = let no = eqb-false byte 0 z in omega arith

    open_arc : opens ≡ true → byte ≡ suc (byte - 1)
    open_arc o = arc_there (not-true (eqb byte 0) (and_l (not (eqb byte 0)) (allows 8 (get_or sets i 0) v && costs) o))

    open_bit : opens ≡ true → bit (get_or sets i 0) v ≡ true
    open_bit o =
        let set = get_or sets i 0 in
        and_r (ltb v 8) (bit set v) (and_l (allows 8 set v) costs (and_r (not (eqb byte 0)) (allows 8 set v && costs) o))

    open_costs : opens ≡ true → costs ≡ true
    open_costs o = let set = get_or sets i 0 in and_r (allows 8 set v) costs (and_r (not (eqb byte 0)) (allows 8 set v && costs) o)

    step_is : (own : Bool) (s : List ℕ) → byte ≡ suc (byte - 1) → bit (get_or sets i 0) v ≡ true
        → step_rests q a i j (take m totals) c own s v ≡ map (λ p. v ∷ p) (rests q a (suc i) (byte - 1) (take m here) rest (own && eqb v (first_of own s)) (drop 1 s))
    step_is own s b y =
        let k = byte - 1 in
        let ts = take m totals in
        let arc : arc_at a i j v ≡ suc k = byte_is i j v hi hj hv ∙ b in
        let price = e.prices_are i v hi hv in
        (λ t. cond (bit (set_is t) v) (onto q a i ts c own s v (arc t)) [])
        ∙ (λ t. cond (y t) (onto q a i ts c own s v (suc k)) [])
        ∙ (λ t. map (λ p. v ∷ p) (rests q a (suc i) k (here_is t) (c -ℤ price t) (own && eqb v (first_of own s)) (drop 1 s)))

    -- an open arc leads on: the rests that begin with the step are the child's
    pub goes : (own : Bool) (s : List ℕ) → opens ≡ true
        → step_rests q a i j (take m totals) c own s v ≡ map (λ p. v ∷ p) (rests q a (suc i) (byte - 1) (take m here) rest (own && eqb v (first_of own s)) (drop 1 s))
    goes own s o = step_is own s (open_arc o) (open_bit o)

    -- ---- the child
    module _ (b : byte ≡ suc (byte - 1)) (st : Stands q a i j (take m totals) c) where
      abbrev k : ℕ
      k = byte - 1

      there : i < length a
      there = omega (arith, length-a, e.slots_are)

      arc : arc_at a i j v ≡ suc k
      arc = byte_is i j v hi hj hv ∙ b

      below : k < node_count (drop (suc i) a)
      below =
          let count = node_count (drop (suc i) a) in
          let most : arc_at a i j v ≤ count = each_at (λ b. b ≤ count) (get_or (get_or a i []) j []) v 0 (omega arith) (each_at (Each (λ b. b ≤ count)) (get_or a i []) j [] tt (whole.full i there).leads) in
          omega (arith, arc)

      few : k < w
      few = omega (arith, each_at (λ b. b ≤ w) arcs ((i * w + j) * 8 + v) 0 (omega arith) g.lead)

      -- arcs lead there
      child_reached : down_of q a (suc i) k ≡ none → ⊥
      child_reached = has_not (arc_brings q a i j v k there below arc (has_some (down_of q a i j) st.reached))

      place : (i + 1) * w + byte - 1 ≡ suc i * w + k
      place =
          let one : i + 1 ≡ suc i = omega arith in
          let row : (i + 1) * w ≡ suc i * w = ap (λ (x : ℕ). x * w) one in
          omega arith

      at_is : at ≡ (suc i * w + k) * node_need q
      at_is t = place t * (4 * sym e.rules_are t + 3)

      -- both numbers there: what the code reads
      module _ {d u : State × ℤ} (f : down_of q a (suc i) k ≡ some d) (h : up_of q a (suc i) k ≡ some u) where
        costs_are : costs ≡ le_z u.1 rest
        costs_are =
            (λ t. le_z (get_or (e.cells_are t) (at_is t + 4 * sym e.rules_are t + 2) (pos 0)) rest)
            ∙ ap (λ (z : ℤ). le_z z rest) (cost_up q a w (suc i) k there few f h)

        abbrev test : ℕ → Bool
        test r = rule_test (get_or here r (pos 0)) (get_or cells (at + 4 * r + 3) (pos 0)) (get_or cells (at + 4 * r + 4) (pos 0)) (get_or lb r (pos 0)) (get_or ub r (pos 0))

        test_is : (r : ℕ) → r < m
            → rule_test (get_or (take m here) r (pos 0)) (get_or u.0 r origin).0 (get_or u.0 r origin).1 (get_or (map (λ r. r.lb) q.rules) r (pos 0)) (get_or (map (λ r. r.ub) q.rules) r (pos 0)) ≡ test r
        test_is r l =
            let rule : r < length q.rules = omega (arith, e.rules_are) in
            let total = get_or-take m here r (pos 0) l in
            let low : get_or cells (at + 4 * r + 3) (pos 0) ≡ (get_or u.0 r origin).0 = (λ t. get_or (e.cells_are t) (at_is t + 4 * r + 3) (pos 0)) ∙ low_up q a w (suc i) k there few f h r rule in
            let high : get_or cells (at + 4 * r + 4) (pos 0) ≡ (get_or u.0 r origin).1 = (λ t. get_or (e.cells_are t) (at_is t + 4 * r + 4) (pos 0)) ∙ high_up q a w (suc i) k there few f h r rule in
            let least = ap (λ (l : List ℤ). get_or l r (pos 0)) e.lbs_are ∙ get_or-take m lb r (pos 0) l in
            let most = ap (λ (l : List ℤ). get_or l r (pos 0)) e.ubs_are ∙ get_or-take m ub r (pos 0) l in
            λ t. rule_test (total t) (sym low t) (sym high t) (least t) (most t)

      -- a rest that fits passes both tests
      record Passes : Type 0 where
        cheap : costs ≡ true
        keeps : may_keep m lb ub cells at here ≡ true

      passes : (p : List ℕ) → fits q (suc i) (drop (suc i) a) k (take m here) rest p ≡ true → Passes
      passes p x = go (down_of q a (suc i) k) (up_of q a (suc i) k) refl refl (subst (λ (us : List Numbers). Cover (get_or us k none) (totals_of q.rules (suc i) p) (prices q (suc i) p)) (sym ups) covers)
        where
          kept : Bool
          kept = keeps_from q.rules (suc i) (take m here) p

          paid : Bool
          paid = le_z (summed q.price (suc i) p) rest

          both : (kept && paid) ≡ true
          both = and_r (walks (drop (suc i) a) k p) (kept && paid) x

          covers : Cover (get_or (first_ups q (suc i) (drop (suc i) a)) k none) (totals_of q.rules (suc i) p) (prices q (suc i) p)
          covers = ups_cover q (suc i) (drop (suc i) a) k p (and_l (walks (drop (suc i) a) k p) (kept && paid) x)

          ups : get_or (up_numbers q a) (suc i) [] ≡ first_ups q (suc i) (drop (suc i) a)
          ups = rw (zero-add (suc i)) at (ups_at q 0 a (suc i) there)

          go : (d u : Numbers) → down_of q a (suc i) k ≡ d → up_of q a (suc i) k ≡ u → Cover (up_of q a (suc i) k) (totals_of q.rules (suc i) p) (prices q (suc i) p) → Passes
          go none u f h y = absurd (child_reached f)
          go (some d) none f h y = absurd (subst (λ (n : Numbers). Cover n (totals_of q.rules (suc i) p) (prices q (suc i) p)) h y)
          go (some d) (some u) f h y =
              let around = subst (λ (n : Numbers). Cover n (totals_of q.rules (suc i) p) (prices q (suc i) p)) h y in
              let price : paid ≡ true = and_r kept paid both in
              let cheap : le_z u.1 rest ≡ true = omega (zarith, around.1) in
              let each = keeps_test q.rules (suc i) (take m here) u.0 p here_long around.0 (and_l kept paid both) in
              record {
                cheap = costs_are f h ∙ cheap;
                keeps = each_every (test f h) (λ r. test f h r ≡ true) (λ r z. z) (from 0 m) (each_from (λ r. test f h r ≡ true) 0 m (λ r l. sym (test_is f h r (omega arith)) ∙ each r (omega (arith, e.rules_are))));
              }

      -- so where one of them fails there is no rest
      no_rest : (own : Bool) (s : List ℕ) → (Passes → ⊥) → rests q a (suc i) k (take m here) rest own s ≡ []
      no_rest own s h = ap (keep (behind own s)) (keep_none (fits q (suc i) (drop (suc i) a) k (take m here) rest) (plans q.steps (drop (suc i) q.sets)) (λ p. no_true (fits q (suc i) (drop (suc i) a) k (take m here) rest p) (λ x. h (passes p x))))

    -- no rest begins with a step that is not open
    pub shut : (own : Bool) (s : List ℕ) → Stands q a i j (take m totals) c → opens ≡ false → step_rests q a i j (take m totals) c own s v ≡ []
    shut own s st o = go (eqb byte 0) (bit (get_or sets i 0) v) refl refl
      where
        go : (t y : Bool) → eqb byte 0 ≡ t → bit (get_or sets i 0) v ≡ y → step_rests q a i j (take m totals) c own s v ≡ []
        go true y f h =
            let arc : arc_at a i j v ≡ 0 = byte_is i j v hi hj hv ∙ eqb-true byte 0 f in
            (λ t. cond (bit (get_or q.sets i 0) v) (onto q a i (take m totals) c own s v (arc t)) []) ∙ either_way (bit (get_or q.sets i 0) v) []
        go false false f h =
            (λ t. cond (bit (set_is t) v) (onto q a i (take m totals) c own s v (arc_at a i j v)) []) ∙ (λ t. cond (h t) (onto q a i (take m totals) c own s v (arc_at a i j v)) [])
        go false true f h =
            let dear : costs ≡ false = rw (f, lt-ltb v 8 hv, h) at o in
            step_is own s (arc_there f) h ∙ ap (map (λ p. v ∷ p)) (no_rest (arc_there f) st (own && eqb v (first_of own s)) (drop 1 s) (λ x. true≢false (sym x.cheap ∙ dear)))

    -- none goes on from a child whose numbers leave a rule broken
    pub cut : (own : Bool) (s : List ℕ) → Stands q a i j (take m totals) c → opens ≡ true → may_keep m lb ub cells at here ≡ false → step_rests q a i j (take m totals) c own s v ≡ []
    cut own s st o h = goes own s o ∙ ap (map (λ p. v ∷ p)) (no_rest (open_arc o) st (own && eqb v (first_of own s)) (drop 1 s) (λ x. true≢false (sym x.keeps ∙ h)))

    -- else the beginning stands at the child
    pub stands : Stands q a i j (take m totals) c → opens ≡ true → may_keep m lb ub cells at here ≡ true → Stands q a (suc i) (byte - 1) (take m here) rest
    stands st o h = record { reached = child_reached b st; ends = λ z. sink z (down_of q a (suc i) (byte - 1)) refl }
      where
        b : byte ≡ suc (byte - 1)
        b = open_arc o

        -- the sink stands at place 0, and nothing can be added there
        first : suc i ≡ length a → byte - 1 ≡ 0
        first z = let one : node_count (drop (suc i) a) ≡ 1 = ap node_count (drop_of_length-le a {i = suc i} (omega arith)) in omega (arith, below b st)

        zero_up : suc i ≡ length a → up_of q a (suc i) (byte - 1) ≡ zeros q
        zero_up z = (λ t. get_or (get_or (up_numbers q a) (z t) []) (first z t) none) ∙ ap (λ (l : List Numbers). get_or l 0 none) (up_last q a)

        sink : suc i ≡ slots q → (d : Numbers) → down_of q a (suc i) (byte - 1) ≡ d → fits q (suc i) [] (byte - 1) (take m here) rest [] ≡ true
        sink z none f = absurd (child_reached b st f)
        sink z (some d) f =
            let last : suc i ≡ length a = z ∙ sym length-a in
            let up = zero_up last in
            let kept = keeps_from q.rules (suc i) (take m here) [] in
            let cheap : le_z (pos 0) rest ≡ true = sym (costs_are b st f up) ∙ open_costs o in
            let keeps : kept ≡ true = test_keeps q.rules (suc i) (take m here) (λ r l.
            let few : r < m = omega (arith, e.rules_are) in
            test_is b st f up r few ∙ every_in (test b st f up) (from 0 m) h (rw (zero-add r) at (in_from 0 m r few))) in
            and_both (eqb (byte - 1) 0) (kept && le_z (pos 0) rest) (eq-eqb (byte - 1) 0 (first last)) (and_both kept (le_z (pos 0) rest) keeps cheap)
