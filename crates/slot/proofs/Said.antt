-- Is what stands in the tables of a problem without fault its campaign's, and is that campaign small enough for lanes?
use mathlib.Core.Path.{◌≡◌, refl, sym, ap, ◌∙◌}
use mathlib.Core.List.{List, [], ◌∷◌, ◌++◌, map}
use mathlib.Core.Bool.{Bool, true, false, ◌&&◌, cond}
use Prim.Native.Nat.{ℕ, zero, suc, ◌+◌, ◌*◌, ◌/◌, ◌%◌, ◌^◌, ◌<◌}
use native.Mathlib.Nat.{zero-add, zero-mul, div-eq_of_lt, one-le-pow, mod-lt}
use native.Mathlib.Omega.{arith}
use borrow.Author.Tests.{eqb-true, eqb-false}
use lib.ListN.{length, get_or, take, drop, length-map, length-take, get_or-map}
use lib.Seq.{get_or-take, take_all}
use lib.IntN.{ℤ, pos, ◌+ℤ◌, ◌*ℤ◌}
use Rattle.laws.specs.Z.{zarith, sum, Within}
use Rattle.laws.specs.Lists.{gather, from, padded}
use Rattle.laws.proofs.Lists.{length_from, get_or-from}
use Rattle.laws.proofs.Each.{Each, each_of, each_at, each_from, each_map, each_gather}
use Rattle.laws.proofs.Filled.{each_padded, take_within, row_padded}
use Rattle.meaning.specs.Plan.{Rule, bit}
use Rattle.meaning.specs.Problem.{version1, share_of, rule_of}
use Rattle.meaning.proofs.Ranges.{weighed_within}
use Rattle.meaning.proofs.Faultless.{RightFields}
use Rattle.problem.specs.declared.Problem.{Problem}
use Rattle.problem.specs.declared.Terms.{Terms}
use Rattle.problem.specs.declared.Terms.TheVariants.{Among, Sum, Neither}
use Rattle.problem.specs.Held.{no_bounds, said_terms, said_at, said, campaign_of, IsSmallAt}
use Rattle.problem.proofs.Faultless.{Right, right_small}
use Rattle.lent.specs.Vec.{slot_vec}
use Rattle.lent.specs.Small.{Small}
use Rattle.lent.proofs.Small.{terms_share}
use Rattle.slot.specs.Rows.{coef_part, value_part, coef_parts, value_parts, lane_of, lanes_of, slot_lanes}
use Rattle.slot.specs.Tables.{coefs_in, weights_in, leasts_of, mosts_of, Tabled}
use Rattle.slot.proofs.Laws.{coefs_long, values_long}

-- ---- lists
module _ {A B C : Type 0} where
  pub map-map : (g : B → C) (f : A → B) (l : List A) → map g (map f l) ≡ map (λ x. g (f x)) l
  map-map g f [] = refl
  map-map g f (x ∷ l) = ap (λ (r : List C). g (f x) ∷ r) (map-map g f l)

module _ {A : Type 0} (f g : ℕ → A) where
  pub map-from : (k n : ℕ) → ((r : ℕ) → r < k + n → f r ≡ g r) → map f (from k n) ≡ map g (from k n)
  map-from k zero h = refl
  map-from k (suc n) h = rw (h k (omega arith)) (ap (λ (l : List A). g k ∷ l) (map-from (suc k) n (λ r b. h r (omega arith))))

-- ---- no rule: no share
no_bit : (v : ℕ) → 0 / 2 ^ v % 2 ≡ 0
no_bit v = ap (λ k. k % 2) (div-eq_of_lt (one-le-pow v 2 (omega arith)))

no_lane : (v : ℕ) → lane_of (pos 0) 0 v ≡ pos 0
no_lane v = rw (zero-mul v, no_bit v)

no_lanes : (n v : ℕ) → lanes_of (padded n (pos 0) []) (padded n 0 []) v ≡ padded n (pos 0) []
no_lanes zero v = refl
no_lanes (suc n) v = rw (no_lane v, no_lanes n v)

lanes_padded : (n v : ℕ) (f : ℕ → ℤ) (g : ℕ → ℕ) (l : List ℕ) → lanes_of (padded n (pos 0) (map f l)) (padded n 0 (map g l)) v ≡ padded n (pos 0) (map (λ r. lane_of (f r) (g r) v) l)
lanes_padded zero v f g l = refl
lanes_padded (suc n) v f g [] = no_lanes (suc n) v
lanes_padded (suc n) v f g (r ∷ l) = ap (λ (m : List ℤ). lane_of (f r) (g r) v ∷ m) (lanes_padded n v f g l)

-- ---- a rule: its share by its parts
bit_lane : (s t v i : ℕ) → lane_of (pos 0) (cond (bit t i) s 0) v ≡ cond (bit s v && bit t i) (pos 1) (pos 0)
bit_lane s t v i = rw (zero-mul v) (go (bit t i) (bit s v) refl)
  where
    go : (a b : Bool) → bit s v ≡ b → pos 0 +ℤ pos (cond a s 0 / 2 ^ v % 2) ≡ cond (b && a) (pos 1) (pos 0)
    go true true e = rw (eqb-true (s / 2 ^ v % 2) 1 e)
    go true false e = let two : 0 < 2 = omega arith in let low : s / 2 ^ v % 2 ≡ 0 = omega (arith, mod-lt (s / 2 ^ v) two, eqb-false (s / 2 ^ v % 2) 1 e) in rw low
    go false true e = rw (no_bit v)
    go false false e = rw (no_bit v)

sum_lane : (c : ℤ) (v : ℕ) → lane_of c 0 v ≡ c *ℤ pos v
sum_lane c v = rw (no_bit v) (omega (zarith, sum (c *ℤ pos v) (pos 0)))

-- of n slots, slot i among them
share_lane : (n i v : ℕ) → i < n → (t : Terms) → lane_of (coef_part i t) (value_part i t) v ≡ share_of (said_terms n t) i v
share_lane n i v h (Among s t) = bit_lane s t v i
share_lane n i v h (Sum c) = rw (get_or-take n c i (pos 0) h) (sum_lane (get_or c i (pos 0)) v)
share_lane n i v h Neither = no_lane v ∙ rw (zero-mul v) refl

-- ---- the problem
module _ (p : Problem) (h : Right version1 p) (i : ℕ) (b : i < p.slots) where
  abbrev weight : ℤ
  weight = get_or p.weights i (pos 0)

  weight_is : get_or (take p.slots p.weights) i (pos 0) ≡ weight
  weight_is = get_or-take p.slots p.weights i (pos 0) b

  pub said_slot : i < 24
  said_slot = omega (arith, h.head.most)

  pub said_weight : Within 10000 weight
  said_weight = rw weight_is at (each_at (Within 10000) (take p.slots p.weights) i (pos 0) (record { size = omega arith }) h.weights)

  abbrev terms_at : ℕ → Terms
  terms_at r = get_or p.terms r Neither

  abbrev coef_of : ℕ → ℤ
  coef_of r = coef_part i (terms_at r)

  abbrev value_of : ℕ → ℕ
  value_of r = value_part i (terms_at r)

  none_within : Within 1000 (pos 0)
  none_within = record { size = omega arith }

  -- the coefficients that count are in range
  coef_small : (t : Terms) → IsSmallAt t i → Within 1000 (coef_part i t)
  coef_small (Among s t) h = none_within
  coef_small (Sum c) h = h
  coef_small Neither h = none_within

  said_coef : (r : ℕ) → r < p.rules → Within 1000 (coef_of r)
  said_coef r l = coef_small (terms_at r) (right_small p r i (h.rule r l) b)

  pub said_coefs : Each (Within 1000) (coef_parts p.rules i p.terms)
  said_coefs =
      each_padded (Within 1000) 8 (pos 0) (map coef_of (from 0 p.rules)) none_within
      (each_map (λ r. r < p.rules) (Within 1000) coef_of said_coef (from 0 p.rules) (each_from (λ r. r < p.rules) 0 p.rules (λ r l. rw (zero-add p.rules) at l)))

  -- the shares by the parts are the campaign's
  pub said_shares : (v : ℕ) → lanes_of (coef_parts p.rules i p.terms) (value_parts p.rules i p.terms) v ≡ padded 8 (pos 0) (map (λ r. r.share i v) (campaign_of p).rules)
  said_shares v =
      let all = from 0 p.rules in
      let share : ℕ → ℤ = λ r. (rule_of (said_at p r)).share i v in
      lanes_padded 8 v coef_of value_of all
      ∙ ap (padded 8 (pos 0))
      (map-from (λ r. lane_of (coef_of r) (value_of r) v) share 0 p.rules
      (λ r l. share_lane p.slots i v b (terms_at r))
      ∙ sym (ap (map (λ (r : Rule). r.share i v)) (map-map rule_of (said_at p) all) ∙ map-map (λ (r : Rule). r.share i v) (λ r. rule_of (said_at p r)) all))

-- ---- its tables
module _ (p : Problem) (h : Right version1 p) {coefs : List ℤ} {values : List ℕ} (t : Tabled p coefs values) where
  pub tabled_coefs : Each (Within 1000) (coefs_in coefs)
  tabled_coefs =
      let parts : ℕ → List ℤ = λ i. coef_parts p.rules i p.terms in
      let all = each_gather (λ i. i < p.slots) (Within 1000) parts (said_coefs p h) (from 0 p.slots) (each_from (λ i. i < p.slots) 0 p.slots (λ i l. rw (zero-add p.slots) at l)) in
      rw t.coefs_are (each_padded (Within 1000) 192 (pos 0) (gather parts (from 0 p.slots)) (record { size = omega arith }) all)

  module _ (i : ℕ) (b : i < p.slots) where
    -- row i of a table of rows of eight
    row_is : {A : Type 0} (z : A) (f : ℕ → List A) → ((k : ℕ) → length (f k) ≡ 8) → (l : List A) → take 192 l ≡ padded 192 z (gather f (from 0 p.slots)) → take 8 (drop (i * 8) l) ≡ f i
    row_is z f wide l e =
        let few = h.head.most in
        let place : get_or (from 0 p.slots) i 0 ≡ i = get_or-from 0 p.slots i b ∙ zero-add i in
        sym (take_within (i * 8) 8 192 l (omega arith))
        ∙ ap (λ r. take 8 (drop (i * 8) r)) e
        ∙ row_padded f 8 wide 192 z (from 0 p.slots) i 8 0 (omega (arith, length_from 0 p.slots)) (omega (arith, length_from 0 p.slots)) (omega arith)
        ∙ take_all 8 (f (get_or (from 0 p.slots) i 0)) (omega (arith, wide (get_or (from 0 p.slots) i 0)))
        ∙ ap f place

    pub coefs_row : take 8 (drop (i * 8) coefs) ≡ coef_parts p.rules i p.terms
    coefs_row = row_is (pos 0) (λ k. coef_parts p.rules k p.terms) (λ k. coefs_long p.rules k p.terms) coefs t.coefs_are

    pub values_row : take 8 (drop (i * 8) values) ≡ value_parts p.rules i p.terms
    values_row = row_is 0 (λ k. value_parts p.rules k p.terms) (λ k. values_long p.rules k p.terms) values t.values_are

    pub tabled_weight : Within 10000 (get_or (weights_in coefs) i (pos 0))
    tabled_weight = rw t.weights_are (said_weight p h i b)

    -- the shares of a step
    pub tabled_shares : (v : ℕ) → lanes_of (take 8 (drop (i * 8) coefs)) (take 8 (drop (i * 8) values)) v ≡ padded 8 (pos 0) (map (λ r. r.share i v) (campaign_of p).rules)
    tabled_shares v = rw (coefs_row, values_row) (said_shares p h i b v)

    -- the row is the campaign's
    pub tabled_row : slot_lanes (take 8 (drop (i * 8) coefs)) (take 8 (drop (i * 8) values)) (get_or (weights_in coefs) i (pos 0)) ≡ slot_vec (campaign_of p) i
    tabled_row =
        let weight : get_or (weights_in coefs) i (pos 0) ≡ get_or (take p.slots p.weights) i (pos 0) = ap (λ l. get_or l i (pos 0)) t.weights_are ∙ sym (weight_is p h i b) in
        λ j. gather (λ v. tabled_shares v j) (from 0 8) ++ map (λ v. weight j *ℤ pos v) (from 0 8)

-- ---- the bounds by their places
module _ (p : Problem) where
  pub leasts_at : (k : ℕ) → get_or (leasts_of p) k (pos 0) ≡ (said_at p k).lb
  leasts_at k = get_or-map (λ b. b.lb) p.bounds k no_bounds

  pub mosts_at : (k : ℕ) → get_or (mosts_of p) k (pos 0) ≡ (said_at p k).ub
  mosts_at k = get_or-map (λ b. b.ub) p.bounds k no_bounds

  pub leasts_long : length p.bounds ≡ 8 → length (leasts_of p) ≡ 8
  leasts_long e = length-map p.bounds (λ b. b.lb) ∙ e

  pub mosts_long : length p.bounds ≡ 8 → length (mosts_of p) ≡ 8
  mosts_long e = length-map p.bounds (λ b. b.ub) ∙ e

-- ---- small enough
pub rules_long : (p : Problem) → length (campaign_of p).rules ≡ p.rules
rules_long p = length-map (map (said_at p) (from 0 p.rules)) rule_of ∙ length-map (from 0 p.rules) (said_at p) ∙ length_from 0 p.rules

pub said_small : (p : Problem) → Right version1 p → Small (campaign_of p)
said_small p h =
    let rules = (said p).rules in
    let right : Each (RightFields version1 p.slots) rules = each_map (λ r. r < p.rules) (RightFields version1 p.slots) (said_at p) (λ r l. (h.rule r l).fields) (from 0 p.rules) (each_from (λ r. r < p.rules) 0 p.rules (λ r l. rw (zero-add p.rules) at l)) in
    record {
      steps = refl;
      slots = omega (arith, length-take p.slots p.sets, h.head.most);
      rules = omega (arith, rules_long p, h.head.rules);
      shares = each_map (RightFields version1 p.slots) (λ r. (i v : ℕ) → v < 8 → Within 7000 (r.share i v)) rule_of (λ r f. terms_share p.slots r.terms f.terms) rules right;
      prices = weighed_within 10000 (take p.slots p.weights) h.weights;
      starts = each_map (λ r. r.lead ≡ pos 0) (λ r. r.start ≡ pos 0) rule_of (λ r e. e) rules (each_map (λ r. Unit {0}) (λ r. r.lead ≡ pos 0) (said_at p) (λ r u. refl) (from 0 p.rules) (each_of (λ r. Unit {0}) (λ r. tt) (from 0 p.rules)));
      bounds = each_map (RightFields version1 p.slots) (λ r. Within 200000 r.lb × Within 200000 r.ub) rule_of (λ r f. (f.low, f.high)) rules right;
    }
