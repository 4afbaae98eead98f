-- Do all running numbers stay within their limit? Whenever the guard does not hold, and it holds for no problem in range.
use mathlib.Core.Path.{◌≡◌, refl, ap}
use mathlib.Core.List.{List, [], ◌∷◌, ◌++◌, map}
use mathlib.Core.Bool.{true, false, not, ◌&&◌}
use Prim.Native.Nat.{ℕ, suc, ◌+◌, ◌*◌, ◌-◌, ◌≤◌, ◌<◌}
use native.Mathlib.Omega.{arith}
use native.Mathlib.Nat.{zero-add, mul-le-mul_right}
use borrow.Author.Tests.{leb-true, le-leb, not-false}
use lib.Dec.{leb}
use lib.ListN.{length}
use lib.IntN.{ℤ, pos, ◌+ℤ◌}
use Rattle.laws.specs.Z.{Within, mul_within}
use Rattle.laws.specs.Lists.{from}
use Rattle.laws.proofs.Lists.{in_from}
use Rattle.laws.proofs.Each.{Each, each_of, each_at, each_append, each_keep, each_from, each_more, each_map, each_unmap, each_every, every_each}
use Rattle.meaning.specs.Plan.{Rule, Campaign, bit, summed, total, steps_of}
use Rattle.meaning.specs.Problem.{step_count, most_slots, limit, Terms, among, sums, Said, Problem, share_of, rule_of, weighed, campaign, Format, version1, in_range}
use Rattle.meaning.specs.Diagram.{Builder, relaxed, restricted, Arcs, built}
use Rattle.meaning.specs.Running.{arcs_numbers, build_numbers, round_numbers, relaxed_numbers, restricted_numbers, leaves, greatest_size, sizes, rule_size, guard}
use Rattle.meaning.proofs.Faultless.{each_size, rising_within, RightTerms, RightLead, RightFields, in_range_lem}
use Rattle.meaning.proofs.Sound.{in_steps}
use Rattle.meaning.proofs.Walks.{fewer_refl}
use Rattle.meaning.proofs.Allowed.{arcs_more, arcs_below, OfSet, built_allowed}
use Rattle.meaning.proofs.Sizes.{added, either, cost_rule, counted, ahead, Bears, Room, start_size, arcs_within, rounds_within}
use Rattle.meaning.proofs.Building.{greatest_in, greatest, step_bears, build_within}

-- ---- a running number outside the limit implies the guard
ahead_sizes : (q : Campaign) (r : Rule) (i : ℕ) (ss : List ℕ) → ahead (greatest q) r i ss ≡ sizes q.steps r.share i ss
ahead_sizes q r i [] = refl
ahead_sizes q r i (s ∷ ss) = ap (λ (n : ℕ). greatest q r i s + n) (ahead_sizes q r (suc i) ss)

module _ (q : Campaign) where
  abbrev guarding : List ℕ
  guarding = sizes q.steps q.price 0 q.sets ∷ map (rule_size q) q.rules

  guard_room : guard q ≡ false → Room q (greatest q) limit start_size 0 q.sets
  guard_room e =
      let all = every_each (λ z. leb z limit) (λ z. z ≤ limit) (λ z. leb-true z limit) guarding (not-false _ e) in
      let rules = each_unmap (λ r. start_size r + ahead (greatest q) r 0 q.sets ≤ limit) (λ z. z ≤ limit) (rule_size q) (λ r l. omega (arith, ahead_sizes q r 0 q.sets)) q.rules all.1 in
      (omega (arith, all.0, ahead_sizes q (cost_rule q) 0 q.sets), rules)

  room_guard : Room q (greatest q) limit start_size 0 q.sets → guard q ≡ false
  room_guard e =
      let cost : sizes q.steps q.price 0 q.sets ≤ limit = omega (arith, e.0, ahead_sizes q (cost_rule q) 0 q.sets) in
      let rules = each_map (λ r. start_size r + ahead (greatest q) r 0 q.sets ≤ limit) (λ z. z ≤ limit) (rule_size q) (λ r l. omega (arith, ahead_sizes q r 0 q.sets)) q.rules e.1 in
      ap not (each_every (λ z. leb z limit) (λ z. z ≤ limit) (λ z. le-leb z limit) guarding (cost, rules))

none_leaves : (zs : List ℤ) → Each (Within limit) zs → leaves zs ≡ false
none_leaves zs h = ap not (each_size limit zs h)

-- all numbers of an operation, whichever builder
pub guarded : (b : Builder) (q : Campaign) (w n : ℕ) (c : ℤ) → guard q ≡ false → leaves (build_numbers b q w ++ round_numbers c q n (built b q w)) ≡ false
guarded b q w n c e =
    let room = guard_room q e in
    let fits = arcs_more (OfSet q.steps) (Bears q (greatest q)) (λ i s v h. step_bears q i s v (in_steps q.steps s v h)) 0 q.sets (built b q w) (built b q w) (fewer_refl (built b q w)) (built_allowed b q w) in
    none_leaves (build_numbers b q w ++ round_numbers c q n (built b q w))
    (each_append (Within limit) (build_numbers b q w) (round_numbers c q n (built b q w)) (build_within q limit b w room)
    (rounds_within q (greatest q) limit c n q.sets (built b q w) fits room))

-- ---- a rule whose shares at n slots are at most so large has room
record HasRoom (n : ℕ) (r : Rule) : Type 0 where
  most : ℕ
  shares : (i v : ℕ) → v < step_count → Within most (r.share i v)
  room : start_size r + n * most ≤ limit

ahead_le : (g : Rule → ℕ → ℕ → ℕ) (r : Rule) (m : ℕ) → ((i s : ℕ) → g r i s ≤ m) → (i : ℕ) (ss : List ℕ) → ahead g r i ss ≤ length ss * m
ahead_le g r m h i [] = omega arith
ahead_le g r m h i (s ∷ ss) = omega (arith, h i s, ahead_le g r m h (suc i) ss)

greatest_le : (m : ℕ) (f : ℕ → ℤ) (l : List ℕ) → Each (λ v. Within m (f v)) l → greatest_size f l ≤ m
greatest_le m f [] h = omega arith
greatest_le m f (v ∷ l) h = omega (arith, h.0.size, greatest_le m f l h.1)

summed_within : (m : ℕ) (f : ℕ → ℕ → ℤ) → ((i v : ℕ) → v < step_count → Within m (f i v)) → (i : ℕ) (v : List ℕ) → Each (λ u. u < step_count) v → Within (length v * m) (summed f i v)
summed_within m f b i [] h = record { size = omega arith }
summed_within m f b i (u ∷ v) h = added (omega arith) (b i u h.0) (summed_within m f b (suc i) v h.1)

-- the bound of a slot: the greatest size over some of the first steps
module _ (few : ℕ → List ℕ) (below : (P : ℕ → Type 0) → ((v : ℕ) → v < step_count → P v) → (s : ℕ) → Each P (few s)) where
  abbrev most_over : Rule → ℕ → ℕ → ℕ
  most_over r i s = greatest_size (r.share i) (few s)

  rules_room : (ss : List ℕ) (rs : List Rule) → Each (HasRoom (length ss)) rs → Each (λ r. start_size r + ahead most_over r 0 ss ≤ limit) rs
  rules_room ss rs h = each_more (HasRoom (length ss)) (λ r. start_size r + ahead most_over r 0 ss ≤ limit) one rs h
    where
      one : (r : Rule) → HasRoom (length ss) r → start_size r + ahead most_over r 0 ss ≤ limit
      one r h =
          let le = ahead_le most_over r h.most (λ i s. greatest_le h.most (r.share i) (few s) (below (λ v. Within h.most (r.share i v)) (h.shares i) s)) 0 ss in
          omega (arith, h.room)

-- ---- problems in range, of any format whose own greatest numbers leave room
-- its greatest cost, total of an among rule and total of a sum rule lie within the limit
pub record LeavesRoom (f : Format) : Type 0 where
  pub costs : most_slots * (f.weight * (step_count - 1)) ≤ limit
  pub amongs : f.among_lead + most_slots ≤ limit
  pub sums : f.sum_lead + most_slots * (f.coefficient * (step_count - 1)) ≤ limit

-- "weight times step", "coefficient times v"
pub weighed_within : (m : ℕ) (c : List ℤ) → Each (Within m) c → (i v : ℕ) → v < step_count → Within (m * (step_count - 1)) (weighed c i v)
weighed_within m c h i v l = mul_within (each_at (Within m) c i (pos 0) (record { size = omega arith }) h) (omega arith)

module _ (f : Format) (l : LeavesRoom f) (n : ℕ) (few : n ≤ most_slots) where
  terms_room : (t : Terms) (lb ub z : ℤ) → RightTerms f n t → RightLead f t z → HasRoom n (record { share = share_of t; lb = lb; ub = ub; start = z })
  terms_room (among s t) lb ub z e h =
      let lead = (rising_within f.among_lead z h).size in
      record {
        most = 1;
        shares = λ i v k. either (bit s v && bit t i) (record { size = omega arith }) (record { size = omega arith });
        room = omega (arith, l.amongs);
      }
  terms_room (sums c) lb ub z e h =
      let m = f.coefficient * (step_count - 1) in
      let lead = h.size in
      record { most = m; shares = weighed_within f.coefficient c e; room = omega (arith, l.sums, mul-le-mul_right m few) }

  rule_room : (r : Said) → RightFields f n r → HasRoom n (rule_of r)
  rule_room r h = terms_room r.terms r.lb r.ub r.lead h.terms h.lead

module _ (f : Format) (l : LeavesRoom f) (p : Problem) (e : in_range f p ≡ true) where
  problem_room : Each (HasRoom (length p.sets)) (counted (campaign p))
  problem_room =
      let n = length p.sets in
      let right = in_range_lem f p e in
      let few = right.head.most in
      let m = f.weight * (step_count - 1) in
      let weights = weighed_within f.weight p.weights right.weights in
      let rules = each_more (RightFields f n) (λ r. HasRoom n (rule_of r)) (rule_room f l n few) p.rules right.rules in
      (record { most = m; shares = weights; room = omega (arith, l.costs, mul-le-mul_right m few) }, each_map (λ r. HasRoom n (rule_of r)) (HasRoom n) rule_of (λ r h. h) p.rules rules)

  pub format_unguarded : guard (campaign p) ≡ false
  format_unguarded =
      room_guard (campaign p) (rules_room (steps_of step_count) (λ P h s. each_keep P (bit s) (from 0 step_count) (each_from P 0 step_count h)) p.sets (counted (campaign p)) problem_room)

  -- the numbers of any arcs whose nodes have a byte for each step, whoever made them
  pub format_arcs : (a : Arcs) → length a ≡ length p.sets → Each (Each (λ bs. length bs ≤ step_count)) a → Each (Within limit) (arcs_numbers (campaign p) a)
  format_arcs a k h =
      let q = campaign p in
      let g : Rule → ℕ → ℕ → ℕ = most_over (λ s. from 0 step_count) (λ P t s. each_from P 0 step_count t) in
      arcs_within q g limit p.sets a
      (arcs_more (λ i s v. v < step_count) (Bears q g) (λ i s v b. each_of (λ r. Within (g r i s) (r.share i v)) (λ r. greatest_in (r.share i) (rw zero-add at (in_from 0 step_count v b))) (counted q)) 0 p.sets a a (fewer_refl a) (arcs_below step_count 0 p.sets a k h))
      (rules_room (λ s. from 0 step_count) (λ P t s. each_from P 0 step_count t) p.sets (counted q) problem_room)

  -- what any steps add up to, as a walk carries them: each rule's total and the cost, of no more steps than there are slots
  pub format_plans : (i : ℕ) (v : List ℕ) → Each (λ u. u < step_count) v → length v ≤ length p.sets → Each (λ r. Within limit (r.start +ℤ total r i v)) (counted (campaign p))
  format_plans i v h k = each_more (HasRoom (length p.sets)) (λ r. Within limit (r.start +ℤ total r i v)) one (counted (campaign p)) problem_room
    where
      one : (r : Rule) → HasRoom (length p.sets) r → Within limit (r.start +ℤ total r i v)
      one r m =
          let fits : start_size r + length v * m.most ≤ limit = omega (arith, m.room, mul-le-mul_right m.most k) in
          let starts : Within (start_size r) r.start = record { size = omega arith } in
          added fits starts (summed_within m.most r.share m.shares i v h)

-- ---- version 1
version1_room : LeavesRoom version1
version1_room = record { costs = omega arith; amongs = omega arith; sums = omega arith }

pub in_range_unguarded : (p : Problem) → in_range version1 p ≡ true → guard (campaign p) ≡ false
in_range_unguarded p e = format_unguarded version1 version1_room p e

-- "a running number .. would leave ±2,000,000": of a problem in range none does
pub ranges : (p : Problem) (w n : ℕ) (c : ℤ) → in_range version1 p ≡ true → (leaves (relaxed_numbers (campaign p) w n c) ≡ false) × (leaves (restricted_numbers (campaign p) w) ≡ false)
ranges p w n c e = let g = in_range_unguarded p e in (guarded relaxed (campaign p) w n c g, guarded restricted (campaign p) w 0 (pos 0) g)
