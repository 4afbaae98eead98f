-- Is the least over a slot's steps the span of every rule, and does the table keep the reaches of the layers behind?
use mathlib.Core.Path.{◌≡◌, refl, sym, ap, subst, ◌∙◌}
use mathlib.Core.List.{List, [], ◌∷◌, ◌++◌, map, map-map}
use mathlib.Core.Option.{none, some}
use Prim.Native.Nat.{ℕ, zero, suc, ◌+◌, ◌*◌, ◌-◌, ◌≤◌, ◌<◌}
use native.Mathlib.Omega.{arith}
use native.Mathlib.Decide.{dec_lt}
use lib.ListN.{length, take, drop, replicate, length-map, length-append, length-drop, drop_of_length-le}
use lib.Seq.{paste, take-take, take_at, drop-drop, drop-paste, length-paste}
use lib.IntN.{ℤ, pos, neg_ℤ, ◌+ℤ◌}
use lib.Signed.{le_z}
use Rattle.laws.specs.Z.{Within, widen, sum_within}
use Rattle.laws.specs.Lists.{from, padded}
use Rattle.laws.proofs.Lists.{map_same}
use Rattle.laws.proofs.Each.{Each, each_more, each_map, each_keep, each_from}
use Rattle.laws.proofs.Filled.{length-padded}
use Rattle.meaning.specs.Plan.{Rule, Campaign, slots, bit, steps_of}
use Rattle.meaning.specs.Diagram.{Pair, State, merged, merged_state, span, reach, reaches}
use Rattle.meaning.specs.Filter.{Numbers}
use Rattle.meaning.proofs.Sizes.{larger, either}
use Rattle.lent.specs.Lanes.{lanes_at, sums, leasts}
use Rattle.lent.specs.Passes.{nowhere}
use Rattle.lent.specs.Vec.{vec}
use Rattle.lent.specs.Vec as vecs
use Rattle.lent.specs.Small.{Small, FitPair, FitSome}
use Rattle.lent.proofs.Lanes.{zipped-block, neg_sum}
use Rattle.lent.proofs.Scatter.{min_assoc, max_assoc}
use Rattle.lent.proofs.Vec.{length-vec, length_lows, length_highs, some_within, turned_padded, leasts_meet}
use Rattle.lent.proofs.Fit.{meet_fit}
use Rattle.lent.proofs.Cells.{zeros_vec}
use Rattle.lanes.proofs.Laws.{lanes_pasted}
use Rattle.state.specs.Pairs.{Inside, pairs_at}
use Rattle.state.proofs.Sizes.{inside_more}
use Rattle.state.proofs.Rows.{pairs_of}
use Rattle.state.proofs.Joined.{no_pair, add}
use Rattle.state.proofs.Padded.{share_of, inside_padded}
use Rattle.slot.specs.Rows.{lanes_of}
use Rattle.reach.specs.Spans.{step_lanes, least_more, least_over, Reached}

-- ---- the pairs that stand in lanes
-- what f makes of a list that is filled up
pub map-padded : {A B : Type 0} (f : A → B) (n : ℕ) (d : A) (l : List A) → map f (padded n d l) ≡ padded n (f d) (map f l)
map-padded f zero d l = refl
map-padded {B = B} f (suc n) d [] = ap (λ (r : List B). f d ∷ r) (map-padded f n d [])
map-padded {B = B} f (suc n) d (x ∷ l) = ap (λ (r : List B). f x ∷ r) (map-padded f n d l)

-- of lanes that stand for numbers: those of the rules, zeros behind them
pub lanes_pairs : (row : List ℤ) (at : ℕ) (t : State) (c : ℤ) → lanes_at row at ≡ vec (some (t, c)) → pairs_at row at ≡ padded 8 no_pair t
lanes_pairs row at t c e =
    pairs_of row at (padded 8 no_pair t) (length-padded no_pair 8 t)
    (sym (take-take 16 17 (drop at row) (omega arith)) ∙ ap (take 16) e ∙ take_at (low ++ high) (c ∷ []) 16 (omega (arith, length-append low high, length-padded (pos 0) 8 (map (λ p. p.0) t), length-padded (pos 0) 8 (map neg_ℤ (map (λ p. p.1) t))))
    ∙ (λ d. sym (map-padded (λ p. p.0) 8 no_pair t) d ++ (ap (padded 8 (pos 0)) (map-map neg_ℤ (λ p. p.1) t) ∙ sym (map-padded (λ p. neg_ℤ p.1) 8 no_pair t)) d))
  where
    low : List ℤ
    low = padded 8 (pos 0) (map (λ p. p.0) t)

    high : List ℤ
    high = padded 8 (pos 0) (map neg_ℤ (map (λ p. p.1) t))

-- ---- one rule: its shares merged one after the other
abbrev joins : Pair → List ℤ → Pair
joins p [] = p
joins p (z ∷ zs) = joins (merged p (z, z)) zs

-- in whatever order
pair_assoc : (p q r : Pair) → merged (merged p q) r ≡ merged p (merged q r)
pair_assoc p q r = λ d. (min_assoc p.0 q.0 r.0 d, max_assoc p.1 q.1 r.1 d)

-- one more in front
joins-merged : (p q : Pair) (zs : List ℤ) → joins (merged p q) zs ≡ merged p (joins q zs)
joins-merged p q [] = refl
joins-merged p q (z ∷ zs) = ap (λ t. joins t zs) (pair_assoc p q (z, z)) ∙ joins-merged p (merged q (z, z)) zs

-- together they are the span
joins_span : (z : ℤ) (zs : List ℤ) → joins (z, z) zs ≡ span (z ∷ zs)
joins_span z [] = refl
joins_span z (y ∷ ys) = joins-merged (z, z) (y, y) ys ∙ ap (merged (z, z)) (joins_span y ys)

-- ---- all rules
-- the lanes of some pairs; nobody reads that of costs, and it is zero
abbrev pub pair_vec : State → List ℤ
pair_vec t = vec (some (t, pos 0))

-- merged rule by rule
merged_maps : (g h : Rule → Pair) (rs : List Rule) → merged_state (map g rs) (map h rs) ≡ map (λ r. merged (g r) (h r)) rs
merged_maps g h [] = refl
merged_maps g h (r ∷ rs) = ap (λ (t : State). merged (g r) (h r) ∷ t) (merged_maps g h rs)

-- the lows of a sum, rule by rule
low_sums : (g h : Rule → Pair) (rs : List Rule) → sums (map (λ p. p.0) (map g rs)) (map (λ p. p.0) (map h rs)) ≡ map (λ p. p.0) (map (λ r. add (g r) (h r)) rs)
low_sums g h [] = refl
low_sums g h (r ∷ rs) = ap (λ (l : List ℤ). ((g r).0 +ℤ (h r).0) ∷ l) (low_sums g h rs)

-- the highs with their sign turned
high_sums : (g h : Rule → Pair) (rs : List Rule)
    → sums (map neg_ℤ (map (λ p. p.1) (map g rs))) (map neg_ℤ (map (λ p. p.1) (map h rs))) ≡ map neg_ℤ (map (λ p. p.1) (map (λ r. add (g r) (h r)) rs))
high_sums g h [] = refl
high_sums g h (r ∷ rs) = λ d. sym (neg_sum (g r).1 (h r).1) d ∷ high_sums g h rs d

-- lanes without a cost add up as the pairs do
vec_sums : (g h : Rule → Pair) (rs : List Rule) → sums (pair_vec (map g rs)) (pair_vec (map h rs)) ≡ pair_vec (map (λ r. add (g r) (h r)) rs)
vec_sums g h rs =
    let s = map g rs in
    let t = map h rs in
    let long : length s ≡ length t = length-map rs g ∙ sym (length-map rs h) in
    zipped-block ◌+ℤ◌ (pos 0) (pos 0) (map (λ p. p.0) s) (map (λ p. p.0) t) (map neg_ℤ (map (λ p. p.1) s)) (map neg_ℤ (map (λ p. p.1) t)) (pos 0) (pos 0)
    (length_lows s ∙ long ∙ sym (length_lows t)) (length_highs s ∙ long ∙ sym (length_highs t))
    ∙ rw (low_sums g h rs, high_sums g h rs)

-- the steps of a set are below 8
low_steps : (s : ℕ) → Each (λ v. v < 8) (steps_of 8 s)
low_steps s = each_keep (λ v. v < 8) (bit s) (from 0 8) (each_from (λ v. v < 8) 0 8 (λ v b. b))

-- ---- spans and reaches are small
-- the span of small numbers
span_within : (m : ℕ) (zs : List ℤ) → Each (Within m) zs → Within m (span zs).0 × Within m (span zs).1
span_within m [] h = (record { size = omega arith }, record { size = omega arith })
span_within m (z ∷ []) h = (h.0, h.0)
span_within m (z ∷ y ∷ ys) h =
    let rest = span_within m (y ∷ ys) h.1 in
    (either (le_z z (span (y ∷ ys)).0) h.0 rest.0, either (le_z z (span (y ∷ ys)).1) rest.1 h.0)

-- a rule's reach over some slots
rule_within : (r : Rule) → ((i v : ℕ) → v < 8 → Within 7000 (r.share i v)) → (i : ℕ) (ss : List ℕ) → FitPair (length ss) (reach 8 r i ss)
rule_within r f i [] = (record { size = omega arith }, record { size = omega arith })
rule_within r f i (s ∷ ss) =
    let here = span_within 7000 (map (r.share i) (steps_of 8 s)) (each_map (λ v. v < 8) (Within 7000) (r.share i) (f i) (steps_of 8 s) (low_steps s)) in
    let rest = rule_within r f (suc i) ss in
    let wide : 7000 + 7000 * length ss ≤ 7000 * suc (length ss) = omega arith in
    (larger wide (sum_within here.0 rest.0), larger wide (sum_within here.1 rest.1))

-- ---- the numbers of slot i
-- a step's shares
abbrev pub step_of : Campaign → ℕ → ℕ → State
step_of q i v = map (share_of i v) q.rules

-- the spans over some steps
abbrev spans_of : Campaign → ℕ → List ℕ → State
spans_of q i vs = map (λ r. span (map (r.share i) vs)) q.rules

-- the reach from slot i on, as lanes
abbrev pub reach_vec : Campaign → ℕ → List ℕ → List ℤ
reach_vec q i ss = pair_vec (reaches q i ss)

-- a step's lanes have each rule's share
pub step_lanes_lem : (q : Campaign) (i v : ℕ) (cs : List ℤ) (bs : List ℕ) → lanes_of cs bs v ≡ padded 8 (pos 0) (map (λ r. r.share i v) q.rules) → step_lanes cs bs v ≡ pair_vec (step_of q i v)
step_lanes_lem q i v cs bs e =
    let shares = map (λ (r : Rule). r.share i v) q.rules in
    (λ d. e d ++ (ap (map neg_ℤ) e ∙ turned_padded 8 shares) d ++ (pos 0 ∷ []))
    ∙ (λ d. vecs.lanes_of (pos 0) (sym (map-map (λ p. p.0) (share_of i v) q.rules) d) (sym (map-map (λ p. p.1) (share_of i v) q.rules) d) (pos 0))

module _ (q : Campaign) (small : Small q) where
  module _ (i : ℕ) where
    -- small enough for lanes
    step_fit : (v : ℕ) → v < 8 → FitSome q 1 (step_of q i v, pos 0)
    step_fit v h = record {
      long = length-map q.rules (share_of i v);
      pairs = each_map (λ r. (i v : ℕ) → v < 8 → Within 7000 (r.share i v)) (FitPair 1) (share_of i v) (λ r f. (f i v h, f i v h)) q.rules small.shares;
      cost = record { size = omega arith };
    }

    -- small enough for lanes
    span_fit : (vs : List ℕ) → Each (λ v. v < 8) vs → FitSome q 1 (spans_of q i vs, pos 0)
    span_fit vs h = record {
      long = length-map q.rules (λ r. span (map (r.share i) vs));
      pairs = each_map (λ r. (i v : ℕ) → v < 8 → Within 7000 (r.share i v)) (FitPair 1) (λ r. span (map (r.share i) vs)) (λ r f. span_within 7000 (map (r.share i) vs) (each_map (λ v. v < 8) (Within 7000) (r.share i) (f i) vs h)) q.rules small.shares;
      cost = record { size = omega arith };
    }

    -- by whatever lanes have the shares of each step
    module _ (lanes : ℕ → List ℤ) (are : (v : ℕ) → lanes v ≡ pair_vec (step_of q i v)) where
      -- some steps more
      least_more_lem : (g : Rule → Pair) (vs : List ℕ) → Each (λ v. v < 8) vs → FitSome q 1 (map g q.rules, pos 0)
          → least_more lanes (pair_vec (map g q.rules)) vs ≡ pair_vec (map (λ r. joins (g r) (map (r.share i) vs)) q.rules)
      least_more_lem g [] h f = refl
      least_more_lem g (v ∷ vs) h f =
          let both = merged_maps g (share_of i v) q.rules in
          let old : Numbers = some (map g q.rules, pos 0) in
          let new : Numbers = some (step_of q i v, pos 0) in
          ap (λ t. least_more lanes (leasts (vec old) t) vs) (are v)
          ∙ ap (λ t. least_more lanes t vs) (leasts_meet q 1 (omega arith) old new f (step_fit v h.0))
          ∙ ap (λ t. least_more lanes (pair_vec t) vs) both
          ∙ least_more_lem (λ r. merged (g r) (share_of i v r)) vs h.1 (subst (λ t. FitSome q 1 (t, pos 0)) both (meet_fit q 1 old new f (step_fit v h.0)))

      -- the least over some steps has each rule's span
      span_lanes : (vs : List ℕ) → Each (λ v. v < 8) vs → least_over lanes vs ≡ pair_vec (spans_of q i vs)
      span_lanes [] h = sym (zeros_vec q)
      span_lanes (v ∷ vs) h =
          ap (λ t. least_more lanes (leasts nowhere t) vs) (are v)
          ∙ ap (λ t. least_more lanes t vs) (leasts_meet q 1 (omega arith) none (some (step_of q i v, pos 0)) tt (step_fit v h.0))
          ∙ least_more_lem (share_of i v) vs h.1 (step_fit v h.0)
          ∙ ap pair_vec (map_same (λ r. joins (share_of i v r) (map (r.share i) vs)) (λ r. span (map (r.share i) (v ∷ vs))) q.rules (λ r b. joins_span (r.share i v) (map (r.share i) vs)))

      -- small enough to be summed
      pub span_small : (s : ℕ) → Each (Within 10000000) (least_over lanes (steps_of 8 s))
      span_small s =
          let vs = steps_of 8 s in
          rw (span_lanes vs (low_steps s)) (each_more (Within 70000) (Within 10000000) (λ z w. widen tt w) (pair_vec (spans_of q i vs)) (some_within q 1 (spans_of q i vs, pos 0) (span_fit vs (low_steps s))))

      -- a slot's span and the reach behind it are the reach
      pub reach_step : (s : ℕ) (ss : List ℕ) → sums (least_over lanes (steps_of 8 s)) (reach_vec q (suc i) ss) ≡ reach_vec q i (s ∷ ss)
      reach_step s ss =
          let vs = steps_of 8 s in
          let h : Rule → Pair = λ r. reach q.steps r (suc i) ss in
          ap (λ t. sums t (reach_vec q (suc i) ss)) (span_lanes vs (low_steps s))
          ∙ vec_sums (λ r. span (map (r.share i) vs)) h q.rules
          ∙ ap (λ k. pair_vec (map (λ r. add (span (map (r.share i) (steps_of k s))) (h r)) q.rules)) (sym small.steps)

  -- the numbers of a reach
  reaches_fit : (i : ℕ) (ss : List ℕ) → FitSome q (length ss) (reaches q i ss, pos 0)
  reaches_fit i ss = record {
    long = length-map q.rules (λ r. reach q.steps r i ss);
    pairs = rw small.steps (each_map (λ r. (i v : ℕ) → v < 8 → Within 7000 (r.share i v)) (FitPair (length ss)) (λ r. reach 8 r i ss) (λ r f. rule_within r f i ss) q.rules small.shares);
    cost = record { size = omega arith };
  }

  -- small enough to be summed
  pub reach_small : (i : ℕ) (ss : List ℕ) → length ss ≤ 24 → Each (Within 10000000) (reach_vec q i ss)
  reach_small i ss h = each_more (Within (70000 * length ss)) (Within 10000000) (λ z w. larger (omega arith) w) (reach_vec q i ss) (some_within q (length ss) (reaches q i ss, pos 0) (reaches_fit i ss))

  -- as eight pairs
  reaches_inside : (i : ℕ) (ss : List ℕ) → length ss ≤ 24 → Inside 200000 (padded 8 no_pair (reaches q i ss))
  reaches_inside i ss h = inside_padded 200000 8 (reaches q i ss) (inside_more (7000 * length ss) 200000 (omega arith) (reaches q i ss) (reaches_fit i ss).pairs)

-- ---- the table, from a layer on
pub record Behind (q : Campaign) (left : ℕ) (table : List ℤ) : Type 0 where
  pub long : length table ≡ 425
  pub is : (i : ℕ) → left ≤ i → i ≤ slots q → lanes_at table (i * 17) ≡ reach_vec q i (drop i q.sets)

module _ (q : Campaign) (small : Small q) where
  -- behind the last slot nothing can be added
  pub behind_start : (table table' : List ℤ) → length table ≡ 425 → table' ≡ paste table (slots q * 17) (replicate 17 (pos 0)) 17 → Behind q (slots q) table'
  behind_start table table' l e = record {
    long = ap length e ∙ length-paste table (slots q * 17) (replicate 17 (pos 0)) 17 (omega (arith, l, small.slots)) (omega arith) ∙ l;
    is = λ i a b. let k : i ≡ slots q = omega arith in ap (λ j. lanes_at table' (j * 17)) k ∙ ap (λ t. lanes_at t (slots q * 17)) e ∙ lanes_pasted table (slots q * 17) (replicate 17 (pos 0)) (omega (arith, l, small.slots)) refl ∙ sym (zeros_vec q) ∙ ap (reach_vec q i) (sym (drop_of_length-le q.sets a));
  }

  -- a layer more
  pub behind_more : (i : ℕ) (table table' x : List ℤ) → Behind q (i + 1) table → i < slots q → x ≡ reach_vec q i (drop i q.sets) → table' ≡ paste table (i * 17) x 17 → Behind q i table'
  behind_more i table table' x p h e f = record {
    long = ap length f ∙ length-paste table (i * 17) x 17 (omega (arith, p.long, small.slots)) (omega (arith, wide)) ∙ p.long;
    is = λ j a b. go j a b (dec_lt i j);
  }
    where
      wide : length x ≡ 17
      wide = ap length e ∙ length-vec (some (reaches q i (drop i q.sets), pos 0))

      other : (j : ℕ) → i < j → drop (j * 17) table' ≡ drop (j * 17) table
      other j l =
          let o : j * 17 ≡ i * 17 + 17 + (j * 17 - (i * 17 + 17)) = omega arith in
          ap (λ k. drop k table') o
          ∙ sym (drop-drop (j * 17 - (i * 17 + 17)) (i * 17 + 17) table')
          ∙ ap (drop (j * 17 - (i * 17 + 17))) (ap (drop (i * 17 + 17)) f ∙ drop-paste table (i * 17) x 17 (omega (arith, p.long, small.slots)) (omega (arith, wide)))
          ∙ drop-drop (j * 17 - (i * 17 + 17)) (i * 17 + 17) table
          ∙ ap (λ k. drop k table) (sym o)

      go : (j : ℕ) → i ≤ j → j ≤ slots q → Dec (i < j) → lanes_at table' (j * 17) ≡ reach_vec q j (drop j q.sets)
      go j a b (yes l) = ap (take 17) (other j l) ∙ p.is j (omega arith) b
      go j a b (no l) = let k : j ≡ i = omega arith in rw k (ap (λ l. lanes_at l (i * 17)) f ∙ lanes_pasted table (i * 17) x (omega (arith, p.long, small.slots)) wide ∙ e)

  -- the whole table
  pub behind_all : (table : List ℤ) → Behind q 0 table → Reached q table
  behind_all table p = record { long = p.long; is = pairs; small = λ i b. rw (pairs i b) (reaches_inside q small i (drop i q.sets) (omega (arith, length-drop i q.sets, small.slots))) }
    where
      pairs : (i : ℕ) → i ≤ slots q → pairs_at table (i * 17) ≡ padded 8 no_pair (reaches q i (drop i q.sets))
      pairs i b = let ss = drop i q.sets in lanes_pairs table (i * 17) (reaches q i ss) (pos 0) (p.is i (omega arith) b)
