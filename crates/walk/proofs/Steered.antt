-- Do the buffers of a problem without fault steer the walk, and is what the recursion lays the page asked for?
use mathlib.Core.Path.{◌≡◌, refl, sym, ap, subst, ◌∙◌}
use mathlib.Core.Logic.{◌⊎◌, ⊎_elim}
use mathlib.Core.List.{List, [], ◌∷◌, ◌++◌, map, map-id}
use mathlib.Core.Bool.{Bool, not, cond}
use mathlib.Core.Option.{none}
use Prim.Native.Nat.{ℕ, zero, suc, ◌+◌, ◌*◌, ◌-◌, ◌≤◌, ◌<◌}
use native.Mathlib.Omega.{arith}
use native.Mathlib.Nat.{zero-mul, suc-mul, mul_assoc}
use borrow.Author.Tests.{eq-eqb, ne_eqb}
use lib.Dec.{eqb, ltb}
use lib.ListN.{length, get_or, take, drop, replicate, length-drop, length-map, take-append-drop}
use lib.Seq.{length-take-le, take_at, get_or-take}
use lib.IntN.{ℤ, pos, ◌*ℤ◌}
use Rattle.laws.specs.Z.{Within}
use Rattle.laws.specs.Lists.{from, padded, parted}
use Rattle.laws.proofs.Each.{Each, each_at, each_append, each_flat}
use Rattle.laws.proofs.Filled.{take-padded, take_within, map_places}
use Rattle.meaning.specs.Plan.{Rule, Campaign, slots}
use Rattle.meaning.specs.Problem.{version1, rule_of}
use Rattle.meaning.specs.Diagram.{Arcs}
use Rattle.meaning.specs.Filter.{begins, down_numbers, up_numbers}
use Rattle.meaning.specs.Buffers.{node_need, arcs_in, all_cells}
use Rattle.meaning.specs.Page.{walked, page_of, page_bytes}
use Rattle.problem.specs.declared.Problem.{Problem}
use Rattle.problem.specs.Held.{said_at, campaign_of}
use Rattle.problem.proofs.Faultless.{Right, right}
use Rattle.lent.specs.Small.{Fit}
use Rattle.lent.proofs.Shape.{form_of, form_low}
use Rattle.lent.proofs.Fit.{downs_fit, ups_fit}
use Rattle.lent.proofs.Cells.{cells_within}
use Rattle.lent.proofs.Whole.{downs_at, ups_at, downs_count, ups_count}
use Rattle.lent.proofs.Table.{cells_count as cells_all, table_each}
use Rattle.slot.specs.Rows.{lanes_of}
use Rattle.slot.specs.Tables.{coefs_in, weights_in, leasts_in, mosts_in, leasts_of, mosts_of, values_in, sets_in, Tabled}
use Rattle.slot.proofs.Said.{map-map, said_weight, tabled_coefs, tabled_shares, leasts_at, mosts_at, said_small, rules_long}
use Rattle.numbers.specs.Whole.{Ready, Formed}
use Rattle.numbers.proofs.Passes.{Setting, setting, few_rules, few_slots, parted_flat}
use Rattle.step.specs.Answers.{listed_as}
use Rattle.walk.specs.Beginnings.{rests, lay_all, Walkable, Steers, Finds}
use Rattle.step.specs.Steps.{Laid, totals_at, budget_at}
use Rattle.walk.proofs.Laying.{end, lay_count, lay_more, lay_page, lay_long}
use Rattle.walk.proofs.Rests.{rests_long, walked_all, walked_behind}
use Rattle.walk.proofs.Nodes.{down_of, up_of, celled}
use Rattle.walk.proofs.Guided as guided

-- ---- no byte of the buffer leads past the w nodes of a layer
bytes_low : (w n : ℕ) (b : List ℕ) → length b ≡ n * (w * 8) → Each (Each (Each (λ b. b ≤ w))) (map (parted w 8) (parted n (w * 8) b)) → Each (λ b. b ≤ w) b
bytes_low w zero [] e h = tt
bytes_low w zero (x ∷ b) e h = absurd (omega (arith, zero-mul (w * 8)))
bytes_low w (suc n) b e h =
    let k = w * 8 in
    let more = suc-mul n k in
    let first = take k b in
    let long : length first ≡ w * 8 = length-take-le k b (omega arith) in
    let low : Each (λ b. b ≤ w) first = rw (parted_flat w 8 first long) at (each_flat (λ b. b ≤ w) (parted w 8 first) h.0) in
    rw (take-append-drop k b) at (each_append (λ b. b ≤ w) first (drop k b) low (bytes_low w n (drop k b) (omega (arith, length-drop k b)) h.1))

-- zeros are within any bound
zeros_within : (m n : ℕ) → Each (Within m) (replicate n (pos 0))
zeros_within m zero = tt
zeros_within m (suc n) = (record { size = omega arith }, zeros_within m n)

-- ---- the cells of all nodes: how many, and how large
module _ {q : Campaign} {w n m : ℕ} {b : List ℕ} {a : Arcs} (s : Setting q w n m b a) where
  abbrev cells_of : List ℤ
  cells_of = all_cells (node_need q) w (down_numbers q a) (up_numbers q a)

  layers : length (down_numbers q a) ≡ suc n
  layers = downs_count q 0 (begins q ∷ []) a ∙ ap suc s.count

  pub cells_count : length cells_of ≡ suc n * (w * (4 * m + 3))
  cells_count =
      cells_all (node_need q) w (down_numbers q a) (up_numbers q a) (ups_count q 0 a ∙ sym (downs_count q 0 (begins q ∷ []) a)) (celled q a)
      ∙ (λ t. layers t * (w * (4 * s.rules t + 3)))

  pub cells_inside : Each (Within 4000000) cells_of
  cells_inside =
      let c = s.count in
      let few = s.whole.long in
      table_each (node_need q) w (Within 4000000) (record { size = omega arith }) (down_numbers q a) (up_numbers q a)
      (λ i j b.
      cells_within q s.small i (length a - i) (omega (arith, layers)) (omega arith) (node_need q) (down_of q a i j) (up_of q a i j)
      (each_at (Fit q i) (downs_at q a i) j none tt (downs_fit q s.small a s.whole.few i))
      (each_at (Fit q (length a - i)) (ups_at q a i) j none tt (ups_fit q s.small a s.whole.few i)))

-- ---- what the rules count, by the tables
module _ (p : Problem) (h : Right version1 p) where
  shares_are : {coefs : List ℤ} {values : List ℕ} → Tabled p coefs values → (i v : ℕ) → i < p.slots
      → map (λ r. r.share i v) (campaign_of p).rules ≡ take p.rules (lanes_of (take 8 (drop (i * 8) (coefs_in coefs))) (take 8 (drop (i * 8) (values_in values))) v)
  shares_are {coefs} {values} t i v b =
      let shares = map (λ r. r.share i v) (campaign_of p).rules in
      let few = h.head.most in
      let rules = h.head.rules in
      let long : length shares ≡ p.rules = length-map (campaign_of p).rules (λ r. r.share i v) ∙ rules_long p in
      let row : lanes_of (take 8 (drop (i * 8) (coefs_in coefs))) (take 8 (drop (i * 8) (values_in values))) v ≡ padded 8 (pos 0) shares =
      (λ j. lanes_of (take_within (i * 8) 8 192 coefs (omega arith) j) (take_within (i * 8) 8 192 values (omega arith) j) v) ∙ tabled_shares p h t i b v in
      sym (take-padded (pos 0) 8 shares (omega arith)) ∙ ap (λ (k : ℕ). take k (padded 8 (pos 0) shares)) long ∙ sym (ap (take p.rules) row)

  -- a bound of each rule
  bounds_are : (g : Rule → ℤ) (l : List ℤ) → length l ≡ 8 → ((k : ℕ) → g (rule_of (said_at p k)) ≡ get_or l k (pos 0)) → map g (campaign_of p).rules ≡ take p.rules l
  bounds_are g l long same =
      let few : length (take p.rules l) ≡ p.rules = length-take-le p.rules l (omega (arith, h.head.rules)) in
      ap (map g) (map-map rule_of (said_at p) (from 0 p.rules)) ∙ map-map g (λ (k : ℕ). rule_of (said_at p k)) (from 0 p.rules)
      ∙ ap (λ (n : ℕ). map (λ (k : ℕ). g (rule_of (said_at p k))) (from 0 n)) (sym few)
      ∙ map_places (λ (k : ℕ). g (rule_of (said_at p k))) (take p.rules l) (pos 0) (λ k b. same k ∙ sym (get_or-take p.rules l k (pos 0) (omega arith)))

-- its slots
pub slots_are : {p : Problem} → Right version1 p → length p.sets ≡ 24 → slots (campaign_of p) ≡ p.slots
slots_are {p} h sets = length-take-le p.slots p.sets (omega (arith, h.head.most))

-- ---- the whole: arcs of the form, and their numbers in the cells
module _ {p : Problem} {w : ℕ} {arcs : List ℕ} {cells : List ℤ} (r : Ready p w) (sets : length p.sets ≡ 24) (f : Formed (campaign_of p) w arcs)
    (e : cells ≡ all_cells (node_need (campaign_of p)) w (down_numbers (campaign_of p) (arcs_in (campaign_of p) w arcs)) (up_numbers (campaign_of p) (arcs_in (campaign_of p) w arcs))) where
  no_fault : Right version1 p
  no_fault = right version1 p r.right

  set_up : Setting (campaign_of p) w p.slots p.rules arcs (arcs_in (campaign_of p) w arcs)
  set_up = setting r f sets

  pub walkable : {weights coefs : List ℤ} {values : List ℕ} → weights ≡ p.weights → Tabled p coefs values → Walkable p.slots p.rules w weights (coefs_in coefs) arcs cells
  walkable same t =
      let s = set_up in
      let q = campaign_of p in
      let low = form_low w r.some (arcs_in q w arcs) (form_of w (arcs_in q w arcs) f.form) in
      record {
        slots_few = few_slots r;
        rules_few = few_rules r;
        nodes_some = r.some;
        nodes_few = r.few;
        bytes = f.long ∙ ap (λ (n : ℕ). 8 * n * w) (slots_are no_fault sets);
        numbers = ap length e ∙ cells_count s ∙ sym (mul_assoc (suc p.slots) w (4 * p.rules + 3));
        lead = bytes_low w p.slots arcs s.long (subst (λ (n : ℕ). Each (Each (Each (λ b. b ≤ w))) (map (parted w 8) (parted n (w * 8) arcs))) (slots_are no_fault sets) low);
        inside = rw e (cells_inside s);
        priced = λ i b. rw same (said_weight p no_fault i b);
        counted = tabled_coefs p no_fault t;
      }

  pub steers : {coefs : List ℤ} {values : List ℕ} → Tabled p coefs values → length (leasts_of p) ≡ 8 → length (mosts_of p) ≡ 8
      → Steers (campaign_of p) (arcs_in (campaign_of p) w arcs) p.slots p.rules w p.sets p.weights (leasts_of p) (mosts_of p) (coefs_in coefs) (values_in values) arcs cells
  steers t low high = record {
    eight = refl;
    sets_are = refl;
    slots_are = slots_are no_fault sets;
    rules_are = rules_long p;
    prices_are = λ i v b c. ap (λ (z : ℤ). z *ℤ pos v) (get_or-take p.slots p.weights i (pos 0) b);
    shares_are = λ i v b c. shares_are p no_fault t i v b;
    lbs_are = bounds_are p no_fault (λ r. r.lb) (leasts_of p) low (λ k. sym (leasts_at p k));
    ubs_are = bounds_are p no_fault (λ r. r.ub) (mosts_of p) high (λ k. sym (mosts_at p k));
    arcs_are = refl;
    formed = f.form;
    cells_are = e;
  }

-- ---- from the source: what the recursion lays is what the walk finds behind the start
first_zeros : (m k : ℕ) → m ≤ k → take m (replicate k (pos 0)) ≡ replicate m (pos 0)
first_zeros zero k h = refl
first_zeros (suc m) zero h = absurd (omega arith)
first_zeros (suc m) (suc k) h = ap (λ (l : List ℤ). pos 0 ∷ l) (first_zeros m k (omega arith))

module _ (p : Problem) (h : Right version1 p) (sets : length p.sets ≡ 24) (a : Arcs) (c : ℤ) (start plan : List ℕ) (begun : plan ≡ start ++ replicate (24 - length start) 0) where
  abbrev found : Bool → List (List ℕ)
  found own = rests (campaign_of p) a 0 0 (take p.rules (replicate 8 (pos 0))) c own (take p.slots plan)

  zeros_are : take p.rules (replicate 8 (pos 0)) ≡ replicate (length (campaign_of p).rules) (pos 0)
  zeros_are = first_zeros p.rules 8 h.head.rules ∙ ap (λ (k : ℕ). replicate k (pos 0)) (sym (rules_long p))

  some_slot : 0 < slots (campaign_of p)
  some_slot = omega (arith, slots_are h sets, h.head.some)

  pub found_walked : (length start ≡ 0) ⊎ (length start ≡ p.slots) → found (not (eqb (length start) 0)) ≡ walked a (campaign_of p) c start
  found_walked s =
      let q = campaign_of p in
      let starts = (said_small p h).starts in
      rw zeros_are
      (⊎_elim
      (λ z. rw (eq-eqb (length start) 0 z) (walked_all q a c starts some_slot (take p.slots plan) ∙ ap (walked a q c) (sym (none start z))))
      (λ z.
      let own : take p.slots plan ≡ start = ap (take p.slots) begun ∙ take_at start (replicate (24 - length start) 0) p.slots z in
      rw (ne_eqb (length start) 0 (λ o. omega (arith, h.head.some)), own) (walked_behind q a c starts some_slot start))
      s)
    where
      none : (l : List ℕ) → length l ≡ 0 → l ≡ []
      none [] z = refl
      none (x ∷ l) z = absurd (omega arith)

  -- each is a plan of n steps
  pub walked_long : (length start ≡ 0) ⊎ (length start ≡ p.slots) → Each (λ p₁. length p₁ ≡ p.slots) (walked a (campaign_of p) c start)
  walked_long s =
      let o : slots (campaign_of p) - 0 ≡ p.slots = omega (arith, slots_are h sets) in
      let own = not (eqb (length start) 0) in
      subst (Each (λ p₁. length p₁ ≡ p.slots)) (found_walked s) (rw o at (rests_long (campaign_of p) a 0 0 (take p.rules (replicate 8 (pos 0))) c own (take p.slots plan)))

-- with all slots left, the slot is the first
first_slot : (n : ℕ) → n - n ≡ 0
first_slot n = omega arith

-- ---- the trail at the source: totals of zero, and the whole ceiling
module _ (trail : List ℤ) (n : ℕ) where
  pub totals_within : totals_at 0 trail ≡ replicate 8 (pos 0) → Each (Within (7001 * (n - n))) (totals_at (n - n) trail)
  totals_within zeros = rw (first_slot n) (rw zeros (zeros_within (7001 * 0) 8))

  pub budget_within : {c : ℤ} → budget_at 0 trail ≡ c → Within 2000000 c → Within (2000000 + 70000 * (n - n)) (budget_at (n - n) trail)
  budget_within whole h = rw (first_slot n) (rw whole h)

-- so the recursion's promise at the source says what is laid: the plans that the walk finds
module _ {p : Problem} {w : ℕ} {arcs : List ℕ} {cells : List ℤ} (coefs : List ℤ) (values : List ℕ) (r : Ready p w) (sets : length p.sets ≡ 24) (low : length (leasts_of p) ≡ 8) (high : length (mosts_of p) ≡ 8)
    (f : Formed (campaign_of p) w arcs)
    (e : cells ≡ all_cells (node_need (campaign_of p)) w (down_numbers (campaign_of p) (arcs_in (campaign_of p) w arcs)) (up_numbers (campaign_of p) (arcs_in (campaign_of p) w arcs)))
    (t : Tabled p coefs values) where
  pub laid_walked : (c : ℤ) (trail : List ℤ) (start plan : List ℕ) → totals_at 0 trail ≡ replicate 8 (pos 0) → budget_at 0 trail ≡ c → plan ≡ start ++ replicate (24 - length start) 0 → (length start ≡ 0) ⊎ (length start ≡ p.slots)
      → (cap : ℕ) (page later : List ℕ) (seen : ℕ)
      → Finds p.slots p.rules w (sets_in values) (weights_in coefs) (leasts_in coefs) (mosts_in coefs) (coefs_in coefs) (values_in values) arcs cells (not (eqb (length start) 0)) (p.slots - p.slots) 0 (totals_at (p.slots - p.slots) trail) (budget_at (p.slots - p.slots) trail) plan cap page 0 later seen
      → record { page = later; seen = seen } ≡ lay_all p.slots cap (record { page = page; seen = 0 }) (walked (arcs_in (campaign_of p) w arcs) (campaign_of p) c start)
  laid_walked c trail start plan zeros whole begun s cap page later seen finds =
      let q = campaign_of p in
      let a = arcs_in q w arcs in
      let h = right version1 p r.right in
      let all : p.slots - 0 ≡ p.slots = omega arith in
      let st = steers r sets f e t low high in
      let stands = guided.begins q a p.slots p.rules w p.sets p.weights (leasts_of p) (mosts_of p) (coefs_in coefs) (values_in values) arcs cells (walkable r sets f e refl t) st h.head.some c (take p.rules (replicate 8 (pos 0))) in
      let own = not (eqb (length start) 0) in
      let walk = found_walked p h sets a c start plan begun s in
      (rw (zeros, whole, t.sets_are, t.weights_are, t.leasts_are, t.mosts_are) at (rw (first_slot p.slots, all) at finds)) q a st stands ∙ ap (lay_all p.slots cap (record { page = page; seen = 0 })) (map-id (rests q a 0 0 (take p.rules (replicate 8 (pos 0))) c own (take p.slots plan)) ∙ walk)

-- ---- the answer
module _ (n cap : ℕ) (page later : List ℕ) (seen : ℕ) (ps : List (List ℕ)) (room : cap * n ≤ length page) (each : Each (λ p. length p ≡ n) ps)
    (is : record { page = later; seen = seen } ≡ lay_all n cap (record { page = page; seen = 0 }) ps) where
  seen_is : seen ≡ (end n cap page ps room each).seen
  seen_is = ap (λ (s : Laid). s.seen) is

  abbrev count : ℕ
  count = cond (ltb cap seen) cap seen

  count_is : count ≡ length (take cap ps)
  count_is = (λ t. cond (ltb cap (seen_is t)) cap (seen_is t)) ∙ lay_count n cap page ps room each

  pub answer : record { count = count; more = ltb cap seen } ≡ listed_as (page_of cap ps)
  answer = let more = ap (ltb cap) seen_is ∙ lay_more n cap page ps room each in λ t. record { count = count_is t; more = more t }

  -- the plans, and zeros behind them
  pub bytes : take (count * n) later ++ replicate (length later - count * n) 0 ≡ page_bytes (length page) (page_of cap ps)
  bytes =
      let long : length later ≡ length page = ap (λ (s : Laid). length s.page) is ∙ lay_long n cap page ps room each in
      (λ t. take (count_is t * n) (is t).page ++ replicate (long t - count_is t * n) 0) ∙ lay_page n cap page ps room each
