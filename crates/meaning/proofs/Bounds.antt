-- What do both bounds say, and what may be claimed when they are equal or the diagram is exact?
use mathlib.Core.Path.{◌≡◌, refl, sym, ◌∙◌, ap, subst}
use mathlib.Core.List.{List}
use mathlib.Core.Bool.{Bool, true, false}
use mathlib.Core.Option.{Option, none, some, map, some-injective}
use mathlib.Core.Logic.{◌⊎◌}
use Prim.Native.Nat.{ℕ, ◌<◌}
use lib.IntN.{ℤ}
use lib.Signed.{le_z, ◌≤ℤ◌}
use Rattle.laws.specs.Z.{zarith}
use Rattle.laws.proofs.Lists.{In, in_keep, in_kept, keep_agree, ordered_keep}
use Rattle.meaning.specs.Plan.{Campaign, slots, allowed, lawful, cost, plans, lawfuls, after, cheapest}
use Rattle.meaning.specs.Diagram.{Arcs, relaxed, restricted, built, is_exact}
use Rattle.meaning.specs.Filter.{Numbers, on_path, relaxed_arcs, restricted_arcs}
use Rattle.meaning.specs.Bound.{is_path, paths, bound, dual, shown, primal, least}
use Rattle.meaning.proofs.Sound.{totals}
use Rattle.meaning.proofs.Loses.{lawful_walks}
use Rattle.meaning.proofs.Keeps.{Cover, prices, ups_cover, dropped, kept, AtMost, bound_at_most, dual_at_most}
use Rattle.meaning.proofs.Restricted.{restricted_lawful}
use Rattle.meaning.proofs.Allowed.{Allowed, relaxed_allowed, restricted_allowed, path_allowed}
use Rattle.meaning.proofs.Attains.{PathOf, bound_attained, source_up, source_path}
use Rattle.meaning.proofs.Cheapest.{Cheapest, some_cheapest, cheapest_is}
use Rattle.meaning.proofs.Exact.{exact_same, exact_lawful}
use Rattle.meaning.proofs.Order.{plans_ordered, plans_in, lawful_allowed}

in_paths : (q : Campaign) (a : Arcs) (p : List ℕ) → allowed q.steps q.sets p ≡ true → is_path a p ≡ true → In p (paths q a)
in_paths q a p e h = in_keep (is_path a) h (plans_in q.steps q.sets p e)

-- ---- the dual bound
-- it is missing only if no lawful plan is within the ceiling
pub dual_missing : (q : Campaign) (w n : ℕ) (c : ℤ) (p : List ℕ) → 0 < w → dual q w n c ≡ none → lawful q p ≡ true → cost q p ≤ℤ c → ⊥
dual_missing q w n c p hw e h k = subst (λ (b : Option ℤ). AtMost b (cost q p)) e (dual_at_most q w n c p h k hw)

-- the bound of any arcs over the sets is the cost of their cheapest path
pub bound_cheapest : (q : Campaign) (a : Arcs) → Allowed q a → bound q a ≡ map (cost q) (cheapest q (paths q a))
bound_cheapest q a al = go (bound q a) (cheapest q (paths q a)) refl refl
  where
    ps : List (List ℕ)
    ps = paths q a

    at_most : {p : List ℕ} {b : Option ℤ} → bound q a ≡ b → In p ps → AtMost b (cost q p)
    at_most {p} e i = subst (λ (b : Option ℤ). AtMost b (cost q p)) e (bound_at_most q a p (in_kept (is_path a) (plans q.steps q.sets) i))

    attained : {z : ℤ} (x : PathOf q a z) → In x.steps ps
    attained x = in_paths q a x.steps (path_allowed q a x.steps al x.is) x.is

    best : {b : List ℕ} → cheapest q ps ≡ some b → Cheapest q ps b
    best {b} e = cheapest_is q ps (ordered_keep after (is_path a) (plans q.steps q.sets) (plans_ordered q.steps q.sets)) b e

    go : (b : Option ℤ) (o : Option (List ℕ)) → bound q a ≡ b → cheapest q ps ≡ o → bound q a ≡ map (cost q) o
    go none none e f = e
    go none (some p) e f = absurd (at_most e (best f).one)
    go (some z) none e f = absurd (some_cheapest q ps (attained (bound_attained q a e)) f)
    go (some z) (some p) e f =
        let x = bound_attained q a e in
        let low = at_most e (best f).one in
        let high = (best f).least x.steps (attained x) in
        let same : z ≡ cost q p = omega (zarith, x.costs) in
        e ∙ ap some same

-- "or none if the source is absent": if it has no way to the sink
pub source_absent : (q : Campaign) (a : Arcs) → (bound q a ≡ none → source_up q a ≡ none) × (source_up q a ≡ none → bound q a ≡ none)
source_absent q a = (λ e. up (source_up q a) refl e, λ e. down (bound q a) refl e)
  where
    up : (n : Numbers) → source_up q a ≡ n → bound q a ≡ none → source_up q a ≡ none
    up none f e = f
    up (some u) f e = let x = source_path q a f in absurd (subst (λ (b : Option ℤ). AtMost b (cost q x.steps)) e (bound_at_most q a x.steps x.is))

    down : (b : Option ℤ) → bound q a ≡ b → source_up q a ≡ none → bound q a ≡ none
    down none f e = f
    down (some z) f e = let x = bound_attained q a f in absurd (subst (λ (n : Numbers). Cover n (totals q.rules 0 x.steps) (prices q 0 x.steps)) e (ups_cover q 0 a 0 x.steps x.is))

-- ---- the primal bound, and the plan shown
-- it is the sink's cost down too
pub primal_bound : (q : Campaign) (w : ℕ) → primal q w ≡ bound q (restricted_arcs q w)
primal_bound q w = sym (bound_cheapest q (restricted_arcs q w) (restricted_allowed q w))

-- it is the cost of the plan shown, which is lawful, a cheapest path, and the first of these in dictionary order
pub record Shown (q : Campaign) (w : ℕ) (b : List ℕ) : Type 0 where
  pub costs : primal q w ≡ some (cost q b)
  pub keeps : lawful q b ≡ true
  pub path : is_path (restricted_arcs q w) b ≡ true
  pub least : (p : List ℕ) → is_path (restricted_arcs q w) p ≡ true → cost q b ≤ℤ cost q p
  pub first : (p : List ℕ) → is_path (restricted_arcs q w) p ≡ true → cost q p ≡ cost q b → (p ≡ b) ⊎ (after b p ≡ true)

pub plan_shown : (q : Campaign) (w : ℕ) (b : List ℕ) → 0 < slots q → shown q w ≡ some b → Shown q w b
plan_shown q w b s e =
    let a = restricted_arcs q w in
    let all = plans q.steps q.sets in
    let best = cheapest_is q (paths q a) (ordered_keep after (is_path a) all (plans_ordered q.steps q.sets)) b e in
    let path = in_kept (is_path a) all best.one in
    let stands : (p : List ℕ) → is_path a p ≡ true → In p (paths q a) = λ p h. in_paths q a p (lawful_allowed q p (restricted_lawful q w p s h)) h in
    record {
      costs = ap (map (cost q)) e;
      keeps = restricted_lawful q w b s path;
      path = path;
      least = λ p h. best.least p (stands p h);
      first = λ p h. best.first p (stands p h);
    }

-- no plan is shown only if there is no path
pub none_shown : (q : Campaign) (w : ℕ) (p : List ℕ) → 0 < slots q → shown q w ≡ none → is_path (restricted_arcs q w) p ≡ true → ⊥
none_shown q w p s e h = some_cheapest q (paths q (restricted_arcs q w)) (in_paths q (restricted_arcs q w) p (lawful_allowed q p (restricted_lawful q w p s h)) h) e

-- ---- what may be claimed
-- of both diagrams the paths are then the lawful plans
both_ways : (a b : Bool) → (a ≡ true → b ≡ true) → (b ≡ true → a ≡ true) → a ≡ b
both_ways true b f g = sym (f refl)
both_ways false true f g = g refl
both_ways false false f g = refl

paths_lawful : (q : Campaign) (a : Arcs) → ((p : List ℕ) → is_path a p ≡ true → lawful q p ≡ true) → ((p : List ℕ) → lawful q p ≡ true → is_path a p ≡ true) → paths q a ≡ lawfuls q
paths_lawful q a f g = keep_agree (is_path a) (lawful q) (plans q.steps q.sets) (λ p i. both_ways (is_path a p) (lawful q p) (f p) (g p))

-- exact, and every lawful plan within the ceiling: dual, primal and the least lawful cost are one number
pub exact_bounds : (q : Campaign) (w n : ℕ) (c : ℤ) → 0 < w → 0 < slots q → is_exact relaxed q w ≡ true → ((p : List ℕ) → lawful q p ≡ true → cost q p ≤ℤ c)
    → (dual q w n c ≡ least q) × (primal q w ≡ least q)
exact_bounds q w n c hw s e h =
    let a = relaxed_arcs q w n c in
    let b = restricted_arcs q w in
    let cheap : List (List ℕ) → Option ℤ = λ ps. map (cost q) (cheapest q ps) in
    let swept : (p : List ℕ) → lawful q p ≡ true → is_path b p ≡ true = λ p l. dropped on_path q (built restricted q w) p tt (subst (λ (a : Arcs). is_path a p ≡ true) (exact_same q w e) (lawful_walks q w p hw l)) in (
      bound_cheapest q a (relaxed_allowed q w n c) ∙ ap cheap (paths_lawful q a (λ p. exact_lawful q w n c p s e) (λ p l. kept q w n c p l (h p l) hw)),
      ap cheap (paths_lawful q b (λ p. restricted_lawful q w p s) swept),
    )

-- dual and primal equal and at most the ceiling, at whatever widths: the plan shown is a cheapest lawful plan
pub equal_bounds : (q : Campaign) (w v n : ℕ) (c z : ℤ) → 0 < w → 0 < slots q → dual q w n c ≡ some z → primal q v ≡ some z → z ≤ℤ c
    → (b : List ℕ) → shown q v ≡ some b → (lawful q b ≡ true) × ((p : List ℕ) → lawful q p ≡ true → cost q b ≤ℤ cost q p)
equal_bounds q w v n c z hw s d e k b f =
    let x = plan_shown q v b s f in
    let same : cost q b ≡ z = some-injective (cost q b) z (sym x.costs ∙ e) in
    (x.keeps, λ p l. go p l same (le_z (cost q p) c) refl)
  where
    go : (p : List ℕ) → lawful q p ≡ true → cost q b ≡ z → (t : Bool) → le_z (cost q p) c ≡ t → cost q b ≤ℤ cost q p
    go p l same true t =
        let low : z ≤ℤ cost q p = subst (λ (b : Option ℤ). AtMost b (cost q p)) d (dual_at_most q w n c p l (omega zarith) hw) in
        omega zarith
    go p l same false t = omega zarith
