-- When does a builder refuse, and with what? 8 and 11 as their tests say; 9 never, for a campaign that is small.
use mathlib.Core.Path.{◌≡◌, refl, sym, ◌∙◌, ap}
use mathlib.Core.List.{List, [], ◌∷◌, map}
use mathlib.Core.Bool.{Bool, true, false, not, ◌&&◌, ◌||◌, cond, true≢false}
use Prim.Native.Nat.{ℕ, suc, ◌+◌, ◌*◌, ◌≤◌, ◌<◌}
use native.Mathlib.Omega.{arith}
use borrow.Author.Tests.{leb-true, le-leb, lt-ltb, le-ltb}
use lib.Dec.{leb, ltb}
use lib.ListN.{length}
use lib.Seq.{length-take-le}
use lib.IntN.{ℤ, pos}
use Rattle.laws.specs.Z.{Within}
use Rattle.laws.specs.Lists.{from}
use Rattle.laws.proofs.Lists.{and_l, and_r}
use Rattle.laws.proofs.Each.{Each, each_keep, each_from, each_every}
use Rattle.meaning.specs.Plan.{Rule, Campaign, slots, bit, steps_of}
use Rattle.meaning.specs.Problem.{limit, version1, size, right_head, first_fault}
use Rattle.meaning.specs.Diagram.{relaxed, restricted}
use Rattle.meaning.specs.Running.{relaxed_numbers, restricted_numbers, leaves, greatest_size, sizes, rule_size, guard}
use Rattle.meaning.specs.Calls.{Lent, unless, guarded, wrong_width, wrong_numbers, short_diagram, short_plan}
use Rattle.meaning.specs.Buffers.{arcs_need, cells_need}
use Rattle.meaning.proofs.Faultless.{size_within}
use Rattle.meaning.proofs.Ranges.{guarded as none_leaves}
use Rattle.refusal.specs.declared.Refusal.{Refusal}
use Rattle.refusal.specs.declared.Refusal.TheVariants.{EndsEarly, WrongMark, WrongVersion, WrongSize, WrongSlot, WrongRule, BytesLeft, WrongArguments, BeyondLimit, WrongStart, ShortBuffer}
use Rattle.refusal.specs.Refusals.{number_of}
use Rattle.problem.specs.declared.Problem.{Problem}
use Rattle.problem.specs.Held.{campaign_of, fault_in}
use Rattle.problem.proofs.Faultless.{right}
use Rattle.guard.specs.Size.{guard_in}
use Rattle.slot.proofs.Said.{said_small, rules_long}
use Rattle.lent.specs.Small.{Small}

-- ---- the tests of the numbers, one after the other
not-not : (t : Bool) → not (not t) ≡ t
not-not true = refl
not-not false = refl

-- what a right width is
pub width_right : (w : ℕ) → not (wrong_width w) ≡ true → (1 ≤ w) × (w ≤ 16)
width_right w e =
    let both : (leb 1 w && leb w 16) ≡ true = sym (not-not (leb 1 w && leb w 16)) ∙ e in
    (leb-true 1 w (and_l (leb 1 w) (leb w 16) both), leb-true w 16 (and_r (leb 1 w) (leb w 16) both))

module _ (w n : ℕ) (c : ℤ) where
  -- what right numbers are
  pub numbers_right : not (wrong_numbers w n c) ≡ true → (1 ≤ w) × (w ≤ 16) × Within 2000000 c
  numbers_right e = go (wrong_width w) refl e
    where
      go : (t : Bool) → wrong_width w ≡ t → not (t || not (leb n 64 && size limit c)) ≡ true → (1 ≤ w) × (w ≤ 16) × Within 2000000 c
      go true f e = absurd (true≢false (sym e))
      go false f e =
          let wide = width_right w (ap not f) in
          let both : (leb n 64 && size limit c) ≡ true = sym (not-not (leb n 64 && size limit c)) ∙ e in
          (wide.0, wide.1, size_within limit c (and_r (leb n 64) (size limit c) both))

-- ---- the refusals, whatever is done
module _ {A : Type 0} (a b : Bool) (zs : List ℤ) (refusal : ℕ → A) (done : A) where
  abbrev answered : A
  answered = unless (first_fault ((8, a) ∷ (11, b) ∷ [])) refusal (guarded zs refusal done)

  pub refused_11 : a ≡ false → b ≡ true → answered ≡ refusal 11
  refused_11 e f = rw (e, f)

  pub served : a ≡ false → b ≡ false → leaves zs ≡ false → answered ≡ done
  served e f g = rw (e, f, g)

-- the tests of 11
or_true : (t : Bool) → (t || true) ≡ true
or_true true = refl
or_true false = refl

pub short_arcs : (q : Campaign) (w : ℕ) (l : Lent) → length l.arcs < arcs_need q w → short_diagram q w l ≡ true
short_arcs q w l h = rw (lt-ltb (length l.arcs) (arcs_need q w) h)

pub short_cells : (q : Campaign) (w : ℕ) (l : Lent) → length l.cells < cells_need q w → short_diagram q w l ≡ true
short_cells q w l h = rw (lt-ltb (length l.cells) (cells_need q w) h) (or_true (ltb (length l.arcs) (arcs_need q w)))

pub enough : (q : Campaign) (w : ℕ) (l : Lent) → arcs_need q w ≤ length l.arcs → cells_need q w ≤ length l.cells → short_diagram q w l ≡ false
enough q w l h k = rw (le-ltb (length l.arcs) (arcs_need q w) h, le-ltb (length l.cells) (cells_need q w) k)

-- of a plan's buffer too
pub short_either : (a b : Bool) → a ≡ true → (a || b) ≡ true
short_either a b e = rw e

pub enough_plan : (q : Campaign) (l : Lent) → slots q ≤ length l.plan → short_plan q l ≡ false
enough_plan q l h = le-ltb (length l.plan) (slots q) h

-- ---- the guard does not hold
greatest_most : (m : ℕ) (f : ℕ → ℤ) (l : List ℕ) → Each (λ v. Within m (f v)) l → greatest_size f l ≤ m
greatest_most m f [] h = omega arith
greatest_most m f (v ∷ l) h = omega (arith, h.0.size, greatest_most m f l h.1)

sizes_most : (m : ℕ) (f : ℕ → ℕ → ℤ) → ((i v : ℕ) → v < 8 → Within m (f i v)) → (i : ℕ) (ss : List ℕ) → sizes 8 f i ss ≤ length ss * m
sizes_most m f h i [] = omega arith
sizes_most m f h i (s ∷ ss) =
    omega (arith, greatest_most m (f i) (steps_of 8 s) (each_keep (λ v. Within m (f i v)) (bit s) (from 0 8) (each_from (λ v. Within m (f i v)) 0 8 (h i))), sizes_most m f h (suc i) ss)

small_unguarded : (q : Campaign) → Small q → guard q ≡ false
small_unguarded q s =
    let few = s.slots in
    let costs : sizes q.steps q.price 0 q.sets ≤ limit = rw s.steps (omega (arith, sizes_most 70000 q.price s.prices 0 q.sets)) in
    ap not (each_every (λ z. leb z limit) (λ z. z ≤ limit) (λ z. le-leb z limit) (sizes q.steps q.price 0 q.sets ∷ map (rule_size q) q.rules) (costs, rules q.rules s.shares s.starts))
  where
    rules : (rs : List Rule) → Each (λ r. (i v : ℕ) → v < 8 → Within 7000 (r.share i v)) rs → Each (λ r. r.start ≡ pos 0) rs → Each (λ z. z ≤ limit) (map (rule_size q) rs)
    rules [] h e = tt
    rules (r ∷ rs) h e =
        let few = s.slots in
        let one : rule_size q r ≤ limit = rw (s.steps, e.0) (omega (arith, sizes_most 7000 r.share h.0 0 q.sets)) in
        (one, rules rs h.1 e.1)

-- no refusal has the number 0
pub numbered : (e : Refusal) → number_of e ≡ 0 → ⊥
numbered EndsEarly h = omega arith
numbered WrongMark h = omega arith
numbered WrongVersion h = omega arith
numbered WrongSize h = omega arith
numbered WrongSlot h = omega arith
numbered WrongRule h = omega arith
numbered BytesLeft h = omega arith
numbered WrongArguments h = omega arith
numbered BeyondLimit h = omega arith
numbered WrongStart h = omega arith
numbered ShortBuffer h = omega arith

-- ---- of a problem without fault
module _ (p : Problem) (e : fault_in version1 p ≡ 0) where
  pub problem_small : Small (campaign_of p)
  problem_small = said_small p (right version1 p e)

  unguarded : guard (campaign_of p) ≡ false
  unguarded = small_unguarded (campaign_of p) problem_small

  pub no_guard : guard_in p ≡ 0
  no_guard = rw unguarded (either (right_head p.slots p.rules))
    where
      either : (t : Bool) → ◌≡◌ {A = ℕ} (cond t 0 0) 0
      either true = refl
      either false = refl

  -- so it refuses nothing
  pub unrefused : (e : Refusal) → number_of e ≡ guard_in p → ⊥
  unrefused r h = numbered r (h ∙ no_guard)

  pub relaxed_stays : (w n : ℕ) (c : ℤ) → leaves (relaxed_numbers (campaign_of p) w n c) ≡ false
  relaxed_stays w n c = none_leaves relaxed (campaign_of p) w n c unguarded

  pub restricted_stays : (w : ℕ) → leaves (restricted_numbers (campaign_of p) w) ≡ false
  restricted_stays w = none_leaves restricted (campaign_of p) w 0 (pos 0) unguarded

  -- ---- n, m and the needs
  pub slots_are : length p.sets ≡ 24 → slots (campaign_of p) ≡ p.slots
  slots_are long = length-take-le p.slots p.sets (omega (arith, (right version1 p e).head.most))

  pub arcs_need_lem : length p.sets ≡ 24 → (w : ℕ) → 8 * p.slots * w ≡ arcs_need (campaign_of p) w
  arcs_need_lem long w = rw (slots_are long) refl

  pub cells_need_lem : length p.sets ≡ 24 → (w : ℕ) → (p.slots + 1) * w * (4 * p.rules + 3) ≡ cells_need (campaign_of p) w
  cells_need_lem long w = rw (slots_are long, rules_long p) (ap (λ (n : ℕ). n * w * (4 * p.rules + 3)) (omega arith))
