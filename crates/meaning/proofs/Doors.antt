-- When does an operation refuse, and with what? On an accepted file 8, 10 and 11 exactly as their rows say, and 9 never; with the number alone.
use mathlib.Core.Path.{◌≡◌, refl, sym, ap, subst, ◌∙◌}
use mathlib.Core.List.{List, [], ◌∷◌}
use mathlib.Core.Bool.{Bool, true, false, not, ◌&&◌, ◌||◌, true≢false}
use mathlib.Core.Logic.{◌⊎◌, inl, inr}
use mathlib.Core.Option.{Option, none, some}
use Prim.Native.Nat.{ℕ, zero, suc, ◌≤◌}
use lib.Dec.{eqb, ltb, leb}
use lib.ListN.{length}
use borrow.Author.Tests.{leb-true, le-leb, ltb-false, le-ltb, eqb-true, eq-eqb, not-false}
use lib.IntN.{ℤ, pos}
use Rattle.laws.specs.Z.{Within}
use Rattle.laws.specs.Lists.{every}
use Rattle.laws.proofs.Lists.{and_l, and_r, and_both, no_false}
use Rattle.meaning.specs.Plan.{Campaign, slots}
use Rattle.meaning.specs.Problem.{Problem, campaign, most_width, most_rounds, limit, size, first_fault}
use Rattle.meaning.specs.Diagram.{relaxed, restricted, is_exact}
use Rattle.meaning.specs.Bound.{dual, primal}
use Rattle.meaning.specs.Buffers.{arcs_need, cells_need}
use Rattle.meaning.specs.File.{Got, refused, got, read_of}
use Rattle.meaning.specs.Running.{leaves, relaxed_numbers, restricted_numbers}
use Rattle.meaning.specs.Calls.{Bound, Count, Lent, Done, unless, guarded, opened, wrong_width, wrong_numbers, wrong_start, short_diagram, short_plan, read, judge, empty_start, better, bound_of, no_bound, relaxed_done, relaxed_fault, relaxed_call, restricted_done, restricted_fault, restricted_call, no_count, page_done, page_fault, page_call}
use Rattle.meaning.proofs.Faultless.{within_size, size_within}
use Rattle.meaning.proofs.Ranges.{ranges}
use Rattle.meaning.proofs.Bytes.{is_byte}
use Rattle.meaning.proofs.Files.{accepted_in_range}

-- ---- what the rows ask
-- "width outside 1 to 16"
abbrev pub RightWidth : ℕ → Type 0
RightWidth w = (1 ≤ w) × (w ≤ most_width)

-- "rounds above 64, or ceiling outside ±2,000,000"
abbrev pub RightNumbers : ℕ → ℕ → ℤ → Type 0
RightNumbers w n c = RightWidth w × ((n ≤ most_rounds) × Within limit c)

-- "a start plan whose length is neither 0 nor n"
abbrev pub RightStart : Campaign → List ℕ → Type 0
RightStart q s = (length s ≡ 0) ⊎ (length s ≡ slots q)

-- "a lent buffer shorter than its need": of a diagram, and of a plan or a page
abbrev pub Enough : Campaign → ℕ → Lent → Type 0
Enough q w l = (arcs_need q w ≤ length l.arcs) × (cells_need q w ≤ length l.cells)

abbrev pub EnoughPlan : Campaign → Lent → Type 0
EnoughPlan q l = slots q ≤ length l.plan

-- the rows 8, 10 and 11, "given exactly when no earlier fault stands and" what they ask does not hold; 0 where nothing stands
pub data Door (Numbers Start Room : Type 0) : ℕ → Type 0 where
  numbers_wrong : (Numbers → ⊥) → Door Numbers Start Room 8
  start_wrong : Numbers → (Start → ⊥) → Door Numbers Start Room 10
  short_buffer : Numbers → Start → (Room → ⊥) → Door Numbers Start Room 11
  served : Numbers → Start → Room → Door Numbers Start Room 0

-- ---- a test that fails exactly if P holds
record Tests (t : Bool) (P : Type 0) : Type 0 where
  holds : t ≡ false → P
  clear : P → t ≡ false

module _ {t : Bool} {P : Type 0} (h : Tests t P) where
  stands : t ≡ true → P → ⊥
  stands e p = true≢false (sym e ∙ h.clear p)

  standing : (P → ⊥) → t ≡ true
  standing f = no_false t (λ e. f (h.holds e))

-- none: an operation without that argument
unasked : Tests false (Unit {0})
unasked = record { holds = λ e. tt; clear = λ u. refl }

le_test : (a b : ℕ) → Tests (ltb a b) (b ≤ a)
le_test a b = record { holds = ltb-false a b; clear = le-ltb a b }

both_tests : {a b : Bool} {P Q : Type 0} → Tests a P → Tests b Q → Tests (a || b) (P × Q)
both_tests {a} {b} {P} {Q} h k = record { holds = λ e. go a refl e; clear = λ p. rw (h.clear p.0, k.clear p.1) }
  where
    go : (x : Bool) → a ≡ x → (x || b) ≡ false → P × Q
    go true e f = absurd (true≢false f)
    go false e f = (h.holds e, k.holds f)

width_test : (w : ℕ) → Tests (wrong_width w) (RightWidth w)
width_test w = record {
  holds = λ e. let both = not-false (leb 1 w && leb w most_width) e in (leb-true 1 w (and_l (leb 1 w) (leb w most_width) both), leb-true w most_width (and_r (leb 1 w) (leb w most_width) both));
  clear = λ p. rw (le-leb 1 w p.0, le-leb w most_width p.1);
}

numbers_test : (w n : ℕ) (c : ℤ) → Tests (wrong_numbers w n c) (RightNumbers w n c)
numbers_test w n c = both_tests (width_test w) (record {
  holds = λ e. let both = not-false (leb n most_rounds && size limit c) e in (leb-true n most_rounds (and_l (leb n most_rounds) (size limit c) both), size_within limit c (and_r (leb n most_rounds) (size limit c) both));
  clear = λ p. ap not (and_both (leb n most_rounds) (size limit c) (le-leb n most_rounds p.0) (within_size limit c p.1));
})

start_test : (q : Campaign) (s : List ℕ) → Tests (wrong_start q s) (RightStart q s)
start_test q s = record { holds = λ e. go (eqb (length s) 0) refl (not-false (eqb (length s) 0 || eqb (length s) (slots q)) e); clear = clear }
  where
    go : (x : Bool) → eqb (length s) 0 ≡ x → (x || eqb (length s) (slots q)) ≡ true → RightStart q s
    go true e f = inl (eqb-true (length s) 0 e)
    go false e f = inr (eqb-true (length s) (slots q) f)

    clear : RightStart q s → wrong_start q s ≡ false
    clear (inl e) = rw (eq-eqb (length s) 0 e)
    clear (inr e) = second (eqb (length s) 0) (eq-eqb (length s) (slots q) e)
      where
        second : (x : Bool) {y : Bool} → y ≡ true → not (x || y) ≡ false
        second true f = refl
        second false f = rw f

room_test : (q : Campaign) (w : ℕ) (l : Lent) → Tests (short_diagram q w l) (Enough q w l)
room_test q w l = both_tests (le_test (length l.arcs) (arcs_need q w)) (le_test (length l.cells) (cells_need q w))

page_test : (q : Campaign) (w : ℕ) (l : Lent) → Tests (short_diagram q w l || short_plan q l) (Enough q w l × EnoughPlan q l)
page_test q w l = both_tests (room_test q w l) (le_test (length l.plan) (slots q))

-- ---- the first fault that stands
module _ {N S R : Type 0} {a b c : Bool} (n : Tests a N) (s : Tests b S) (r : Tests c R) where
  abbrev first : ℕ
  first = first_fault ((8, a) ∷ (10, b) ∷ (11, c) ∷ [])

  first_door : Door N S R first
  first_door = go a b c refl refl refl
    where
      go : (x y z : Bool) → a ≡ x → b ≡ y → c ≡ z → Door N S R (first_fault ((8, x) ∷ (10, y) ∷ (11, z) ∷ []))
      go true y z e f g = numbers_wrong (stands n e)
      go false true z e f g = start_wrong (n.holds e) (stands s f)
      go false false true e f g = short_buffer (n.holds e) (s.holds f) (stands r g)
      go false false false e f g = served (n.holds e) (s.holds f) (r.holds g)

  door_first : {k : ℕ} → Door N S R k → first ≡ k
  door_first (numbers_wrong f) = rw (standing n f)
  door_first (start_wrong x f) = rw (n.clear x, standing s f)
  door_first (short_buffer x y f) = rw (n.clear x, s.clear y, standing r f)
  door_first (served x y z) = rw (n.clear x, s.clear y, r.clear z)

  -- a number that is this one is given exactly as the rows say
  exactly : {m : ℕ} → m ≡ first → (k : ℕ) → (m ≡ k → Door N S R k) × (Door N S R k → m ≡ k)
  exactly e k = (λ f. subst (Door N S R) (sym e ∙ f) first_door, λ d. e ∙ door_first d)

-- ---- what is refused has the refusal's number, what is served has 0
module _ {A : Type 0} (number : A → ℕ) (refusal : ℕ → A) where
  -- an answer is served, or it is its number's refusal and nothing else
  abbrev pub Alone : A → Type 0
  Alone x = (number x ≡ 0) ⊎ (x ≡ refusal (number x))

  module _ (same : (k : ℕ) → number (refusal k) ≡ k) where
    given : (done : A) → number done ≡ 0 → (k : ℕ) → number (unless k refusal done) ≡ k
    given done e zero = e
    given done e (suc k) = same (suc k)

    refused_alone : (k : ℕ) → Alone (refusal k)
    refused_alone k = inr (ap refusal (sym (same k)))

    unless_alone : (k : ℕ) (done : A) → Alone done → Alone (unless k refusal done)
    unless_alone zero done h = h
    unless_alone (suc k) done h = refused_alone (suc k)

    -- 9 behind the others, and the file before them
    call_alone : (g : Got Problem) (fault : Campaign → ℕ) (zs : Campaign → List ℤ) (done : Campaign → A) → ((q : Campaign) → number (done q) ≡ 0)
        → Alone (opened g refusal (λ q. unless (fault q) refusal (guarded (zs q) refusal (done q))))
    call_alone (refused k) fault zs done e = refused_alone k
    call_alone (got p s) fault zs done e =
        let q = campaign p in
        unless_alone (fault q) (guarded (zs q) refusal (done q)) (unless_alone (first_fault ((9, leaves (zs q)) ∷ [])) (done q) (inl (e q)))

bound_number_lem : (z : Option ℤ) (t : Bool) → (bound_of z t).number ≡ 0
bound_number_lem none t = refl
bound_number_lem (some z) t = refl

-- ---- any file, arguments and buffers: "every refusal returns its number, no other answer, and the lent buffers unchanged"
abbrev bound_number : Done Bound → ℕ
bound_number x = x.answer.number

abbrev count_number : Done Count → ℕ
count_number x = x.answer.number

pub relaxed_alone : (f : List ℕ) (w n : ℕ) (c : ℤ) (l : Lent) → Alone bound_number (no_bound l) (relaxed_call f w n c l)
relaxed_alone f w n c l =
    call_alone bound_number (no_bound l) (λ k. refl) (read_of f) (λ q. relaxed_fault q w n c l) (λ q. relaxed_numbers q w n c) (λ q. relaxed_done q w n c l)
    (λ q. bound_number_lem (dual q w n c) (is_exact relaxed q w))

pub restricted_alone : (f : List ℕ) (w : ℕ) (l : Lent) → Alone bound_number (no_bound l) (restricted_call f w l)
restricted_alone f w l =
    call_alone bound_number (no_bound l) (λ k. refl) (read_of f) (λ q. restricted_fault q w l) (λ q. restricted_numbers q w) (λ q. restricted_done q w l)
    (λ q. bound_number_lem (primal q w) (is_exact restricted q w))

pub page_alone : (f : List ℕ) (w n : ℕ) (c : ℤ) (s : List ℕ) (l : Lent) → Alone count_number (no_count l) (page_call f w n c s l)
page_alone f w n c s l =
    call_alone count_number (no_count l) (λ k. refl) (read_of f) (λ q. page_fault q w n c s l) (λ q. relaxed_numbers q w n c) (λ q. page_done q w n c s l) (λ q. refl)

-- ---- a refused file: its number comes before all others, in every operation
pub file_first : (f : List ℕ) (k : ℕ) → read_of f ≡ refused k → (w n : ℕ) (c : ℤ) (s a b : List ℕ) (l : Lent)
    → ((read f).number ≡ k) × (judge f a ≡ record { number = k; lawful = false; cost = pos 0 }) × (better f a b ≡ empty_start)
    × (relaxed_call f w n c l ≡ no_bound l k) × (restricted_call f w l ≡ no_bound l k) × (page_call f w n c s l ≡ no_count l k)
file_first f k e w n c s a b l = (rw e, rw e, rw e, rw e, rw e, rw e)

-- ---- the operations on an accepted file
module _ (f : List ℕ) (low : every is_byte f ≡ true) (p : Problem) (rest : List ℕ) (e : read_of f ≡ got p rest) where
  abbrev q : Campaign
  q = campaign p

  -- 9 is never given: the others are left, or the service
  pub relaxed_answer : (w n : ℕ) (c : ℤ) (l : Lent)
      → relaxed_call f w n c l ≡ unless (relaxed_fault q w n c l) (no_bound l) (relaxed_done q w n c l)
  relaxed_answer w n c l = rw (e, (ranges p w n c (accepted_in_range f p rest low e).0).0)

  pub restricted_answer : (w : ℕ) (l : Lent)
      → restricted_call f w l ≡ unless (restricted_fault q w l) (no_bound l) (restricted_done q w l)
  restricted_answer w l = rw (e, (ranges p w 0 (pos 0) (accepted_in_range f p rest low e).0).1)

  pub page_answer : (w n : ℕ) (c : ℤ) (s : List ℕ) (l : Lent)
      → page_call f w n c s l ≡ unless (page_fault q w n c s l) (no_count l) (page_done q w n c s l)
  page_answer w n c s l = rw (e, (ranges p w n c (accepted_in_range f p rest low e).0).0)

  -- the rows 8, 10, 11
  pub relaxed_exactly : (w n : ℕ) (c : ℤ) (l : Lent) (k : ℕ)
      → ((relaxed_call f w n c l).answer.number ≡ k → Door (RightNumbers w n c) (Unit {0}) (Enough q w l) k)
      × (Door (RightNumbers w n c) (Unit {0}) (Enough q w l) k → (relaxed_call f w n c l).answer.number ≡ k)
  relaxed_exactly w n c l k =
      exactly (numbers_test w n c) unasked (room_test q w l)
      (ap bound_number (relaxed_answer w n c l) ∙ given bound_number (no_bound l) (λ k. refl) (relaxed_done q w n c l) (bound_number_lem (dual q w n c) (is_exact relaxed q w)) (relaxed_fault q w n c l)) k

  pub restricted_exactly : (w : ℕ) (l : Lent) (k : ℕ)
      → ((restricted_call f w l).answer.number ≡ k → Door (RightWidth w) (Unit {0}) (Enough q w l × EnoughPlan q l) k)
      × (Door (RightWidth w) (Unit {0}) (Enough q w l × EnoughPlan q l) k → (restricted_call f w l).answer.number ≡ k)
  restricted_exactly w l k =
      exactly (width_test w) unasked (page_test q w l)
      (ap bound_number (restricted_answer w l) ∙ given bound_number (no_bound l) (λ k. refl) (restricted_done q w l) (bound_number_lem (primal q w) (is_exact restricted q w)) (restricted_fault q w l)) k

  pub page_exactly : (w n : ℕ) (c : ℤ) (s : List ℕ) (l : Lent) (k : ℕ)
      → ((page_call f w n c s l).answer.number ≡ k → Door (RightNumbers w n c) (RightStart q s) (Enough q w l × EnoughPlan q l) k)
      × (Door (RightNumbers w n c) (RightStart q s) (Enough q w l × EnoughPlan q l) k → (page_call f w n c s l).answer.number ≡ k)
  page_exactly w n c s l k =
      exactly (numbers_test w n c) (start_test q s) (page_test q w l)
      (ap count_number (page_answer w n c s l) ∙ given count_number (no_count l) (λ k. refl) (page_done q w n c s l) refl (page_fault q w n c s l)) k
