-- Which fields has the body of a rule, one behind the other, and when is it refused?
use mathlib.Core.Path.{◌≡◌, refl, sym, ap, ◌∙◌}
use mathlib.Core.List.{List, [], map}
use mathlib.Core.Bool.{Bool, true, false, cond, ◌&&◌}
use Prim.Native.Nat.{ℕ, ◌+◌, ◌*◌}
use native.Mathlib.Omega.{arith}
use lib.ListN.{length, take, drop, length-drop, drop_of_length-le}
use lib.IntN.{ℤ, pos}
use lib.Seq.{drop-drop, take-take, take_all}
use Rattle.std.proofs.Math.Bool.{and-true}
use Rattle.std.specs.Int.Signed.{le_z}
use Rattle.laws.specs.Lists.{parted}
use Rattle.laws.proofs.Parts.{parted_take}
use Rattle.laws.proofs.Filled.{take_within}
use Rattle.meaning.specs.Problem.{Said, Terms, among, sums, version1, size, right_terms, right_rule}
use Rattle.meaning.specs.File.{refused, got, Reader, onward, little, signed, part, checked, fields_next, said_of, among_body, sum_body, body_next}
use Rattle.problem.specs.declared.Bounds.{Bounds}
use Rattle.cursor.specs.Fields.{field_next}
use Rattle.rtp.specs.Reading.{bounds_said}
use Rattle.rtp.proofs.Parts.{onward_twice, onward_field, onward_part, parts_two}

-- ---- lb, then ub
pub bounds_fields : (s : List ℕ) → field_next 8 bounds_said s ≡ onward (field_next 4 (signed 4) s) (λ lb u. onward (field_next 4 (signed 4) u) (λ ub. got (record { lb = lb; ub = ub })))
bounds_fields s = parts_two 4 4 (λ a b. both (signed 4 a) (signed 4 b)) s ∙ sym (λ i. onward (part 4 s) (λ a u. onward_field 4 (signed 4) (both (signed 4 a)) u i)) ∙ sym (onward_field 4 (signed 4) (λ lb u. onward (field_next 4 (signed 4) u) (both lb)) s)
  where
    both : ℤ → ℤ → Reader Bounds
    both lb ub = got (record { lb = lb; ub = ub })

-- ---- a rule of its terms and bounds
abbrev pub said_so : Terms → Bounds → Said
said_so t b = record { terms = t; lb = b.lb; ub = b.ub; lead = pos 0 }

abbrev pub right_bounds : Bounds → Bool
right_bounds b = size 200000 b.lb && size 200000 b.ub && le_z b.lb b.ub

-- the rule, or 6
abbrev pub tested : ℕ → Terms → Bounds → Reader Said
tested n t b u = cond (right_terms version1 n t && right_bounds b) (got (said_so t b) u) (refused 6)

four_tests : (a b c d : Bool) → (a && b && c && d && true) ≡ (a && (b && c && d))
four_tests true b c d = and-true (b && c && d)
four_tests false b c d = refl

rule_tested : (n : ℕ) (t : Terms) (b : Bounds) → right_rule version1 n (said_so t b) ≡ (right_terms version1 n t && right_bounds b)
rule_tested n (among s t) b = four_tests (right_terms version1 n (among s t)) (size 200000 b.lb) (size 200000 b.ub) (le_z b.lb b.ub)
rule_tested n (sums c) b = four_tests (right_terms version1 n (sums c)) (size 200000 b.lb) (size 200000 b.ub) (le_z b.lb b.ub)

module _ (n k : ℕ) (g : List ℕ → Said) (t : List ℕ → Terms) (is : (c : List ℕ) → length c ≡ k + 8 → g c ≡ said_of version1 (t (take k c)) (drop k c)) where
  abbrev all : List ℕ → Reader Said
  all c u = onward (checked 6 (right_rule version1 n (g c)) u) (λ z. got (g c))

  abbrev each : List ℕ → List ℕ → Reader Said
  each a b = tested n (t a) (bounds_said b)

  all_is : (c u : List ℕ) → length c ≡ k + 8 → all c u ≡ each (take k c) (take 8 (drop k c)) u
  all_is c u h = rw (said_is, rule_tested n (t (take k c)) (bounds_said (drop k c)), whole) (go (right_terms version1 n (t (take k c)) && right_bounds (bounds_said (drop k c))))
    where
      none : drop 8 (drop k c) ≡ []
      none = drop-drop 8 k c ∙ drop_of_length-le c (omega arith)

      whole : take 8 (drop k c) ≡ drop k c
      whole = take_all 8 (drop k c) (omega (arith, length-drop k c))

      x : Said
      x = said_so (t (take k c)) (bounds_said (drop k c))

      said_is : g c ≡ x
      said_is = is c h ∙ rw none refl

      go : (r : Bool) → onward (checked 6 r u) (λ z. got x) ≡ cond r (got x u) (refused 6)
      go true = refl
      go false = refl

  -- terms of k bytes, then the bounds
  body_is : (s : List ℕ) → body_next version1 n k g s ≡ onward (part k s) (λ a u. onward (field_next 8 bounds_said u) (tested n (t a)))
  body_is s =
      let no_lead : k + 8 + 0 ≡ k + 8 = omega arith in
      ap (λ (m : ℕ). onward (part m s) all) no_lead
      ∙ onward_part (k + 8) all (λ c. each (take k c) (take 8 (drop k c))) s all_is
      ∙ parts_two k 8 each s
      ∙ sym (λ i. onward (part k s) (λ a u. onward_field 8 bounds_said (tested n (t a)) u i))

-- ---- among: S, the slots, the bounds
pub among_fields : (n : ℕ) (s : List ℕ) → body_next version1 n 5 (among_body version1) s ≡ onward (field_next 1 little s) (λ v u. onward (field_next 4 little u) (λ t w. onward (field_next 8 bounds_said w) (tested n (among v t))))
among_fields n s =
    let terms : List ℕ → Terms = λ a. among (little (take 1 a)) (little (take 4 (drop 1 a))) in
    body_is n 5 (among_body version1) terms (λ c h. rw (take-take 1 5 c (omega arith), take_within 1 4 5 c (omega arith)) refl) s
    ∙ parts_two 1 4 (λ a b u. behind (little a) (little b) u) s
    ∙ sym (λ i. onward (part 1 s) (λ a u. onward_field 4 little (behind (little a)) u i))
    ∙ sym (onward_field 1 little (λ v u. onward (field_next 4 little u) (behind v)) s)
  where
    behind : ℕ → ℕ → Reader Said
    behind v t u = onward (field_next 8 bounds_said u) (tested n (among v t))

-- ---- sum: n coefficients, the bounds
pub sum_fields : (n : ℕ) (s : List ℕ) → body_next version1 n (n * 2) (sum_body version1 n) s ≡ onward (fields_next n 2 (signed 2) s) (λ c u. onward (field_next 8 bounds_said u) (tested n (sums c)))
sum_fields n s =
    let terms : List ℕ → Terms = λ a. sums (map (signed 2) (parted n 2 a)) in
    body_is n (n * 2) (sum_body version1 n) terms (λ c h. rw (parted_take n 2 c (omega arith)) refl) s
    ∙ sym (onward_twice (part (n * 2) s) (λ b. got (map (signed 2) (parted n 2 b))) (λ c u. onward (field_next 8 bounds_said u) (tested n (sums c))))
