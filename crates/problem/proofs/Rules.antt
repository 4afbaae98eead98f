-- When is a rule of a problem by value right? Its kind, the fields of that kind, and its bounds; and when are all of them?
use mathlib.Core.Path.{◌≡◌, refl}
use mathlib.Core.List.{List, [], ◌∷◌}
use mathlib.Core.Bool.{Bool, true, false, ◌&&◌}
use Prim.Native.Nat.{ℕ, zero, suc, ◌+◌, ◌≤◌, ◌<◌}
use native.Mathlib.Nat.{add-zero, zero-add}
use native.Mathlib.Omega.{arith}
use lib.ListN.{length, get_or, take}
use lib.IntN.{ℤ, pos}
use lib.Signed.{le_z}
use Rattle.std.specs.Prelude.{zip}
use Rattle.std.specs.List.{list_all}
use Rattle.laws.specs.Lists.{every, from}
use Rattle.laws.proofs.Lists.{and_true}
use Rattle.meaning.specs.Problem.{among, sums, Format, version1, size, right_terms, right_lead, right_rule}
use Rattle.meaning.specs.Problem as paper
use Rattle.problem.specs.declared.Problem.{Problem}
use Rattle.problem.specs.declared.Bounds.{Bounds}
use Rattle.problem.specs.declared.Terms.{Terms}
use Rattle.problem.specs.declared.Terms.TheVariants.{Neither}
use Rattle.problem.specs.Held.{said_terms, rule_said, no_bounds, right_one, right_at}

-- the bounds of a rule
abbrev pub right_bounds : ℤ → ℤ → Bool
right_bounds lb ub = size 200000 lb && size 200000 ub && le_z lb ub

pub bounds_same : {a b x y : ℤ} → a ≡ x → b ≡ y → right_bounds a b ≡ right_bounds x y
bounds_same p q = cc

-- there is no lead-in to test
no_lead : (t : paper.Terms) → right_lead version1 t (pos 0) ≡ true
no_lead (among s t) = refl
no_lead (sums c) = refl

grouped : (t a b c l : Bool) → l ≡ true → (t && a && b && c && l) ≡ (t && (a && b && c))
grouped true a b c l e = and_true (a && b && c) l e
grouped false a b c l e = refl

-- the terms, then the bounds
pub rule_parts : (n : ℕ) (t : Terms) (b : Bounds) → right_rule version1 n (rule_said n t b) ≡ (right_terms version1 n (said_terms n t) && right_bounds b.lb b.ub)
rule_parts n t b =
    grouped (right_terms version1 n (said_terms n t)) (size 200000 b.lb) (size 200000 b.ub) (le_z b.lb b.ub) (right_lead version1 (said_terms n t) (pos 0)) (no_lead (said_terms n t))

-- ---- a test of pairs by their places
places_zip : {A B : Type 0} (t : A → B → Bool) (a : A) (b : B) (p : ℕ → Bool) (j m : ℕ) (xs : List A) (ys : List B) → m ≤ length xs → m ≤ length ys
    → ((k : ℕ) → k < m → p (j + k) ≡ t (get_or xs k a) (get_or ys k b)) → every p (from j m) ≡ list_all (λ q. t q.0 q.1) (zip (take m xs) (take m ys))
places_zip t a b p j zero xs ys h g e = refl
places_zip t a b p j (suc m) [] ys h g e = absurd (omega arith)
places_zip t a b p j (suc m) (x ∷ xs) [] h g e = absurd (omega arith)
places_zip t a b p j (suc m) (x ∷ xs) (y ∷ ys) h g e =
    let first : p j ≡ t x y = rw (add-zero j) at (e 0 (omega arith)) in
    let rest : every p (from (suc j) m) ≡ list_all (λ q. t q.0 q.1) (zip (take m xs) (take m ys)) =
    places_zip t a b p (suc j) m xs ys (omega arith) (omega arith) (λ k l. let place : suc j + k ≡ j + suc k = omega arith in rw place (e (suc k) (omega arith))) in
    (λ i. first i && rest i)

-- every rule is right
pub rules_test : (f : Format) (p : Problem) → p.rules ≤ length p.terms → p.rules ≤ length p.bounds
    → every (right_at f p) (from 0 p.rules) ≡ list_all (λ q. right_one f p.slots q.0 q.1) (zip (take p.rules p.terms) (take p.rules p.bounds))
rules_test f p h g =
    places_zip (right_one f p.slots) Neither no_bounds (right_at f p) 0 p.rules p.terms p.bounds h g (λ k l. rw (zero-add k) refl)
