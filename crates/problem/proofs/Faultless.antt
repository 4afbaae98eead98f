-- What does it say of a problem by value that it has no fault? The facts in words, where the definitions have tests.
use mathlib.Core.Path.{◌≡◌, sym}
use mathlib.Core.Bool.{true, ◌&&◌, true≢false}
use mathlib.Core.List.{List}
use Prim.Native.Nat.{ℕ, ◌<◌}
use native.Mathlib.Nat.{zero-add}
use native.Mathlib.Omega.{arith}
use lib.IntN.{ℤ, pos}
use lib.ListN.{get_or, take}
use Rattle.std.proofs.lemmas.List.{get_or-take}
use Rattle.laws.specs.Z.{Within}
use Rattle.laws.specs.Lists.{every, from}
use Rattle.laws.proofs.Lists.{and_l, and_r, In, in_from, every_in}
use Rattle.laws.proofs.Each.{Each, each_at}
use Rattle.meaning.specs.Problem.{Format, version1, size, right_head, right_set, right_rule}
use Rattle.meaning.proofs.Faultless.{HeadRange, RightTerms, RightFields, test_range, test_nonzero, size_each, test_fields, no_fault}
use Rattle.problem.specs.declared.Problem.{Problem}
use Rattle.problem.specs.declared.Terms.{Terms}
use Rattle.problem.specs.declared.Terms.TheVariants.{Among, Sum, Neither}
use Rattle.problem.specs.Held.{said_terms, said, said_at, right_kind, right_at, fault_in, IsSmallAt}

-- ---- a rule
pub record RightOne (f : Format) (p : Problem) (k : ℕ) : Type 0 where
  -- "two bodies and the refusal of all others"
  pub kind : get_or p.terms k Neither ≡ Neither → ⊥
  -- no "field outside its range, or lb above ub"
  pub fields : RightFields f p.slots (said_at p k)
  -- the coefficients of a sum rule
  pub coefs : (c : List ℤ) → get_or p.terms k Neither ≡ Sum c → Each (Within f.coefficient) (take p.slots c)

-- ---- the problem
pub record Right (f : Format) (p : Problem) : Type 0 where
  -- n and m within their ranges
  pub head : HeadRange p.slots p.rules
  -- "never zero"
  pub sets : In 0 (take p.slots p.sets) → ⊥
  -- no "weight outside its range"
  pub weights : Each (Within f.weight) (take p.slots p.weights)
  -- each rule
  pub rule : (k : ℕ) → k < p.rules → RightOne f p k

right_one : (f : Format) (p : Problem) (k : ℕ) → right_at f p k ≡ true → RightOne f p k
right_one f p k e =
    let terms = get_or p.terms k Neither in
    let known = and_l (right_kind terms) (right_rule f p.slots (said_at p k)) e in
    let fields = test_fields f p.slots (said_at p k) (and_r (right_kind terms) (right_rule f p.slots (said_at p k)) e) in
    record {
      kind = λ q. true≢false (rw q at (sym known));
      fields = fields;
      coefs = λ c q. rw q at fields.terms;
    }

pub right : (f : Format) (p : Problem) → fault_in f p ≡ 0 → Right f p
right f p e =
    let a = every right_set (said p).sets in
    let b = every (size f.weight) (said p).weights in
    let tests = no_fault (right_head p.slots p.rules) (a && b) (every (right_at f p) (from 0 p.rules)) e in
    record {
      head = test_range p.slots p.rules tests.0;
      sets = test_nonzero (said p).sets (and_l a b tests.1);
      weights = size_each f.weight (said p).weights (and_r a b tests.1);
      rule = λ k h. right_one f p k (every_in (right_at f p) (from 0 p.rules) tests.2 (rw zero-add at (in_from 0 p.rules k h)));
    }

-- ---- the coefficient of a slot
small_terms : (n i : ℕ) (t : Terms) → RightTerms version1 n (said_terms n t) → i < n → IsSmallAt t i
small_terms n i (Among s t) h l = tt
small_terms n i (Sum c) h l =
    rw (get_or-take n c i (pos 0) l) at (each_at (Within 1000) (take n c) i (pos 0) (record { size = omega arith }) h)
small_terms n i Neither h l = tt

pub right_small : (p : Problem) (k i : ℕ) → RightOne version1 p k → i < p.slots → IsSmallAt (get_or p.terms k Neither) i
right_small p k i r l = small_terms p.slots i (get_or p.terms k Neither) r.fields.terms l
