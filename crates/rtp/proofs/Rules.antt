-- m rules one behind the other: what the loop lays in its arrays is what the meanings read.
use mathlib.Core.Path.{◌≡◌, refl, ap, ◌∙◌}
use mathlib.Core.List.{List, [], ◌∷◌, ◌++◌, map, append_assoc, append-nil, map-append}
use Prim.Native.Nat.{ℕ, zero, suc, ◌+◌, ◌≤◌, ◌<◌}
use native.Mathlib.Omega.{arith}
use lib.ListN.{length, set, replicate, length-map, length-append}
use Rattle.laws.specs.Lists.{padded}
use Rattle.laws.proofs.Filled.{padded_more}
use Rattle.meaning.specs.Problem.{Said, version1}
use Rattle.meaning.specs.File.{Got, refused, got, Reader, onward, gives, little, part, kind_next, rules_next}
use Rattle.problem.specs.declared.Bounds.{Bounds}
use Rattle.problem.specs.declared.Terms.{Terms}
use Rattle.problem.specs.declared.Terms.TheVariants.{Neither}
use Rattle.problem.specs.Held.{terms_of, bounds_of, no_bounds}
use Rattle.rtp.specs.Reading.{rule_next, onto, parts_of, all_parts}
use Rattle.rtp.proofs.Parts.{onward_twice}

-- the next j rules, laid from place k on
abbrev pub laid : ℕ → ℕ → ℕ → List Terms → List Bounds → Reader (List Terms × List Bounds)
laid n zero k ts bs s = got (ts, bs) s
laid n (suc j) k ts bs s = onward (onto parts_of (rule_next n s)) (λ p. laid n j (k + 1) (set ts k p.0) (set bs k p.1))

-- one more place
place_more : {A : Type 0} (f : Said → A) (z : A) (done : List Said) (x : Said) → length done < 8 → set (padded 8 z (map f done)) (length done) (f x) ≡ padded 8 z (map f (done ++ x ∷ []))
place_more f z done x h =
    let long : length (map f done) ≡ length done = length-map done f in
    rw (map-append f done (x ∷ [])) (rw long at (padded_more z 8 (map f done) (f x) (omega arith)))

abbrev terms_at : Said → Terms
terms_at r = terms_of r.terms

module _ (n : ℕ) where
  -- the next m rules, behind those that were read
  abbrev laid_more : ℕ → List Said → Reader (List Terms × List Bounds)
  laid_more m done = laid n m (length done) (padded 8 Neither (map terms_at done)) (padded 8 no_bounds (map bounds_of done))

  abbrev read_more : ℕ → List Said → Reader (List Terms × List Bounds)
  read_more m done s = onto (λ rs. all_parts (done ++ rs)) (rules_next version1 n m s)

  laid_behind : (m : ℕ) (done : List Said) (s : List ℕ) → length done + m ≤ 8 → laid_more m done s ≡ read_more m done s
  laid_behind zero done s h = rw (append-nil done) refl
  laid_behind (suc m) done s h =
      let room : length done < 8 = omega arith in
      let long = λ (x : Said). length-append done (x ∷ []) in
      go room (λ x u. laid_behind m (done ++ x ∷ []) u (omega (arith, long x))) (rule_next n s)
      ∙ ap (onto (λ rs. all_parts (done ++ rs))) (onward_twice (part 1 s) (λ k. kind_next version1 n (little k)) others)
    where
      others : Said → Reader (List Said)
      others x u = onward (rules_next version1 n m u) (λ rs. got (x ∷ rs))

      one_more : (x : Said) (g : Got (List Said)) → onto (λ rs. all_parts ((done ++ x ∷ []) ++ rs)) g ≡ onto (λ rs. all_parts (done ++ rs)) (onward g (λ rs. got (x ∷ rs)))
      one_more x (refused k) = refl
      one_more x (got rs u) = rw (append_assoc done (x ∷ []) rs) refl

      go : length done < 8 → ((x : Said) (u : List ℕ) → laid_more m (done ++ x ∷ []) u ≡ read_more m (done ++ x ∷ []) u) → (g : Got Said)
          → onward (onto parts_of g) (λ p. laid n m (length done + 1) (set (padded 8 Neither (map terms_at done)) (length done) p.0) (set (padded 8 no_bounds (map bounds_of done)) (length done) p.1))
          ≡ onto (λ rs. all_parts (done ++ rs)) (onward g others)
      go room later (refused k) = refl
      go room later (got x u) =
          let long : length (done ++ x ∷ []) ≡ length done + 1 = length-append done (x ∷ []) in
          rw (place_more terms_at Neither done x room, place_more bounds_of no_bounds done x room, ← long) (later x u ∙ one_more x (rules_next version1 n m u))

  -- all of them
  pub laid_all : (m : ℕ) (s : List ℕ) → m ≤ 8 → laid n m 0 (replicate 8 Neither) (replicate 8 no_bounds) s ≡ onto all_parts (rules_next version1 n m s)
  laid_all m s h = laid_behind m [] s (omega arith)

-- ---- m rules are m
abbrev Counts : ℕ → Got (List Said) → Type 0
Counts m (refused k) = Unit {0}
Counts m (got rs u) = length rs ≡ m

counts_onward : {A : Type 0} (m : ℕ) (g : Got A) (f : A → Reader (List Said)) → ((x : A) (u : List ℕ) → Counts m (f x u)) → Counts m (onward g f)
counts_onward m (refused k) f h = tt
counts_onward m (got x u) f h = h x u

counts_more : (m : ℕ) (x : Said) (g : Got (List Said)) → Counts m g → Counts (suc m) (onward g (λ rs. gives (x ∷ rs)))
counts_more m x (refused k) h = tt
counts_more m x (got rs u) h = ap suc h

rules_count : (n m : ℕ) (s : List ℕ) → Counts m (rules_next version1 n m s)
rules_count n zero s = refl
rules_count n (suc m) s =
    counts_onward (suc m) (part 1 s) _ (λ k u. counts_onward (suc m) (kind_next version1 n (little k) u) _ (λ x w. counts_more m x (rules_next version1 n m w) (rules_count n m w)))

-- what was read
abbrev value_or : {A : Type 0} → A → Got A → A
value_or d (refused k) = d
value_or d (got x u) = x

-- the rules that were read into arrays
pub record Read (m : ℕ) (ts : List Terms) (bs : List Bounds) (u : List ℕ) (g : Got (List Said)) : Type 0 where
  pub rules : List Said
  pub is : g ≡ got rules u
  pub count : length rules ≡ m
  pub terms : ts ≡ padded 8 Neither (map (λ r. terms_of r.terms) rules)
  pub bounds : bs ≡ padded 8 no_bounds (map bounds_of rules)

pub rules_read : (n m : ℕ) (s : List ℕ) {ts : List Terms} {bs : List Bounds} {u : List ℕ} → got (ts, bs) u ≡ onto all_parts (rules_next version1 n m s) → Read m ts bs u (rules_next version1 n m s)
rules_read n m s {ts} {bs} {u} e = go (rules_next version1 n m s) (rules_count n m s) e
  where
    go : (g : Got (List Said)) → Counts m g → got (ts, bs) u ≡ onto all_parts g → Read m ts bs u g
    go (refused k) h f = cc
    go (got rs w) h f = record {
      rules = rs;
      is = cc;
      count = h;
      terms = ap (λ (r : Got (List Terms × List Bounds)). (value_or (ts, bs) r).0) f;
      bounds = ap (λ (r : Got (List Terms × List Bounds)). (value_or (ts, bs) r).1) f;
    }
