-- Laws of lists cut in parts and put together again, and of tests that a list fails.
use mathlib.Core.Path.{◌≡◌, refl, sym, ◌∙◌, ap}
use mathlib.Core.List.{List, [], ◌∷◌, ◌++◌, map}
use mathlib.Core.Bool.{Bool, true, false, ◌&&◌, true≢false}
use Prim.Native.Nat.{ℕ, zero, suc, ◌*◌, ◌≤◌}
use native.Mathlib.Nat.{suc-mul, zero-mul}
use native.Mathlib.Omega.{arith}
use borrow.Author.Tests.{eqb-true, eq-eqb}
use lib.Dec.{eqb}
use lib.ListN.{length, take, drop, take-append-drop, length-append, length-drop}
use lib.Seq.{take_at, drop_at, length-take-le, take-append-le, drop-append-le}
use Rattle.laws.specs.Lists.{every, parted, gather, same}
use Rattle.laws.proofs.Lists.{In, here, there, and_l, and_r, and_both, and_false, no_true, every_append}

-- ---- a test that some element fails
pub same_true : (a b : List ℕ) → same a b ≡ true → a ≡ b
same_true [] [] e = refl
same_true [] (y ∷ b) e = absurd (true≢false (sym e))
same_true (x ∷ a) [] e = absurd (true≢false (sym e))
same_true (x ∷ a) (y ∷ b) e = rw (eqb-true x y (and_l (eqb x y) (same a b) e), same_true a b (and_r (eqb x y) (same a b) e))

same_refl : (a : List ℕ) → same a a ≡ true
same_refl [] = refl
same_refl (x ∷ a) = rw (eq-eqb x x refl) (same_refl a)

pub same_yes : (a b : List ℕ) → a ≡ b → same a b ≡ true
same_yes a b e = rw e (same_refl b)

pub same_no : (a b : List ℕ) → (a ≡ b → ⊥) → same a b ≡ false
same_no a b h = no_true (same a b) (λ e. h (same_true a b e))

module _ {A : Type 0} (p : A → Bool) where
  -- an element that fails
  pub data Fails (l : List A) : Type 0 where
    fails : {x : A} → In x l → p x ≡ false → Fails l

  pub every_no : (l : List A) → every p l ≡ false → Fails l
  every_no [] e = absurd (true≢false e)
  every_no (x ∷ l) e = go (p x) refl e (every_no l)
    where
      deeper : Fails l → Fails (x ∷ l)
      deeper (fails i h) = fails (there i) h

      go : (t : Bool) → p x ≡ t → (t && every p l) ≡ false → (every p l ≡ false → Fails l) → Fails (x ∷ l)
      go true h k rest = deeper (rest k)
      go false h k rest = fails here h

  pub in_no : {x : A} {l : List A} → In x l → p x ≡ false → every p l ≡ false
  in_no (here {l = l}) e = rw e
  in_no (there {u = u} {l = l} i) e = and_false (p u) (every p l) (in_no i e)

-- ---- parts
module _ {A : Type 0} (p : A → Bool) where
  pub every_take : (n : ℕ) (l : List A) → every p l ≡ true → every p (take n l) ≡ true
  every_take zero l e = refl
  every_take (suc n) [] e = refl
  every_take (suc n) (x ∷ l) e = and_both (p x) (every p (take n l)) (and_l (p x) (every p l) e) (every_take n l (and_r (p x) (every p l) e))

  pub every_drop : (n : ℕ) (l : List A) → every p l ≡ true → every p (drop n l) ≡ true
  every_drop zero l e = e
  every_drop (suc n) [] e = refl
  every_drop (suc n) (x ∷ l) e = every_drop n l (and_r (p x) (every p l) e)

-- n fields of k elements are n
pub length_fields : {A B : Type 0} (g : List A → B) (n k : ℕ) (l : List A) → length (map g (parted n k l)) ≡ n
length_fields g zero k l = refl
length_fields g (suc n) k l = ap suc (length_fields g n k (drop k l))

-- the first of n + 1 parts, and the others
first_long : {A : Type 0} (n k : ℕ) (l : List A) → length l ≡ suc n * k → (length (take k l) ≡ k) × (length (drop k l) ≡ n * k)
first_long n k l e =
    let m = suc-mul n k in
    (length-take-le k l (omega arith), omega (arith, length-drop k l))

-- ---- things written in k elements each, all of which pass the test q: what is written is read again, and what is read is written again
pub record Code {A B : Type 0} (q : B → Bool) (k : ℕ) (write : A → List B) (read : List B → A) (right : A → Bool) : Type 0 where
  pub long : (a : A) → right a ≡ true → length (write a) ≡ k
  pub low : (a : A) → every q (write a) ≡ true
  pub reads : (a : A) → right a ≡ true → read (write a) ≡ a
  pub writes : (b : List B) → length b ≡ k → every q b ≡ true → write (read b) ≡ b
  pub fits : (b : List B) → length b ≡ k → every q b ≡ true → right (read b) ≡ true

-- n of them, one behind the other
module _ {A B : Type 0} {q : B → Bool} {k : ℕ} {w : A → List B} {r : List B → A} {g : A → Bool} (c : Code q k w r g) where
  gather_long : (l : List A) → every g l ≡ true → length (gather w l) ≡ length l * k
  gather_long [] e = sym (zero-mul k)
  gather_long (x ∷ l) e =
      length-append (w x) (gather w l) ∙ rw (c.long x (and_l (g x) (every g l) e), gather_long l (and_r (g x) (every g l) e)) (omega (arith, suc-mul (length l) k))

  gather_low : (l : List A) → every q (gather w l) ≡ true
  gather_low [] = refl
  gather_low (x ∷ l) = every_append q (w x) (gather w l) (c.low x) (gather_low l)

  gather_reads : (l : List A) → every g l ≡ true → map r (parted (length l) k (gather w l)) ≡ l
  gather_reads [] e = refl
  gather_reads (x ∷ l) e =
      let a = and_l (g x) (every g l) e in
      let n = c.long x a in
      rw (take_at (w x) (gather w l) k n, drop_at (w x) (gather w l) k n, c.reads x a, gather_reads l (and_r (g x) (every g l) e))

  gather_writes : (n : ℕ) (b : List B) → length b ≡ n * k → every q b ≡ true → gather w (map r (parted n k b)) ≡ b
  gather_writes zero [] e h = refl
  gather_writes zero (x ∷ b) e h = absurd (omega (arith, zero-mul k))
  gather_writes (suc n) b e h =
      let l = first_long n k b e in
      rw (c.writes (take k b) l.0 (every_take q k b h), gather_writes n (drop k b) l.1 (every_drop q k b h)) (take-append-drop k b)

  gather_fits : (n : ℕ) (b : List B) → length b ≡ n * k → every q b ≡ true → every g (map r (parted n k b)) ≡ true
  gather_fits zero b e h = refl
  gather_fits (suc n) b e h =
      let l = first_long n k b e in
      and_both (g (r (take k b))) (every g (map r (parted n k (drop k b)))) (c.fits (take k b) l.0 (every_take q k b h)) (gather_fits n (drop k b) l.1 (every_drop q k b h))

  pub code_fields : (n : ℕ) → Code q (n * k) (gather w) (λ (b : List B). map r (parted n k b)) (λ (l : List A). every g l && eqb (length l) n)
  code_fields n = record {
    long = λ l e. gather_long l (and_l (every g l) (eqb (length l) n) e) ∙ ap (λ (m : ℕ). m * k) (eqb-true (length l) n (and_r (every g l) (eqb (length l) n) e));
    low = gather_low;
    reads = λ l e. rw (← eqb-true (length l) n (and_r (every g l) (eqb (length l) n) e)) (gather_reads l (and_l (every g l) (eqb (length l) n) e));
    writes = gather_writes n;
    fits = λ b e h. and_both (every g (map r (parted n k b))) (eqb (length (map r (parted n k b))) n) (gather_fits n b e h) (eq-eqb (length (map r (parted n k b))) n (length_fields r n k b));
  }

-- what stands behind n parts is not seen
pub parted_append : {A : Type 0} (n k : ℕ) (l m : List A) → n * k ≤ length l → parted n k (l ++ m) ≡ parted n k l
parted_append zero k l m h = refl
parted_append (suc n) k l m h =
    let e = suc-mul n k in
    rw (take-append-le k l m (omega arith), drop-append-le k l m (omega arith), parted_append n k (drop k l) m (omega (arith, length-drop k l)))

pub parted_take : {A : Type 0} (n k : ℕ) (l : List A) → n * k ≤ length l → parted n k l ≡ parted n k (take (n * k) l)
parted_take n k l h =
    ap (parted n k) (sym (take-append-drop (n * k) l)) ∙ parted_append n k (take (n * k) l) (drop (n * k) l) (omega (arith, length-take-le (n * k) l h))
