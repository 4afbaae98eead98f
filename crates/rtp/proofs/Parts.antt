-- What follows of the meanings' readers: parts one behind the other, and what comes behind a part.
use mathlib.Core.Path.{◌≡◌, refl}
use mathlib.Core.List.{List}
use mathlib.Core.Bool.{Bool, true, false}
use Prim.Native.Nat.{ℕ, ◌+◌, ◌-◌}
use native.Mathlib.Omega.{arith}
use borrow.Author.Tests.{le-leb, lt-leb, leb-true, leb-false}
use lib.Dec.{leb}
use lib.ListN.{length, take, drop, length-drop}
use lib.Seq.{drop-drop, take-take, length-take-le}
use Rattle.laws.proofs.Filled.{take_within}
use Rattle.meaning.specs.File.{Got, refused, got, Reader, onward, part}
use Rattle.cursor.specs.Fields.{field_next}

-- what follows a value follows what it was made of
pub onward_twice : {A B C : Type 0} (g : Got A) (f : A → Reader B) (h : B → Reader C) → onward (onward g f) h ≡ onward g (λ x u. onward (f x u) h)
onward_twice (refused k) f h = refl
onward_twice (got x u) f h = refl

-- behind one field
pub onward_field : {A C : Type 0} (k : ℕ) (g : List ℕ → A) (f : A → Reader C) (s : List ℕ) → onward (field_next k g s) f ≡ onward (part k s) (λ b. f (g b))
onward_field k g f s = onward_twice (part k s) (λ b. got (g b)) f

module _ {C : Type 0} where
  -- behind a part of k bytes: what agrees on k bytes
  pub onward_part : (k : ℕ) (f h : List ℕ → Reader C) (s : List ℕ) → ((b u : List ℕ) → length b ≡ k → f b u ≡ h b u) → onward (part k s) f ≡ onward (part k s) h
  onward_part k f h s e = go (leb k (length s)) refl
    where
      go : (t : Bool) → leb k (length s) ≡ t → onward (part k s) f ≡ onward (part k s) h
      go true l = rw l (e (take k s) (drop k s) (length-take-le k s (leb-true k (length s) l)))
      go false l = rw l refl

  -- two parts are one
  pub parts_two : (k j : ℕ) (f : List ℕ → List ℕ → Reader C) (s : List ℕ)
      → onward (part (k + j) s) (λ c. f (take k c) (take j (drop k c))) ≡ onward (part k s) (λ a u. onward (part j u) (f a))
  parts_two k j f s = go (leb k (length s)) refl (leb j (length (drop k s))) refl
    where
      long : length (drop k s) ≡ length s - k
      long = length-drop k s

      go : (t : Bool) → leb k (length s) ≡ t → (r : Bool) → leb j (length (drop k s)) ≡ r
          → onward (part (k + j) s) (λ c. f (take k c) (take j (drop k c))) ≡ onward (part k s) (λ a u. onward (part j u) (f a))
      go true l true m =
          let whole : leb (k + j) (length s) ≡ true = le-leb (k + j) (length s) (omega (arith, long, leb-true k (length s) l, leb-true j (length (drop k s)) m)) in
          rw (whole, l, m, take-take k (k + j) s (omega arith), take_within k j (k + j) s (omega arith), drop-drop j k s) refl
      go true l false m =
          let short : leb (k + j) (length s) ≡ false = lt-leb (k + j) (length s) (omega (arith, long, leb-true k (length s) l, leb-false j (length (drop k s)) m)) in
          rw (short, l, m) refl
      go false l r m =
          let short : leb (k + j) (length s) ≡ false = lt-leb (k + j) (length s) (omega (arith, leb-false k (length s) l)) in
          rw (short, l) refl
