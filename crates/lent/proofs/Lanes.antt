-- What do sums, leasts and tests of lanes make of lists that are filled up, and of three blocks one behind the other?
use mathlib.Core.Path.{◌≡◌, refl, sym, ◌∙◌, ap}
use mathlib.Core.List.{List, [], ◌∷◌, ◌++◌, append_assoc}
use mathlib.Core.Bool.{Bool, true, false, ◌&&◌, cond}
use Prim.Native.Nat.{ℕ, zero, suc, ◌+◌, ◌≤◌, ◌<◌}
use native.Mathlib.Omega.{arith}
use lib.ListN.{length, get_or, replicate, length-append, get_or-append}
use lib.Seq.{get_or-append-add, get_or_at}
use lib.IntN.{ℤ, pos, neg_ℤ, ◌+ℤ◌}
use lib.Signed.{le_z}
use Rattle.laws.specs.Z.{zarith, sum, neg, parts, min_z, max_z, Within}
use Rattle.laws.specs.Lists.{padded}
use Rattle.laws.proofs.Lists.{and_both, and_true, and_false}
use Rattle.laws.proofs.Filled.{length-padded, each_padded}
use Rattle.laws.proofs.Each.{Each, each_append}
use Rattle.lent.specs.Lanes.{zipped, at_most}

-- ---- eight lanes, eight lanes, and one more
abbrev pub block : ℤ → List ℤ → List ℤ → ℤ → List ℤ
block z low high cost = padded 8 z low ++ padded 8 z high ++ (cost ∷ [])

pub length-block : (z : ℤ) (l h : List ℤ) (c : ℤ) → length (block z l h c) ≡ 17
length-block z l h c =
    omega (arith, length-append (padded 8 z l ++ padded 8 z h) (c ∷ []), length-append (padded 8 z l) (padded 8 z h), length-padded z 8 l, length-padded z 8 h)

pub each_block : (P : ℤ → Type 0) (z : ℤ) (l h : List ℤ) (c : ℤ) → P z → Each P l → Each P h → P c → Each P (block z l h c)
each_block P z l h c p a b d =
    each_append P (padded 8 z l ++ padded 8 z h) (c ∷ []) (each_append P (padded 8 z l) (padded 8 z h) (each_padded P 8 z l p a) (each_padded P 8 z h p b)) (d, tt)

-- what stands in them
module _ {A : Type 0} where
  pub padded_at : (n : ℕ) (z : A) (l : List A) (k : ℕ) → k < n → get_or (padded n z l) k z ≡ get_or l k z
  padded_at zero z l k h = absurd (omega arith)
  padded_at (suc n) z [] zero h = refl
  padded_at (suc n) z [] (suc k) h = padded_at n z [] k (omega arith)
  padded_at (suc n) z (x ∷ l) zero h = refl
  padded_at (suc n) z (x ∷ l) (suc k) h = padded_at n z l k (omega arith)

module _ (z : ℤ) (l h : List ℤ) (c : ℤ) where
  pub block_low : (r : ℕ) → r < 8 → get_or (block z l h c) r z ≡ get_or l r z
  block_low r b =
      rw (append_assoc (padded 8 z l) (padded 8 z h) (c ∷ [])) (get_or-append (padded 8 z l) (padded 8 z h ++ (c ∷ [])) z r (rw (length-padded z 8 l) b) ∙ padded_at 8 z l r b)

  pub block_high : (r : ℕ) → r < 8 → get_or (block z l h c) (8 + r) z ≡ get_or h r z
  block_high r b =
      let behind : 8 + r ≡ length (padded 8 z l) + r = omega (arith, length-padded z 8 l) in
      rw (append_assoc (padded 8 z l) (padded 8 z h) (c ∷ []), behind, get_or-append-add (padded 8 z l) (padded 8 z h ++ (c ∷ [])) r z)
      (get_or-append (padded 8 z h) (c ∷ []) z r (rw (length-padded z 8 h) b) ∙ padded_at 8 z h r b)

  pub block_cost : (d : ℤ) → get_or (block z l h c) 16 d ≡ c
  block_cost d = get_or_at (padded 8 z l ++ padded 8 z h) c [] d 16 (omega (arith, length-append (padded 8 z l) (padded 8 z h), length-padded z 8 l, length-padded z 8 h))

-- ---- lane by lane
module _ (f : ℤ → ℤ → ℤ) where
  pub length-zipped : (l m : List ℤ) → length l ≡ length m → length (zipped f l m) ≡ length l
  length-zipped [] m e = refl
  length-zipped (x ∷ l) [] e = absurd (omega arith)
  length-zipped (x ∷ l) (y ∷ m) e = ap suc (length-zipped l m (omega arith))

  pub zipped_append : (l m a b : List ℤ) → length l ≡ length m → zipped f (l ++ a) (m ++ b) ≡ zipped f l m ++ zipped f a b
  zipped_append [] [] a b e = refl
  zipped_append [] (y ∷ m) a b e = absurd (omega arith)
  zipped_append (x ∷ l) [] a b e = absurd (omega arith)
  zipped_append (x ∷ l) (y ∷ m) a b e = ap (λ (r : List ℤ). f x y ∷ r) (zipped_append l m a b (omega arith))

  zipped-padded : (n : ℕ) (z y : ℤ) (l m : List ℤ) → length l ≡ length m → zipped f (padded n z l) (padded n y m) ≡ padded n (f z y) (zipped f l m)
  zipped-padded zero z y l m e = refl
  zipped-padded (suc n) z y [] [] e = ap (λ (r : List ℤ). f z y ∷ r) (zipped-padded n z y [] [] e)
  zipped-padded (suc n) z y [] (b ∷ m) e = absurd (omega arith)
  zipped-padded (suc n) z y (a ∷ l) [] e = absurd (omega arith)
  zipped-padded (suc n) z y (a ∷ l) (b ∷ m) e = ap (λ (r : List ℤ). f a b ∷ r) (zipped-padded n z y l m (omega arith))

  pub zipped-block : (z y : ℤ) (l m h k : List ℤ) (c d : ℤ) → length l ≡ length m → length h ≡ length k
      → zipped f (block z l h c) (block y m k d) ≡ block (f z y) (zipped f l m) (zipped f h k) (f c d)
  zipped-block z y l m h k c d e g =
      let low : length (padded 8 z l) ≡ length (padded 8 y m) = length-padded z 8 l ∙ sym (length-padded y 8 m) in
      let high : length (padded 8 z h) ≡ length (padded 8 y k) = length-padded z 8 h ∙ sym (length-padded y 8 k) in
      let both : length (padded 8 z l ++ padded 8 z h) ≡ length (padded 8 y m ++ padded 8 y k) = omega (arith, length-append (padded 8 z l) (padded 8 z h), length-append (padded 8 y m) (padded 8 y k)) in
      zipped_append (padded 8 z l ++ padded 8 z h) (padded 8 y m ++ padded 8 y k) (c ∷ []) (d ∷ []) both
      ∙ rw (zipped_append (padded 8 z l) (padded 8 y m) (padded 8 z h) (padded 8 y k) low, zipped-padded 8 z y l m e, zipped-padded 8 z y h k g)

-- ---- no lane above its limit
-- one is
pub at_most_no : (l m : List ℤ) (r : ℕ) (d : ℤ) → r < length l → r < length m → le_z (get_or l r d) (get_or m r d) ≡ false → at_most l m ≡ false
at_most_no [] m r d g h e = absurd (omega arith)
at_most_no (x ∷ l) [] r d g h e = absurd (omega arith)
at_most_no (x ∷ l) (y ∷ m) zero d g h e = rw e
at_most_no (x ∷ l) (y ∷ m) (suc r) d g h e = and_false (le_z x y) (at_most l m) (at_most_no l m r d (omega arith) (omega arith) e)

-- all are of a size
pub at_most_size : (n : ℕ) (l : List ℤ) → Each (Within n) l → at_most l (replicate (length l) (pos n)) ≡ true
at_most_size n [] h = refl
at_most_size n (x ∷ l) h = and_both (le_z x (pos n)) (at_most l (replicate (length l) (pos n))) (omega (zarith, parts x, h.0.size)) (at_most_size n l h.1)

at_most_append : (l m a b : List ℤ) → length l ≡ length m → at_most (l ++ a) (m ++ b) ≡ (at_most l m && at_most a b)
at_most_append [] [] a b e = refl
at_most_append [] (y ∷ m) a b e = absurd (omega arith)
at_most_append (x ∷ l) [] a b e = absurd (omega arith)
at_most_append (x ∷ l) (y ∷ m) a b e = ap (λ (t : Bool). le_z x y && t) (at_most_append l m a b (omega arith)) ∙ grouped (le_z x y) (at_most l m) (at_most a b)
  where
    grouped : (r s t : Bool) → (r && (s && t)) ≡ ((r && s) && t)
    grouped true s t = refl
    grouped false s t = refl

-- what a list is filled up with is below its limit
at_most-padded : (n : ℕ) (z y : ℤ) (l m : List ℤ) → le_z z y ≡ true → length l ≡ length m → length l ≤ n → at_most (padded n z l) (padded n y m) ≡ at_most l m
at_most-padded zero z y [] [] t e h = refl
at_most-padded zero z y [] (b ∷ m) t e h = absurd (omega arith)
at_most-padded zero z y (a ∷ l) m t e h = absurd (omega arith)
at_most-padded (suc n) z y [] [] t e h = rw t (at_most-padded n z y [] [] t e (omega arith))
at_most-padded (suc n) z y [] (b ∷ m) t e h = absurd (omega arith)
at_most-padded (suc n) z y (a ∷ l) [] t e h = absurd (omega arith)
at_most-padded (suc n) z y (a ∷ l) (b ∷ m) t e h = ap (λ (s : Bool). le_z a b && s) (at_most-padded n z y l m t (omega arith) (omega arith))

pub at_most-block : (z y : ℤ) (l m h k : List ℤ) (c d : ℤ) → le_z z y ≡ true → length l ≡ length m → length l ≤ 8 → length h ≡ length k → length h ≤ 8
    → at_most (block z l h c) (block y m k d) ≡ ((at_most l m && at_most h k) && le_z c d)
at_most-block z y l m h k c d t e a g b =
    let low : length (padded 8 z l) ≡ length (padded 8 y m) = length-padded z 8 l ∙ sym (length-padded y 8 m) in
    let both : length (padded 8 z l ++ padded 8 z h) ≡ length (padded 8 y m ++ padded 8 y k) = omega (arith, length-append (padded 8 z l) (padded 8 z h), length-append (padded 8 y m) (padded 8 y k), length-padded z 8 h, length-padded y 8 k) in
    at_most_append (padded 8 z l ++ padded 8 z h) (padded 8 y m ++ padded 8 y k) (c ∷ []) (d ∷ []) both
    ∙ rw (at_most_append (padded 8 z l) (padded 8 y m) (padded 8 z h) (padded 8 y k) low, at_most-padded 8 z y l m t e a, at_most-padded 8 z y h k t g b, and_true (le_z c d) true refl)

-- ---- signs turned
pub neg_neg : (a : ℤ) → neg_ℤ (neg_ℤ a) ≡ a
neg_neg a = omega (zarith, neg a, neg (neg_ℤ a))

pub neg_sum : (a b : ℤ) → neg_ℤ (a +ℤ b) ≡ neg_ℤ a +ℤ neg_ℤ b
neg_sum a b = omega (zarith, sum a b, neg (a +ℤ b), neg a, neg b, sum (neg_ℤ a) (neg_ℤ b))

pub neg_le : (a b : ℤ) → le_z (neg_ℤ a) (neg_ℤ b) ≡ le_z b a
neg_le a b = go (le_z b a) refl
  where
    go : (t : Bool) → le_z b a ≡ t → le_z (neg_ℤ a) (neg_ℤ b) ≡ t
    go true e = omega (zarith, neg a, neg b)
    go false e = omega (zarith, neg a, neg b)

pub neg_max : (a b : ℤ) → neg_ℤ (max_z a b) ≡ min_z (neg_ℤ a) (neg_ℤ b)
neg_max a b = go (le_z a b) (le_z (neg_ℤ a) (neg_ℤ b)) refl refl
  where
    go : (s t : Bool) → le_z a b ≡ s → le_z (neg_ℤ a) (neg_ℤ b) ≡ t → neg_ℤ (cond s b a) ≡ cond t (neg_ℤ a) (neg_ℤ b)
    go true true e f = let same : a ≡ b = omega (zarith, neg a, neg b) in ap neg_ℤ (sym same)
    go true false e f = refl
    go false true e f = refl
    go false false e f = absurd (omega (zarith, neg a, neg b))
