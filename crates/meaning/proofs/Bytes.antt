-- Are the bytes of a number that number again?
use mathlib.Core.Path.{◌≡◌, refl, ap}
use mathlib.Core.List.{List, [], ◌∷◌}
use mathlib.Core.Bool.{Bool, true, false, cond}
use Prim.Native.Nat.{ℕ, zero, suc, ◌+◌, ◌*◌, ◌-◌, ◌/◌, ◌%◌, ◌^◌, ◌<◌}
use native.Mathlib.Nat.{pow-suc}
use native.Mathlib.Omega.{arith}
use borrow.Author.Tests.{ltb-true, ltb-false, lt-ltb, le-ltb}
use lib.Dec.{ltb}
use lib.ListN.{length}
use lib.IntN.{ℤ, pos, negsuc}
use Rattle.laws.specs.Lists.{every}
use Rattle.laws.specs.Z.{Within}
use Rattle.laws.proofs.Lists.{and_l, and_r, and_both}
use Rattle.laws.proofs.Parts.{Code}
use Rattle.meaning.specs.File.{little, below_half, signed, bytes, signed_bytes}

-- a file is a list of these
abbrev pub is_byte : ℕ → Bool
is_byte b = ltb b 256

-- ---- little-endian
little-bytes : (k u : ℕ) → u < 256 ^ k → little (bytes k u) ≡ u
little-bytes zero u h = omega arith
little-bytes (suc k) u h =
    let p = pow-suc 256 k in
    rw (little-bytes k (u / 256) (omega arith)) (omega arith)

bytes-little : (b : List ℕ) → every is_byte b ≡ true → bytes (length b) (little b) ≡ b
bytes-little [] e = refl
bytes-little (x ∷ b) e =
    let h = ltb-true x 256 (and_l (is_byte x) (every is_byte b) e) in
    let low : (x + 256 * little b) % 256 ≡ x = omega arith in
    let high : (x + 256 * little b) / 256 ≡ little b = omega arith in
    rw (low, high, bytes-little b (and_r (is_byte x) (every is_byte b) e))

little_below : (b : List ℕ) → every is_byte b ≡ true → little b < 256 ^ length b
little_below [] e = omega arith
little_below (x ∷ b) e =
    let h = ltb-true x 256 (and_l (is_byte x) (every is_byte b) e) in
    let l = little_below b (and_r (is_byte x) (every is_byte b) e) in
    omega (arith, pow-suc 256 (length b))

bytes_long : (k u : ℕ) → length (bytes k u) ≡ k
bytes_long zero u = refl
bytes_long (suc k) u = ap suc (bytes_long k (u / 256))

bytes_low : (k u : ℕ) → every is_byte (bytes k u) ≡ true
bytes_low zero u = refl
bytes_low (suc k) u = and_both (is_byte (u % 256)) (every is_byte (bytes k (u / 256))) (lt-ltb (u % 256) 256 (omega arith)) (bytes_low k (u / 256))

-- k bytes hold it
abbrev pub below : ℕ → ℕ → Bool
below k u = ltb u (256 ^ k)

pub code_little : (k : ℕ) → Code is_byte k (bytes k) little (below k)
code_little k = record {
  long = λ u e. bytes_long k u;
  low = bytes_low k;
  reads = λ u e. little-bytes k u (ltb-true u (256 ^ k) e);
  writes = λ b l e. rw (← l) (bytes-little b e);
  fits = λ b l e. rw (← l) (lt-ltb (little b) (256 ^ length b) (little_below b e));
}

-- ---- two's complement
-- k bytes hold it, with its sign
abbrev pub fits : ℕ → ℤ → Bool
fits k (pos u) = below_half k u
fits k (negsuc u) = ltb (2 * u + 1) (256 ^ k)

signed_bytes_lem : (k : ℕ) (z : ℤ) → fits k z ≡ true → signed k (signed_bytes k z) ≡ z
signed_bytes_lem k (pos u) e = rw (little-bytes k u (omega (arith, ltb-true)), e)
signed_bytes_lem k (negsuc u) e =
    let h = ltb-true (2 * u + 1) (256 ^ k) e in
    let v = 256 ^ k - 1 - u in
    let minus : below_half k v ≡ false = omega (arith, le-ltb) in
    rw (little-bytes k v (omega arith), minus) (ap negsuc (omega arith))

module _ (k : ℕ) (b : List ℕ) (l : length b ≡ k) (e : every is_byte b ≡ true) where
  under : little b < 256 ^ k
  under = rw (← l) (little_below b e)

  again : bytes k (little b) ≡ b
  again = rw (← l) (bytes-little b e)

  bytes_signed : signed_bytes k (signed k b) ≡ b
  bytes_signed = go (below_half k (little b)) refl
    where
      go : (t : Bool) → below_half k (little b) ≡ t → signed_bytes k (cond t (pos (little b)) (negsuc (256 ^ k - 1 - little b))) ≡ b
      go true h = again
      go false h =
          let back : 256 ^ k - 1 - (256 ^ k - 1 - little b) ≡ little b = omega (arith, under) in
          rw back again

  signed_fits : fits k (signed k b) ≡ true
  signed_fits = go (below_half k (little b)) refl
    where
      go : (t : Bool) → below_half k (little b) ≡ t → fits k (cond t (pos (little b)) (negsuc (256 ^ k - 1 - little b))) ≡ true
      go true h = h
      go false h =
          let m = ltb-false (2 * little b) (256 ^ k) h in
          lt-ltb (2 * (256 ^ k - 1 - little b) + 1) (256 ^ k) (omega (arith, under))

pub code_signed : (k : ℕ) → Code is_byte k (signed_bytes k) (signed k) (fits k)
code_signed k = record { long = λ z e. long z; low = low; reads = signed_bytes_lem k; writes = bytes_signed k; fits = signed_fits k }
  where
    long : (z : ℤ) → length (signed_bytes k z) ≡ k
    long (pos u) = bytes_long k u
    long (negsuc u) = bytes_long k (256 ^ k - 1 - u)

    low : (z : ℤ) → every is_byte (signed_bytes k z) ≡ true
    low (pos u) = bytes_low k u
    low (negsuc u) = bytes_low k (256 ^ k - 1 - u)

-- a number of at most this size fits
pub within_fits : (k m : ℕ) → 2 * m < 256 ^ k → (z : ℤ) → Within m z → fits k z ≡ true
within_fits k m h (pos u) w = lt-ltb (2 * u) (256 ^ k) (omega (arith, w.size))
within_fits k m h (negsuc u) w = lt-ltb (2 * u + 1) (256 ^ k) (omega (arith, w.size))
