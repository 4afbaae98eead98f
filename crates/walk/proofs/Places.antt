-- Where do a node's arc byte and a child's cells stand, and how large are totals and budget?
use mathlib.Core.List.{List}
use mathlib.Core.Path.{◌≡◌}
use Prim.Native.Nat.{ℕ, zero, suc, ◌+◌, ◌*◌, ◌-◌, ◌≤◌, ◌<◌}
use native.Mathlib.Nat.{mul-le-mul_left, mul-le-mul_right, suc-mul, mul_assoc}
use native.Mathlib.Numerals.{add-one}
use native.Mathlib.Omega.{arith}
use lib.IntN.{ℤ, ◌-ℤ◌}
use lib.ListN.{length, get_or}
use Rattle.laws.specs.Z.{Within, sum_within}
use Rattle.laws.proofs.Each.{each_at}
use Rattle.state.proofs.Sizes.{neg_size}
use Rattle.walk.specs.Beginnings.{Walkable}

-- ---- places
mul_few : (i k w l : ℕ) → i ≤ k → w ≤ l → i * w ≤ k * l
mul_few i k w l h f = omega (arith, mul-le-mul_right w h, mul-le-mul_left k f)

pub arc_place : (i j v n w : ℕ) → i < n → j < w → v < 8 → (i * w + j) * 8 + v < 8 * n * w
arc_place i j v n w hi hj hv = omega (arith, mul-le-mul_right w hi, suc-mul i w, mul_assoc 8 n w)

module _ {n m w : ℕ} {weights coefs : List ℤ} {arcs : List ℕ} {cells : List ℤ} (g : Walkable n m w weights coefs arcs cells) where
  pub byte_few : (k : ℕ) → get_or arcs k 0 ≤ w
  byte_few k = each_at (λ b. b ≤ w) arcs k 0 (omega arith) g.lead

  pub row_few : (i : ℕ) → i ≤ n → i * w ≤ 384
  row_few i h = let few = g.slots_few in mul_few i 24 w 16 (omega arith) g.nodes_few

  pub cells_few : (i b : ℕ) → i < n → b ≤ w → ((i + 1) * w + b) * (4 * m + 3) ≤ length cells
  cells_few i b h f =
      let there : (i + 1) * w + b ≤ suc n * w = rw (add-one i) (omega (arith, mul-le-mul_right w h, suc-mul i w, suc-mul n w)) in
      rw g.numbers (mul-le-mul_right (4 * m + 3) there)

-- ---- a child
pub child_end : (k m : ℕ) → 0 < k → (k - 1) * (4 * m + 3) + 4 * m + 3 ≡ k * (4 * m + 3)
child_end zero m h = absurd (omega arith)
child_end (suc k) m h = let less : suc k - 1 ≡ k = omega arith in rw less (omega (arith, suc-mul k (4 * m + 3)))

pub one_less : (n left : ℕ) → left ≤ n → (left ≡ 0 → ⊥) → n - (left - 1) ≡ suc (n - left)
one_less n left h e = omega arith

-- ---- sizes
more : {z : ℤ} {m n : ℕ} → m ≤ n → Within m z → Within n z
more h f = record { size = omega (arith, f.size) }

pub rest_within : (i : ℕ) {b y : ℤ} → Within (2000000 + 70000 * i) b → Within 70000 y → Within (2000000 + 70000 * suc i) (b -ℤ y)
rest_within i {b} {y} h k = more (omega arith) (sum_within {n = 70000} h (record { size = omega (arith, neg_size y, k.size) }))
