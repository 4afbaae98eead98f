-- How great are the lanes at a place, what does a byte lead to, and when does a test of bits say that a node has no numbers?
use mathlib.Core.Path.{◌≡◌, sym, ap, ◌∙◌}
use mathlib.Core.Bool.{true, false}
use mathlib.Core.List.{List}
use Prim.Native.Nat.{ℕ, zero, suc, ◌+◌, ◌^◌, ◌≤◌, ◌<◌}
use native.Mathlib.Omega.{arith}
use lib.ListN.{get_or, drop, replicate}
use lib.IntN.{ℤ, pos}
use lib.Dec.{T, leb}
use mir.Syntax.{w32}
use mir.Val.{to_z, of_z}
use mir.Facts.{to_z_pos}
use Rattle.laws.specs.Z.{Within, widen, eq_z, eq_z_yes, eq_z_no, back_is}
use Rattle.laws.proofs.Each.{Each, each_at, each_more, each_take, each_drop}
use Rattle.lent.specs.Lanes.{lanes_at}
use Rattle.lent.specs.Passes.{Bytes, far}
use Rattle.lanes.proofs.Laws.{lane_at, lane_within}

pub wide : (x : List ℤ) → Each (Within 4000000) x → Each (Within 10000000) x
wide x h = each_more (Within 4000000) (Within 10000000) (λ z k. widen tt k) x h

pub each_replicate : {A : Type 0} (P : A → Type 0) (n : ℕ) {z : A} → P z → Each P (replicate n z)
each_replicate P zero h = tt
each_replicate P (suc n) h = (h, each_replicate P n h)

pub each_lanes : (row : List ℤ) (at : ℕ) → Each (Within 4000000) row → Each (Within 4000000) (lanes_at row at)
each_lanes row at h = each_take (Within 4000000) 17 (drop at row) (each_drop (Within 4000000) at row h)

pub byte_at : (bs : List ℕ) (v : ℕ) → Bytes bs → get_or bs v 0 ≤ 16
byte_at bs v h = each_at (λ b. b ≤ 16) bs v 0 (omega arith) h

-- a number whose bits are compared with those of n
pub bits_yes : {m : ℕ} (a : ℤ) (n : ℕ) → Within m a → T (leb m 2147483647) → n < 2 ^ 31 → of_z w32 a ≡ n → eq_z a (pos n) ≡ true
bits_yes a n h t k e = eq_z_yes {a = a} {b = pos n} (sym (back_is h t) ∙ ap (to_z w32) e ∙ to_z_pos w32 (omega arith))

pub bits_no : (a : ℤ) (n : ℕ) → (of_z w32 a ≡ n → ⊥) → eq_z a (pos n) ≡ false
bits_no a n f = eq_z_no {a = a} {b = pos n} (λ e. f (ap (of_z w32) e))

-- so a node has no numbers, or has them
pub far_yes : (y : List ℤ) → Each (Within 10000000) y → of_z w32 (get_or y 16 (pos 0)) ≡ 4000000 → far y ≡ true
far_yes y h e = bits_yes (get_or y 16 (pos 0)) 4000000 (lane_within y 16 h) tt (omega arith) e

pub far_no : (y : List ℤ) → (of_z w32 (get_or y 16 (pos 0)) ≡ 4000000 → ⊥) → far y ≡ false
far_no y f = bits_no (get_or y 16 (pos 0)) 4000000 f

-- the same by a lane of a row
pub far_at_yes : (row : List ℤ) (at : ℕ) → Each (Within 4000000) row → of_z w32 (get_or row (at + 16) (pos 0)) ≡ 4000000 → far (lanes_at row at) ≡ true
far_at_yes row at h e = far_yes (lanes_at row at) (wide (lanes_at row at) (each_lanes row at h)) (ap (of_z w32) (lane_at row at 16 (omega arith)) ∙ e)

pub far_at_no : (row : List ℤ) (at : ℕ) → (of_z w32 (get_or row (at + 16) (pos 0)) ≡ 4000000 → ⊥) → far (lanes_at row at) ≡ false
far_at_no row at f = rw (lane_at row at 16 (omega arith)) (bits_no (get_or row (at + 16) (pos 0)) 4000000 f)

-- a cell that says that there is no node
pub cell_yes : (c : List ℤ) (k : ℕ) → Each (Within 4000000) c → of_z w32 (get_or c k (pos 0)) ≡ 0 → eq_z (get_or c k (pos 0)) (pos 0) ≡ true
cell_yes c k h e = bits_yes (get_or c k (pos 0)) 0 (lane_within c k h) tt (omega arith) e
