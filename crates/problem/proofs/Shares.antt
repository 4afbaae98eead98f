-- What is a number times a step as an i32?
use mathlib.Core.Path.{◌≡◌}
use Prim.Native.Nat.{ℕ, ◌*◌, ◌<◌}
use native.Mathlib.Omega.{arith}
use lib.Dec.{T, leb, le→leb, leb→le}
use lib.IntN.{ℤ, pos, ◌*ℤ◌}
use mir.Syntax.{w32}
use mir.Val.{SFits, to_z}
use mir.Facts.{to_z_pos}
use Rattle.laws.specs.Z.{Within, mul_within, mul32, back, back_is}

module _ {x : ℤ} {v m : ℕ} (w : Within m x) (h : v < 8) (t : T (leb (m * 7) 2147483647)) where
  times : back x *ℤ to_z w32 v ≡ x *ℤ pos v
  times = rw (back_is w (le→leb m 2147483647 (omega (arith, leb→le (m * 7) 2147483647 t))), to_z_pos w32 {n = v} (omega arith))

  pub times_fits : SFits w32 (back x *ℤ to_z w32 v)
  times_fits = rw times (mul32 w (omega arith) t)

  pub times_is : back (back x *ℤ to_z w32 v) ≡ x *ℤ pos v
  times_is = rw times (back_is (mul_within w (omega arith)) t)
