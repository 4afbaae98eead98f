-- What is the greatest size over the steps of a set that are left, and the greatest size of a rule's share over them?
use mathlib.Core.Path.{◌≡◌}
use mathlib.Core.Bool.{Bool, true, false, cond, ◌&&◌}
use mathlib.Core.List.{List, [], ◌∷◌}
use Prim.Native.Nat.{ℕ, suc, max, ◌+◌, ◌-◌, ◌*◌, ◌≤◌, ◌<◌}
use native.Mathlib.Nat.{mul-add, mul-sub}
use native.Mathlib.Numerals.{add-one}
use native.Mathlib.Omega.{arith}
use borrow.Author.Tests.{lt-ltb}
use lib.IntN.{ℤ, pos, nat_abs}
use lib.ListN.{get_or}
use Rattle.laws.specs.Lists.{keep, from}
use Rattle.laws.specs.Z.{mul_size}
use Rattle.meaning.specs.Plan.{bit, allows}
use Rattle.meaning.specs.Problem.{among, share_of, weighed}
use Rattle.meaning.specs.Running.{greatest_size}

-- the greatest over the steps of the set from v on
abbrev pub left : (ℕ → ℤ) → ℕ → ℕ → ℕ
left f set v = greatest_size f (keep (bit set) (from v (8 - v)))

module _ (f : ℕ → ℤ) (set v : ℕ) where
  pub left_more : {t : Bool} → v < 8 → allows 8 set v ≡ t → left f set v ≡ greatest_size f (let l = keep (bit set) (from (v + 1) (8 - (v + 1))) in cond t (v ∷ l) l)
  left_more {t} h e =
      let n : 8 - v ≡ suc (8 - (v + 1)) = omega arith in
      let b : bit set v ≡ t = rw (lt-ltb v 8 h) at e in
      rw (n, b, add-one)

  pub left_end : 8 ≤ v → left f set v ≡ 0
  left_end h =
      let n : 8 - v ≡ 0 = omega arith in
      rw n

-- a share of an among rule is 1 or 0: a step of the set that is counted decides
module _ (values slots i : ℕ) where
  abbrev share : ℕ → ℤ
  share = share_of (among values slots) i

  pub among_most : (l : List ℕ) → greatest_size share l ≤ 1
  among_most [] = omega arith
  among_most (v ∷ l) = omega (arith, one (bit values v && bit slots i), among_most l)
    where
      one : (t : Bool) → nat_abs (cond t (pos 1) (pos 0)) ≤ 1
      one true = omega arith
      one false = omega arith

  module _ (set v : ℕ) (h : v < 8) (e : allows 8 set v ≡ true) where
    pub left_counted : (bit values v && bit slots i) ≡ true → left share set v ≡ 1
    left_counted t =
        let l = keep (bit set) (from (v + 1) (8 - (v + 1))) in
        let m : left share set v ≡ max 1 (greatest_size share l) = rw t at (left_more share set v h e) in
        omega (arith, among_most l)

    pub left_not_counted : (bit values v && bit slots i) ≡ false → left share set v ≡ left share set (v + 1)
    left_not_counted t =
        let m : left share set v ≡ max 0 (left share set (v + 1)) = rw t at (left_more share set v h e) in
        omega arith

-- the greatest share of a sum rule is that of the greatest step
max_times : (k a b : ℕ) → k * max a b ≡ max (k * a) (k * b)
max_times k a b =
    let e : max a b ≡ a + (b - a) = omega arith in
    rw e (omega (arith, mul-add k a (b - a), mul-sub k b a))

pub weighed_greatest : (c : List ℤ) (i : ℕ) (l : List ℕ) → greatest_size (weighed c i) l ≡ nat_abs (get_or c i (pos 0)) * greatest_size pos l
weighed_greatest c i [] = omega arith
weighed_greatest c i (v ∷ l) = omega (arith, mul_size (get_or c i (pos 0)) (pos v), weighed_greatest c i l, max_times (nat_abs (get_or c i (pos 0))) v (greatest_size pos l))
