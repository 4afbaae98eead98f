-- How does the row of a slot fill up, how do the parts, and what is a share as an i32?
use mathlib.Core.Path.{◌≡◌, refl, sym, ap, ◌∙◌}
use mathlib.Core.List.{List, [], ◌∷◌, ◌++◌, map, map-append, append_assoc}
use Prim.Native.Nat.{ℕ, zero, suc, ◌+◌, ◌*◌, ◌-◌, ◌<◌}
use native.Mathlib.Nat.{zero-add}
use native.Mathlib.Numerals.{add-one}
use native.Mathlib.Omega.{arith}
use lib.ListN.{length, get_or, set, take, drop, length-drop, length-map, length-append, length-set}
use lib.Seq.{take_at, drop-append-add, take-set-le, take-suc-set, drop-set-add, drop-drop, take_all, take-add, length-take-le}
use lib.IntN.{ℤ, pos, ◌+ℤ◌, ◌*ℤ◌}
use mir.Syntax.{w32}
use mir.Val.{SFits, to_z}
use mir.Facts.{to_z_pos}
use Rattle.laws.specs.Z.{Within, sum_within, mul_within, sum32, back, back_is}
use Rattle.laws.specs.Lists.{gather, from, padded}
use Rattle.laws.proofs.Lists.{length_from, from_more}
use Rattle.laws.proofs.Filled.{padded_more, length-padded, gather_more}
use Rattle.problem.proofs.Shares.{times_is}
use Rattle.problem.specs.declared.Terms.{Terms}
use Rattle.problem.specs.declared.Terms.TheVariants.{Neither}
use Rattle.slot.specs.Rows.{coef_part, value_part, coef_parts, value_parts, lane_of, lanes_of}

-- ---- a lane: a coefficient within 1,000 times a step below 8, and a bit
module _ {x : ℤ} {v b : ℕ} (w : Within 1000 x) (h : v < 8) (l : b < 2) where
  bit_within : Within 1 (pos b)
  bit_within = record { size = omega arith }

  same : back (back x *ℤ to_z w32 v) +ℤ to_z w32 b ≡ x *ℤ pos v +ℤ pos b
  same = rw (times_is w h tt, to_z_pos w32 {n = b} (omega arith))

  pub lane_within : Within 7001 (x *ℤ pos v +ℤ pos b)
  lane_within = sum_within (mul_within {n = 7} w (omega arith)) bit_within

  pub lane_fits : SFits w32 (back (back x *ℤ to_z w32 v) +ℤ to_z w32 b)
  lane_fits = rw same (sum32 (mul_within {n = 7} w (omega arith)) bit_within tt)

  pub lane_is : back (back (back x *ℤ to_z w32 v) +ℤ to_z w32 b) ≡ x *ℤ pos v +ℤ pos b
  lane_is = rw same (back_is lane_within tt)

-- ---- one number more
map_more : {A : Type 0} (f : ℕ → A) (r : ℕ) → map f (from 0 r) ++ f r ∷ [] ≡ map f (from 0 (r + 1))
map_more f r = sym (ap (map f) (from_more 0 r) ∙ map-append f (from 0 r) ((0 + r) ∷ []) ∙ ap (λ k. map f (from 0 r) ++ f k ∷ []) (zero-add r))

-- a table of m entries, zero past them: entry r is laid
pub entry_laid : {A : Type 0} (z : A) (n : ℕ) (f : ℕ → A) (r : ℕ) → r < n → set (padded n z (map f (from 0 r))) r (f r) ≡ padded n z (map f (from 0 (r + 1)))
entry_laid z n f r h =
    let long : length (map f (from 0 r)) ≡ r = length-map (from 0 r) f ∙ length_from 0 r in
    ap (λ k. set (padded n z (map f (from 0 r))) k (f r)) (sym long) ∙ padded_more z n (map f (from 0 r)) (f r) (omega arith) ∙ ap (padded n z) (map_more f r)

-- ---- the shares by their parts
pub lanes_long : (cs : List ℤ) (bs : List ℕ) (v : ℕ) → length cs ≡ length bs → length (lanes_of cs bs v) ≡ length cs
lanes_long [] bs v e = refl
lanes_long (c ∷ cs) [] v e = absurd (omega arith)
lanes_long (c ∷ cs) (a ∷ bs) v e = ap suc (lanes_long cs bs v (omega arith))

pub lanes_at : (cs : List ℤ) (bs : List ℕ) (v r : ℕ) → r < length cs → length cs ≡ length bs → get_or (lanes_of cs bs v) r (pos 0) ≡ lane_of (get_or cs r (pos 0)) (get_or bs r 0) v
lanes_at [] bs v r h e = absurd (omega arith)
lanes_at (c ∷ cs) [] v r h e = absurd (omega arith)
lanes_at (c ∷ cs) (a ∷ bs) v zero h e = refl
lanes_at (c ∷ cs) (a ∷ bs) v (suc r) h e = lanes_at cs bs v r (omega arith) (omega arith)

-- ---- the row: the shares of v steps are laid, and their prices
pub record Priced (shares : ℕ → List ℤ) (price : ℕ → ℤ) (row : List ℤ) (v : ℕ) : Type 0 where
  pub long : length row ≡ 72
  pub low : take (v * 8) row ≡ gather shares (from 0 v)
  pub high : take v (drop 64 row) ≡ map price (from 0 v)

module _ (shares : ℕ → List ℤ) (price : ℕ → ℤ) where
  pub priced_none : (row : List ℤ) → length row ≡ 72 → Priced shares price row 0
  priced_none row e = record { long = e; low = refl; high = refl }

  -- the loop's turn: the part of step v, k places wide, is laid between those before it and what stands behind, then its price
  module _ (row x : List ℤ) (v k : ℕ) (wide : k ≡ 8) (h : v < 8) (f : Priced shares price row v) (is : x ≡ shares v) (eight : length x ≡ 8) where
    abbrev laid : List ℤ
    laid = take (v * 8) row ++ (x ++ drop k (drop (v * 8) row))

    first_long : length (take (v * 8) row) ≡ v * 8
    first_long = length-take-le (v * 8) row (omega (arith, f.long))

    pub laid_long : length laid ≡ 72
    laid_long =
        let behind = drop k (drop (v * 8) row) in
        length-append (take (v * 8) row) (x ++ behind) ∙ omega (arith, f.long, first_long, length-append x behind, length-drop k (drop (v * 8) row), length-drop (v * 8) row)

    laid_low : take ((v + 1) * 8) laid ≡ gather shares (from 0 (v + 1))
    laid_low =
        let first = take (v * 8) row in
        let behind = drop k (drop (v * 8) row) in
        let next : gather shares (from 0 (v + 1)) ≡ gather shares (from 0 v) ++ shares v = ap (gather shares) (from_more 0 v ∙ ap (λ j. from 0 v ++ j ∷ []) (zero-add v)) ∙ gather_more shares (from 0 v) v in
        ap (take ((v + 1) * 8)) (sym (append_assoc first x behind))
        ∙ take_at (first ++ x) behind ((v + 1) * 8) (length-append first x ∙ omega (arith, first_long))
        ∙ (λ j. f.low j ++ is j)
        ∙ sym next

    laid_high : drop 64 laid ≡ drop 64 row
    laid_high =
        let first = take (v * 8) row in
        let behind = drop k (drop (v * 8) row) in
        let rest = 64 - (v + 1) * 8 in
        let place : 64 ≡ length (first ++ x) + rest = omega (arith, length-append first x, first_long) in
        let end : v * 8 + k + rest ≡ 64 = omega arith in
        (λ j. drop (place j) (sym (append_assoc first x behind) j))
        ∙ drop-append-add (first ++ x) behind rest
        ∙ ap (drop rest) (drop-drop k (v * 8) row)
        ∙ drop-drop rest (v * 8 + k) row
        ∙ ap (λ j. drop j row) end

    pub priced_more : {y : ℤ} → y ≡ price v → Priced shares price (set laid (64 + v) y) (v + 1)
    priced_more {y} cost = record {
      long = length-set laid (64 + v) y ∙ laid_long;
      low = take-set-le ((v + 1) * 8) laid (64 + v) y (omega arith) ∙ laid_low;
      high =
          let room : v < length (drop 64 laid) = omega (arith, length-drop 64 laid, laid_long) in
          ap (take (v + 1)) (drop-set-add 64 laid v y)
          ∙ rw add-one (take-suc-set (drop 64 laid) v y room)
          ∙ (λ j. take v (laid_high j) ++ cost j ∷ [])
          ∙ ap (λ l. l ++ price v ∷ []) f.high
          ∙ map_more price v;
    }

  pub priced_all : (row : List ℤ) → Priced shares price row 8 → row ≡ gather shares (from 0 8) ++ map price (from 0 8)
  priced_all row f = sym (take_all 72 row (omega (arith, f.long))) ∙ take-add 64 8 row ∙ (λ j. f.low j ++ f.high j)

-- eight parts
pub coefs_long : (m i : ℕ) (terms : List Terms) → length (coef_parts m i terms) ≡ 8
coefs_long m i terms = length-padded (pos 0) 8 (map (λ r. coef_part i (get_or terms r Neither)) (from 0 m))

pub values_long : (m i : ℕ) (terms : List Terms) → length (value_parts m i terms) ≡ 8
values_long m i terms = length-padded {A = ℕ} 0 8 (map (λ r. value_part i (get_or terms r Neither)) (from 0 m))
