-- How do the lanes of a step fill up, rule by rule?
use mathlib.Core.Path.{◌≡◌, refl, sym, ap, ◌∙◌}
use mathlib.Core.List.{List, [], ◌∷◌, ◌++◌, map}
use Prim.Native.Nat.{ℕ, ◌+◌, ◌<◌, ◌≤◌}
use native.Mathlib.Omega.{arith}
use lib.ListN.{length, get_or, set, replicate, length-map, length-append, get_or-append}
use lib.Seq.{get_or-set_other, get_or-append_seam, get_or-append-add, set-get_or}
use lib.IntN.{ℤ, pos, neg_ℤ, ◌-ℤ◌}
use Rattle.laws.specs.Z.{Within, zarith, dif, neg, back, back_is}
use Rattle.laws.proofs.Lists.{get_or_map}
use Rattle.lanes.proofs.Laws.{Halved, halved_more, halved_end, turned_within}
use Rattle.slot.specs.Rows.{lane_of, lanes_of}
use Rattle.slot.proofs.Laws.{lanes_long, lanes_at}
use Rattle.reach.specs.Spans.{step_lanes}

-- ---- the first r shares are laid, and as many with their sign turned; the lane of costs is as it was, zero
pub record Stepped (coefs : List ℤ) (values : List ℕ) (v : ℕ) (x : List ℤ) (r : ℕ) : Type 0 where
  pub half : Halved (step_lanes coefs values v) x 8 r
  pub cost : get_or x 16 (pos 0) ≡ pos 0

module _ (coefs : List ℤ) (values : List ℕ) (v : ℕ) (wide : length coefs ≡ 8) (same : length values ≡ 8) where
  abbrev shares : List ℤ
  shares = lanes_of coefs values v

  eight : length shares ≡ 8
  eight = lanes_long coefs values v (omega arith) ∙ wide

  both : length (shares ++ map neg_ℤ shares) ≡ 16
  both = length-append shares (map neg_ℤ shares) ∙ omega (arith, eight, length-map shares neg_ℤ)

  low : (k : ℕ) → k < 8 → get_or shares k (pos 0) ≡ get_or (step_lanes coefs values v) k (pos 0)
  low k h = sym (get_or-append (shares ++ map neg_ℤ shares) (pos 0 ∷ []) (pos 0) k (omega (arith, both)) ∙ get_or-append shares (map neg_ℤ shares) (pos 0) k (omega (arith, eight)))

  high : (k : ℕ) → k < 8 → neg_ℤ (get_or shares k (pos 0)) ≡ get_or (step_lanes coefs values v) (8 + k) (pos 0)
  high k h =
      let place : length shares + k ≡ 8 + k = omega (arith, eight) in
      sym
      (get_or-append (shares ++ map neg_ℤ shares) (pos 0 ∷ []) (pos 0) (8 + k) (omega (arith, both))
      ∙ ap (λ j. get_or (shares ++ map neg_ℤ shares) j (pos 0)) (sym place)
      ∙ get_or-append-add shares (map neg_ℤ shares) k (pos 0)
      ∙ get_or_map neg_ℤ shares k (pos 0) (pos 0) (omega (arith, eight)))

  pub stepped_none : Stepped coefs values v (replicate 17 (pos 0)) 0
  stepped_none = record {
    half = record {
      long = length-append (shares ++ map neg_ℤ shares) (pos 0 ∷ []) ∙ omega (arith, both);
      wide = refl;
      few = omega arith;
      done = omega arith;
      first = λ j f. absurd (omega arith);
      rest = λ j f g. absurd (omega arith);
    };
    cost = refl;
  }

  module _ {x : List ℤ} {r : ℕ} (l : Stepped coefs values v x r) where
    pub stepped_more : {c z : ℤ} → r < 8 → c ≡ get_or coefs r (pos 0) → (z ≡ lane_of c (get_or values r 0) v) × Within 7001 z → Stepped coefs values v (set (set x r (back z)) (8 + r) (back (pos 0 -ℤ back z))) (r + 1)
    stepped_more {c} {z} h e f =
        let is : z ≡ get_or shares r (pos 0) = f.0 ∙ ap (λ c. lane_of c (get_or values r 0) v) e ∙ sym (lanes_at coefs values v r (omega arith) (wide ∙ sym same)) in
        let here : back z ≡ z = back_is f.1 tt in
        let minus : pos 0 -ℤ back z ≡ neg_ℤ z = rw here (omega (zarith, dif (pos 0) z, neg z)) in
        let turned : back (pos 0 -ℤ back z) ≡ neg_ℤ z = rw minus (back_is (turned_within f.1) tt) in
        record {
          half = halved_more l.half h (here ∙ is ∙ low r h) (turned ∙ ap neg_ℤ is ∙ high r h);
          cost = get_or-set_other (set x r (back z)) (8 + r) 16 (back (pos 0 -ℤ back z)) (pos 0) (λ o. omega arith) ∙ get_or-set_other x r 16 (back z) (pos 0) (λ o. omega arith) ∙ l.cost;
        }

    pub stepped_all : 8 ≤ r → x ≡ step_lanes coefs values v
    stepped_all h =
        let last : get_or (step_lanes coefs values v) 16 (pos 0) ≡ pos 0 = ap (λ j. get_or (step_lanes coefs values v) j (pos 0)) (sym both) ∙ get_or-append_seam (shares ++ map neg_ℤ shares) (pos 0) [] (pos 0) in
        sym (set-get_or x 16 (pos 0)) ∙ halved_end l.half h (l.cost ∙ sym last)
