-- What stands on a page when plans have come by one after the other, and how many came?
use mathlib.Core.Path.{◌≡◌, refl, sym, ◌∙◌}
use mathlib.Core.List.{List, [], ◌∷◌, ◌++◌, append_assoc, append-nil}
use mathlib.Core.Bool.{Bool, true, false, cond}
use Prim.Native.Nat.{ℕ, zero, suc, min, ◌+◌, ◌*◌, ◌-◌, ◌≤◌, ◌<◌}
use native.Mathlib.Nat.{zero-add, add-zero, zero-mul, suc-mul, mul-le-mul_right}
use native.Mathlib.Decide.{dec_lt}
use native.Mathlib.Omega.{arith}
use borrow.Author.Tests.{ltb-true, ltb-false, lt-ltb, le-ltb}
use lib.Dec.{ltb}
use lib.ListN.{length, take, replicate, length-take}
use lib.Seq.{paste, take_all, take-paste, length-paste}
use Rattle.laws.specs.Lists.{flat, padded}
use Rattle.laws.proofs.Each.{Each, each_take}
use Rattle.laws.proofs.Filled.{padded_split, flat_long}
use Rattle.walk.specs.Beginnings.{lay_all}
use Rattle.step.specs.Steps.{Laid, laying}

-- plans that come by in two parts
pub lay_append : (n cap : ℕ) (s : Laid) (ps qs : List (List ℕ)) → lay_all n cap s (ps ++ qs) ≡ lay_all n cap (lay_all n cap s ps) qs
lay_append n cap s [] qs = refl
lay_append n cap s (p ∷ ps) qs = lay_append n cap (laying n cap s p) ps qs

-- one more than there is room for has come by: nothing changes
pub lay_full : (n cap : ℕ) (s : Laid) (ps : List (List ℕ)) → cap < s.seen → lay_all n cap s ps ≡ s
lay_full n cap s [] h = refl
lay_full n cap s (p ∷ ps) h = rw (lt-ltb cap s.seen h) (lay_full n cap s ps h)

-- ---- a plan comes by where there is room, and the first for which there is none
abbrev at : List ℕ → ℕ → Laid
at page k = record { page = page; seen = k }

laying_room : (n cap k : ℕ) (page p : List ℕ) → k < cap → laying n cap (at page k) p ≡ at (paste page (k * n) p n) (suc k)
laying_room n cap k page p h = rw (le-ltb cap k (omega arith), lt-ltb k cap h)

laying_none : (n cap : ℕ) (page p : List ℕ) → laying n cap (at page cap) p ≡ at page (suc cap)
laying_none n cap page p = rw (le-ltb cap cap (omega arith))

-- ---- plans come by a page on which k stand: how many are seen, what stands on it, and how long it is
record Stand (n cap k : ℕ) (page : List ℕ) (ps : List (List ℕ)) (s : Laid) : Type 0 where
  seen_is : s.seen ≡ min (suc cap) (k + length ps)
  page_is : take ((k + length (take (cap - k) ps)) * n) s.page ≡ take (k * n) page ++ flat (take (cap - k) ps)
  long : length s.page ≡ length page

stands : (n cap : ℕ) (ps : List (List ℕ)) (k : ℕ) (page : List ℕ) → k ≤ cap → cap * n ≤ length page → Each (λ p. length p ≡ n) ps
    → Stand n cap k page ps (lay_all n cap (at page k) ps)
stands n cap [] k page h room e =
    record { seen_is = omega arith; page_is = none (cap - k); long = refl }
  where
    none : (c : ℕ) → take ((k + length (take {A = List ℕ} c [])) * n) page ≡ take (k * n) page ++ flat (take {A = List ℕ} c [])
    none zero = rw (add-zero k) (sym (append-nil (take (k * n) page)))
    none (suc c) = rw (add-zero k) (sym (append-nil (take (k * n) page)))
stands n cap (p ∷ ps) k page h room e = elim (dec_lt k cap) [
  | yes b ↦
      let next = paste page (k * n) p n in
      let place : suc k * n ≡ k * n + n = suc-mul k n in
      let within : k * n + n ≤ length page = omega (arith, mul-le-mul_right n b) in
      let long : length next ≡ length page = length-paste page (k * n) p n within (omega (arith, e.0)) in
      let s = stands n cap ps (suc k) next b (omega arith) e.1 in
      let more : cap - k ≡ suc (cap - suc k) = omega arith in
      let count : k + suc (length (take (cap - suc k) ps)) ≡ suc k + length (take (cap - suc k) ps) = omega arith in
      let first : take (suc k * n) next ≡ take (k * n) page ++ p = rw place (take-paste page (k * n) p n (omega arith) (omega (arith, e.0)) ∙ rw (take_all n p (omega (arith, e.0)))) in
      rw (laying_room n cap k page p b) record {
        seen_is = s.seen_is ∙ omega arith;
        page_is = rw (more, count) (s.page_is ∙ rw first (append_assoc (take (k * n) page) p (flat (take (cap - suc k) ps))));
        long = s.long ∙ long;
      }
  | no f ↦
      let here : k ≡ cap = omega arith in
      let full : lay_all n cap (laying n cap (at page k) p) ps ≡ at page (suc cap) = rw (here, laying_none n cap page p) (lay_full n cap (at page (suc cap)) ps (omega arith)) in
      let none : cap - k ≡ 0 = omega arith in
      rw full record {
        seen_is = omega arith;
        page_is = rw (none, add-zero k) (sym (append-nil (take (k * n) page)));
        long = refl;
      }
]

-- ---- from the first plan on: how many are written, whether there are more, what stands on the page, and how long it is
module _ (n cap : ℕ) (page : List ℕ) (ps : List (List ℕ)) (room : cap * n ≤ length page) (each : Each (λ p. length p ≡ n) ps) where
  abbrev pub end : Laid
  end = lay_all n cap (record { page = page; seen = 0 }) ps

  all : Stand n cap 0 page ps end
  all = stands n cap ps 0 page (omega arith) room each

  seen_all : end.seen ≡ min (suc cap) (length ps)
  seen_all = rw zero-add at all.seen_is

  pub lay_count : cond (ltb cap end.seen) cap end.seen ≡ length (take cap ps)
  lay_count = go (ltb cap end.seen) refl
    where
      go : (t : Bool) → ltb cap end.seen ≡ t → cond t cap end.seen ≡ length (take cap ps)
      go true e = omega (arith, ltb-true cap end.seen e, seen_all, length-take cap ps)
      go false e = omega (arith, ltb-false cap end.seen e, seen_all, length-take cap ps)

  pub lay_more : ltb cap end.seen ≡ ltb cap (length ps)
  lay_more = elim (dec_lt cap (length ps)) [
    | yes h ↦ lt-ltb cap end.seen (omega (arith, seen_all)) ∙ sym (lt-ltb cap (length ps) h)
    | no f ↦ le-ltb cap end.seen (omega (arith, seen_all)) ∙ sym (le-ltb cap (length ps) (omega arith))
  ]

  pub lay_page : take (length (take cap ps) * n) end.page ++ replicate (length page - length (take cap ps) * n) 0 ≡ padded (length page) 0 (flat (take cap ps))
  lay_page =
      let all_of : cap - 0 ≡ cap = omega arith in
      let first : take (length (take cap ps) * n) end.page ≡ flat (take cap ps) = rw (zero-add, zero-mul n, all_of) at all.page_is in
      let long : length (flat (take cap ps)) ≡ length (take cap ps) * n = flat_long n (take cap ps) (each_take (λ p. length p ≡ n) cap ps each) in
      let fits : length (take cap ps) ≤ cap = omega (arith, length-take cap ps) in
      rw (first, ← long) (sym (padded_split (length page) 0 (flat (take cap ps)) (omega (arith, mul-le-mul_right n fits))))

  pub lay_long : length end.page ≡ length page
  lay_long = all.long
