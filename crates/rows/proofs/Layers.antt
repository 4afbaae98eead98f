-- What is left to lay of a layer's cells, rooms, up numbers or bytes from node j on?
use mathlib.Core.Path.{◌≡◌, refl, sym, ap, ◌∙◌}
use mathlib.Core.List.{List, [], ◌∷◌, ◌++◌, map, append_assoc}
use Prim.Native.Nat.{ℕ, zero, suc, ◌+◌, ◌-◌, ◌*◌, ◌<◌}
use native.Mathlib.Nat.{zero-mul, suc-mul}
use native.Mathlib.Numerals.{add-one}
use native.Mathlib.Omega.{arith}
use lib.ListN.{length, take, drop, length-append, length-drop}
use lib.Seq.{length-take-le, take_at, drop_at}
use lib.IntN.{ℤ}
use Rattle.laws.specs.Lists.{flat, from, parted}
use Rattle.laws.proofs.Each.{Each, each_below, each_take, each_drop}
use Rattle.laws.proofs.Filled.{take_within, get_or-parted}
use Rattle.lent.specs.Lanes.{lanes_at}
use Rattle.lent.specs.Passes.{node_lanes, down_lanes, down_cells, up_cells, test_node, test_layer}
use Rattle.lent.proofs.Whole.{parted_count}
use Rattle.rows.proofs.Laid.{place_in, parted_next}

-- all parts of a list, and none
module _ {A : Type 0} (w n : ℕ) (l : List A) where
  abbrev pub left : ℕ → List (List A)
  left j = parted (w - j) n (drop (j * n) l)

  left_all : left 0 ≡ parted w n l
  left_all =
      let o : w - 0 ≡ w = omega arith in
      rw (zero-mul n, o) refl

  left_none : left w ≡ []
  left_none =
      let o : w - w ≡ 0 = omega arith in
      rw o refl

-- what holds of each part, or of each element of the parts, at part j
pub each_part : {A : Type 0} (P : List A → Type 0) (w n : ℕ) (l : List A) (j : ℕ) → j < w → Each P (parted w n l) → P (take n (drop (j * n) l))
each_part P w n l j h e = rw (get_or-parted w n j l h) at (each_below P (parted w n l) j [] (omega (arith, parted_count w n l)) e)

pub each_in_part : {A : Type 0} (P : A → Type 0) (w n : ℕ) (l : List A) (j : ℕ) → j < w → Each P (take (w * n) l) → Each P (take n (drop (j * n) l))
each_in_part P w n l j h e =
    rw (take_within (j * n) n (w * n) l (place_in w n j h)) at (each_take P n (drop (j * n) (take (w * n) l)) (each_drop P (j * n) (take (w * n) l) e))

-- w parts of n elements each, of whose elements something holds
pub parted_each : {A : Type 0} (P : A → Type 0) (w n : ℕ) (l : List A) → length l ≡ w * n → Each P l → Each (λ x. (length x ≡ n) × Each P x) (parted w n l)
parted_each P zero n l e h = tt
parted_each P (suc w) n l e h =
    let m = suc-mul w n in
    ((length-take-le n l (omega arith), each_take P n l h), parted_each P w n (drop n l) (omega (arith, length-drop n l)) (each_drop P n l h))

pub length-flat : {A : Type 0} (n : ℕ) (ls : List (List A)) → Each (λ l. length l ≡ n) ls → length (flat ls) ≡ length ls * n
length-flat n [] e = sym (zero-mul n)
length-flat n (l ∷ ls) e = length-append l (flat ls) ∙ omega (arith, e.0, length-flat n ls e.1, suc-mul (length ls) n)

-- parts of n elements each, put together and cut again; what stands behind them is not seen
pub parted_back : {A : Type 0} (n : ℕ) (ls : List (List A)) (rest : List A) → Each (λ l. length l ≡ n) ls → parted (length ls) n (flat ls ++ rest) ≡ ls
parted_back n [] rest e = refl
parted_back n (l ∷ ls) rest e =
    rw (append_assoc l (flat ls) rest, take_at l (flat ls ++ rest) n e.0, drop_at l (flat ls ++ rest) n e.0) (ap (λ r. l ∷ r) (parted_back n ls rest e.1))

-- ---- what f makes of each part
module _ {A B : Type 0} (f : List A → List B) (w n : ℕ) (l : List A) where
  abbrev pub made : ℕ → List B
  made j = flat (map f (left w n l j))

  pub made_next : (j : ℕ) → j < w → made j ≡ f (take n (drop (j * n) l)) ++ made (j + 1)
  made_next j h = rw (parted_next w n j l h) refl

  pub made_none : made w ≡ []
  made_none = ap (λ p. flat (map f p)) (left_none w n l)

  pub made_all : made 0 ≡ flat (map f (parted w n l))
  made_all = ap (λ p. flat (map f p)) (left_all w n l)

-- ---- down
module _ (m w : ℕ) (here : List ℤ) where
  abbrev pub downs_left : ℕ → List ℤ
  downs_left j = flat (map (down_cells m here) (from j (w - j)))

  pub downs_next : (j : ℕ) → j < w → downs_left j ≡ down_cells m here j ++ downs_left (j + 1)
  downs_next j h =
      let o : w - j ≡ suc (w - (j + 1)) = omega arith in
      rw (o, add-one) refl

  pub downs_none : downs_left w ≡ []
  downs_none =
      let o : w - w ≡ 0 = omega arith in
      rw o refl

  pub downs_all : downs_left 0 ≡ flat (map (down_cells m here) (from 0 w))
  downs_all =
      let o : w - 0 ≡ w = omega arith in
      rw o refl

-- ---- up, beside the down numbers that stand in the cells c
module _ (m w : ℕ) (here c : List ℤ) where
  abbrev pub ups_left : ℕ → List ℤ
  ups_left j = flat (up_cells m here j (left w (4 * m + 3) c j))

  pub ups_next : (j : ℕ) → j < w → ups_left j ≡ node_lanes m (down_lanes m (take (4 * m + 3) (drop (j * (4 * m + 3)) c))) (lanes_at here (j * 17)) ++ ups_left (j + 1)
  ups_next j h =
      let one : j + 1 ≡ suc j = add-one j in
      rw (parted_next w (4 * m + 3) j c h, one) refl

  pub ups_none : ups_left w ≡ []
  ups_none = ap (λ p. flat (up_cells m here w p)) (left_none w (4 * m + 3) c)

  pub ups_all : ups_left 0 ≡ flat (up_cells m here 0 (parted w (4 * m + 3) c))
  ups_all = ap (λ p. flat (up_cells m here 0 p)) (left_all w (4 * m + 3) c)

-- ---- the bytes that remain
module _ (w : ℕ) (row next : List ℤ) (arcs : List ℕ) (room : List ℤ) where
  abbrev pub tests_left : ℕ → List ℕ
  tests_left j = flat (test_layer row next (left w 8 arcs j) (left w 17 room j))

  pub tests_next : (j : ℕ) → j < w → tests_left j ≡ test_node row next (lanes_at room (j * 17)) 0 (take 8 (drop (j * 8) arcs)) ++ tests_left (j + 1)
  tests_next j h = rw (parted_next w 8 j arcs h, parted_next w 17 j room h) refl

  pub tests_none : tests_left w ≡ []
  tests_none = ap (λ p. flat (test_layer row next p (left w 17 room w))) (left_none w 8 arcs)

  pub tests_all : tests_left 0 ≡ flat (test_layer row next (parted w 8 arcs) (parted w 17 room))
  tests_all = (λ i. flat (test_layer row next (left_all w 8 arcs i) (left_all w 17 room i)))
