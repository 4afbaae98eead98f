-- Arrays that a loop fills: a list in the first places, one value in all the others.
use mathlib.Core.Path.{◌≡◌, refl, sym, ap, ◌∙◌}
use mathlib.Core.List.{List, [], ◌∷◌, ◌++◌, map, append_assoc, append-nil}
use mathlib.Core.Bool.{Bool, ◌&&◌}
use Prim.Native.Nat.{ℕ, zero, suc, ◌+◌, ◌*◌, ◌-◌, ◌≤◌, ◌<◌}
use native.Mathlib.Nat.{not-suc-le-zero, le_of_suc-le-suc, zero-add, add-zero, suc-add, zero-mul, suc-mul, mul-le-mul_right}
use native.Mathlib.Numerals.{add-one}
use native.Mathlib.Omega.{arith}
use lib.ListN.{length, get_or, set, take, drop, replicate, length-map, length-append, length-take}
use lib.Seq.{paste, paste-suc, drop-drop, take-take, take-append-le, drop-append-add, ext_get_or, take_all, take_at, drop_at}
use Rattle.laws.specs.Lists.{every, padded, parted, gather, flat, from}
use Rattle.laws.proofs.Lists.{get_or_map, length_from, get_or-from}
use Rattle.laws.proofs.Each.{Each}
use Rattle.laws.proofs.Parts.{length_fields}

module _ {A : Type 0} (z : A) where
  pub length-padded : (n : ℕ) (l : List A) → length (padded n z l) ≡ n
  length-padded zero l = refl
  length-padded (suc n) [] = ap suc (length-padded n [])
  length-padded (suc n) (x ∷ l) = ap suc (length-padded n l)

  -- none filled
  pub padded_none : (n : ℕ) → padded n z [] ≡ replicate n z
  padded_none zero = refl
  padded_none (suc n) = ap (λ (l : List A). z ∷ l) (padded_none n)

  -- one more
  pub padded_more : (n : ℕ) (l : List A) (x : A) → length l < n → set (padded n z l) (length l) x ≡ padded n z (l ++ x ∷ [])
  padded_more zero l x h = absurd (not-suc-le-zero h)
  padded_more (suc n) [] x h = refl
  padded_more (suc n) (y ∷ l) x h = ap (λ (r : List A). y ∷ r) (padded_more n l x (le_of_suc-le-suc h))

  -- a whole row more
  front : (n : ℕ) (xs : List A) → length xs ≤ n → take (length xs) xs ++ drop (length xs) (padded n z []) ≡ padded n z xs
  front n [] h = refl
  front zero (x ∷ xs) h = absurd (not-suc-le-zero h)
  front (suc n) (x ∷ xs) h = ap (λ (r : List A). x ∷ r) (front n xs (le_of_suc-le-suc h))

  pub padded_paste : (n : ℕ) (l xs : List A) → length l + length xs ≤ n → paste (padded n z l) (length l) xs (length xs) ≡ padded n z (l ++ xs)
  padded_paste n [] xs h = rw (zero-add (length xs)) (front n xs (omega arith))
  padded_paste zero (y ∷ l) xs h = absurd (omega arith)
  padded_paste (suc n) (y ∷ l) xs h = rw (suc-add (length l) (length xs)) (ap (λ (r : List A). y ∷ r) (padded_paste n l xs (omega arith)))

  -- filling up again changes nothing
  again : (n k : ℕ) (xs : List A) → length xs ≤ k → padded n z (padded k z xs) ≡ padded n z xs
  again zero k xs h = refl
  again (suc n) zero [] h = refl
  again (suc n) zero (x ∷ xs) h = absurd (not-suc-le-zero h)
  again (suc n) (suc k) [] h = ap (λ (r : List A). z ∷ r) (again n k [] (omega arith))
  again (suc n) (suc k) (x ∷ xs) h = ap (λ (r : List A). x ∷ r) (again n k xs (le_of_suc-le-suc h))

  pub padded_row : (n k : ℕ) (l xs : List A) → length xs ≤ k → padded n z (l ++ padded k z xs) ≡ padded n z (l ++ xs)
  padded_row n k [] xs h = again n k xs h
  padded_row zero k (y ∷ l) xs h = refl
  padded_row (suc n) k (y ∷ l) xs h = ap (λ (r : List A). y ∷ r) (padded_row n k l xs h)

  -- the list again
  pub take-padded : (n : ℕ) (l : List A) → length l ≤ n → take (length l) (padded n z l) ≡ l
  take-padded n [] h = refl
  take-padded zero (x ∷ l) h = absurd (not-suc-le-zero h)
  take-padded (suc n) (x ∷ l) h = ap (λ (r : List A). x ∷ r) (take-padded n l (le_of_suc-le-suc h))

-- ---- parts
module _ {A : Type 0} where
  -- a part of a part
  pub take_within : (k m n : ℕ) (l : List A) → k + m ≤ n → take m (drop k (take n l)) ≡ take m (drop k l)
  take_within zero m n l h = take-take m n l (omega arith)
  take_within (suc k) m zero l h = absurd (omega arith)
  take_within (suc k) m (suc n) [] h = refl
  take_within (suc k) m (suc n) (x ∷ l) h = take_within k m n l (omega arith)

  pub get_or-parted : (n k i : ℕ) (l : List A) → i < n → get_or (parted n k l) i [] ≡ take k (drop (i * k) l)
  get_or-parted zero k i l h = absurd (not-suc-le-zero h)
  get_or-parted (suc n) k zero l h = rw (zero-mul k) refl
  get_or-parted (suc n) k (suc i) l h =
      let place : k + i * k ≡ suc i * k = omega (arith, suc-mul i k) in
      get_or-parted n k i (drop k l) (le_of_suc-le-suc h) ∙ rw (drop-drop (i * k) k l, place) refl

-- a loop that reads n fields of k bytes: the next goes to its place
pub paste_field : {A B : Type 0} (n k : ℕ) (g : List A → B) (l : List A) (d : List B) (z : B) (to i : ℕ) → to + i < length d → i < n
    → set (paste d to (map g (parted n k l)) i) (to + i) (g (take k (drop (i * k) l))) ≡ paste d to (map g (parted n k l)) (i + 1)
paste_field n k g l d z to i h b =
    let there : i < length (map g (parted n k l)) = omega (arith, length_fields g n k l) in
    let value : get_or (map g (parted n k l)) i z ≡ g (take k (drop (i * k) l)) = get_or_map g (parted n k l) i [] z (omega (arith, length-map (parted n k l) g, length_fields g n k l)) ∙ ap g (get_or-parted n k i l b) in
    rw (← value, add-one) (paste-suc d to (map g (parted n k l)) i z h there)

-- ---- what stands at a place
module _ {A : Type 0} where
  pub get_or-padded : (n : ℕ) (l : List A) (k : ℕ) (z : A) → length l ≤ n → get_or (padded n z l) k z ≡ get_or l k z
  get_or-padded zero [] k z h = refl
  get_or-padded zero (x ∷ l) k z h = absurd (not-suc-le-zero h)
  get_or-padded (suc n) [] zero z h = refl
  get_or-padded (suc n) [] (suc k) z h = get_or-padded n [] k z (omega arith)
  get_or-padded (suc n) (x ∷ l) zero z h = refl
  get_or-padded (suc n) (x ∷ l) (suc k) z h = get_or-padded n l k z (le_of_suc-le-suc h)

  -- a list is what stands at its places
  pub map_places : (f : ℕ → A) (l : List A) (d : A) → ((k : ℕ) → k < length l → f k ≡ get_or l k d) → map f (from 0 (length l)) ≡ l
  map_places f l d h =
      let n = length l in
      let long : length (map f (from 0 n)) ≡ n = length-map (from 0 n) f ∙ length_from 0 n in
      ext_get_or d (map f (from 0 n)) l long
      (λ k b.
      let there : k < n = rw long at b in
      get_or_map f (from 0 n) k 0 d (rw (length_from 0 n) there) ∙ ap f (get_or-from 0 n k there ∙ zero-add k) ∙ h k there)

  -- a test of the places is one of the list
  pub every_places : (p : ℕ → Bool) (g : A → Bool) (l : List A) (d : A) → ((k : ℕ) → k < length l → p k ≡ g (get_or l k d)) → every p (from 0 (length l)) ≡ every g l
  every_places p g l d h = go 0 l (λ k b. rw (zero-add k) (h k b))
    where
      go : (j : ℕ) (m : List A) → ((k : ℕ) → k < length m → p (j + k) ≡ g (get_or m k d)) → every p (from j (length m)) ≡ every g m
      go j [] e = refl
      go j (x ∷ m) e =
          let first : p j ≡ g x = rw (add-zero j) at (e 0 (omega arith)) in
          let rest : every p (from (suc j) (length m)) ≡ every g m = go (suc j) m (λ k b. let place : suc j + k ≡ j + suc k = omega arith in rw place (e (suc k) (omega arith))) in
          (λ i. first i && rest i)

-- ---- rows of w places each, one behind the other
module _ {A B : Type 0} (g : A → List B) (w : ℕ) (wide : (x : A) → length (g x) ≡ w) where
  pub length_rows : (l : List A) → length (gather g l) ≡ length l * w
  length_rows [] = sym (zero-mul w)
  length_rows (x ∷ l) = length-append (g x) (gather g l) ∙ omega (arith, wide x, length_rows l, suc-mul (length l) w)

  row : (l : List A) (k n : ℕ) (d : A) → k < length l → n ≤ w → take n (drop (k * w) (gather g l)) ≡ take n (g (get_or l k d))
  row [] k n d h b = absurd (omega arith)
  row (x ∷ l) zero n d h b = rw (zero-mul w) (take-append-le n (g x) (gather g l) (omega (arith, wide x)))
  row (x ∷ l) (suc k) n d h b =
      let place : suc k * w ≡ length (g x) + k * w = omega (arith, wide x, suc-mul k w) in
      rw (place, drop-append-add (g x) (gather g l) (k * w)) (row l k n d (omega arith) b)

  -- the first n places of row k, where all of them fill an array
  pub row_padded : (t : ℕ) (z : B) (l : List A) (k n : ℕ) (d : A) → length l * w ≤ t → k < length l → n ≤ w
      → take n (drop (k * w) (padded t z (gather g l))) ≡ take n (g (get_or l k d))
  row_padded t z l k n d room h b =
      let m = gather g l in
      let long = length_rows l in
      let within : k * w + n ≤ length m = omega (arith, mul-le-mul_right w h, suc-mul k w) in
      sym (take_within (k * w) n (length m) (padded t z m) within) ∙ rw (take-padded z t m (omega arith)) (row l k n d h b)

-- one row more
pub gather_more : {A B : Type 0} (g : A → List B) (l : List A) (x : A) → gather g (l ++ x ∷ []) ≡ gather g l ++ g x
gather_more g [] x = append-nil (g x)
gather_more g (y ∷ l) x = ap (λ r. g y ++ r) (gather_more g l x) ∙ sym (append_assoc (g y) (gather g l) (g x))

-- what was pasted, read back
pub part_pasted : {A : Type 0} (d : List A) (at : ℕ) (s : List A) (n : ℕ) → at ≤ length d → length s ≡ n → take n (drop at (paste d at s n)) ≡ s
part_pasted d at s n h e =
    let whole : take n s ≡ s = take_all n s (omega arith) in
    ap (λ l. take n (drop at l)) (append_assoc (take at d) (take n s) (drop (at + n) d))
    ∙ ap (take n) (drop_at (take at d) (take n s ++ drop (at + n) d) at (omega (arith, length-take at d)))
    ∙ take_at (take n s) (drop (at + n) d) n (ap length whole ∙ e)
    ∙ whole

-- what holds of each, and of what it is filled up with
pub each_padded : {A : Type 0} (P : A → Type 0) (n : ℕ) (z : A) (l : List A) → P z → Each P l → Each P (padded n z l)
each_padded P zero z l h e = tt
each_padded P (suc n) z [] h e = (h, each_padded P n z [] h tt)
each_padded P (suc n) z (x ∷ l) h e = (e.0, each_padded P n z l h e.1)

-- a list that is long enough is not filled up
pub padded_full : {A : Type 0} (n : ℕ) (z : A) (l : List A) → length l ≡ n → padded n z l ≡ l
padded_full zero z [] e = refl
padded_full zero z (x ∷ l) e = absurd (omega arith)
padded_full (suc n) z [] e = absurd (omega arith)
padded_full (suc n) z (x ∷ l) e = ap (λ m. x ∷ m) (padded_full n z l (omega arith))

-- a list that is filled up, and what fills it
pub padded_split : {A : Type 0} (n : ℕ) (z : A) (l : List A) → length l ≤ n → padded n z l ≡ l ++ replicate (n - length l) z
padded_split n z [] h = let o : n - 0 ≡ n = omega arith in rw o (padded_none z n)
padded_split zero z (x ∷ l) h = absurd (omega arith)
padded_split {A} (suc n) z (x ∷ l) h = let o : suc n - suc (length l) ≡ n - length l = omega arith in rw o (ap (λ (r : List A). x ∷ r) (padded_split n z l (omega arith)))

-- rows of k elements each, one behind the other: as long as they are many
pub flat_long : {A : Type 0} (k : ℕ) (l : List (List A)) → Each (λ x. length x ≡ k) l → length (flat l) ≡ length l * k
flat_long k [] h = sym (zero-mul k)
flat_long k (x ∷ l) h = length-append x (flat l) ∙ omega (arith, h.0, flat_long k l h.1, suc-mul (length l) k)
