-- What stands at a node's place in a buffer: layers of w nodes each, nodes of k elements each?
use mathlib.Core.Path.{◌≡◌, refl, sym, ◌∙◌, ap}
use mathlib.Core.List.{List, [], ◌∷◌, ◌++◌, map}
use mathlib.Core.Option.{none}
use Prim.Native.Nat.{ℕ, zero, suc, ◌+◌, ◌*◌, ◌≤◌, ◌<◌}
use native.Mathlib.Omega.{arith}
use native.Mathlib.Nat.{zero-mul, suc-mul, mul_assoc, mul-le-mul_right, add-mul}
use lib.ListN.{length, get_or, take, drop, replicate, length-map, length-replicate}
use lib.Seq.{drop-append-add, take_at, drop-drop, get_or-take, get_or-drop}
use lib.IntN.{ℤ, pos}
use Rattle.laws.specs.Lists.{flat, padded}
use Rattle.laws.proofs.Lists.{get_or_map}
use Rattle.laws.proofs.Filled.{length-padded, take_within, each_padded, flat_long}
use Rattle.laws.proofs.Each.{Each, each_at, each_below, each_map, each_append, each_flat}
use Rattle.meaning.specs.Diagram.{Arcs}
use Rattle.meaning.specs.Filter.{Numbers}
use Rattle.meaning.specs.Buffers.{node_cells, layer_cells, all_cells}
use Rattle.lent.specs.Wide.{wide, laid, Sized}
use Rattle.lent.proofs.Places.{cells_at}
use Rattle.lent.proofs.Lanes.{padded_at}

-- ---- rows of k elements each, one behind the other
module _ {A : Type 0} (k : ℕ) where
  flat_row : (l : List (List A)) (j : ℕ) (d : List A) → Each (λ x. length x ≡ k) l → j < length l → take k (drop (j * k) (flat l)) ≡ get_or l j d
  flat_row [] j d h b = absurd (omega arith)
  flat_row (x ∷ l) zero d h b = rw (zero-mul k) (take_at x (flat l) k h.0)
  flat_row (x ∷ l) (suc j) d h b =
      let place : suc j * k ≡ length x + j * k = omega (arith, h.0, suc-mul j k) in
      rw (place, drop-append-add x (flat l) (j * k)) (flat_row l j d h.1 (omega arith))

-- ---- layers of w rows each
module _ {A : Type 0} (k w : ℕ) where
  abbrev Even : List (List (List A)) → Type 0
  Even t = Each (λ l. (length l ≡ w) × Each (λ x. length x ≡ k) l) t

  layers_long : (t : List (List (List A))) → Even t → Each (λ x. length x ≡ w * k) (map flat t)
  layers_long t h =
      each_map (λ (l : List (List A)). (length l ≡ w) × Each (λ x. length x ≡ k) l) (λ x. length x ≡ w * k) flat
      (λ l e. flat_long k l e.1 ∙ ap (λ (n : ℕ). n * k) e.0) t h

  table_long : (t : List (List (List A))) → Even t → length (flat (map flat t)) ≡ length t * (w * k)
  table_long t h = flat_long (w * k) (map flat t) (layers_long t h) ∙ ap (λ (n : ℕ). n * (w * k)) (length-map t flat)

  layer_at : (t : List (List (List A))) → Even t → (i : ℕ) → i < length t → take (w * k) (drop (i * (w * k)) (flat (map flat t))) ≡ flat (get_or t i [])
  layer_at t h i b =
      flat_row (w * k) (map flat t) i [] (layers_long t h) (omega (arith, length-map t flat)) ∙ get_or_map flat t i [] [] b

  node_at : (t : List (List (List A))) → Even t → (i j : ℕ) (d : List A) → i < length t → j < w
      → take k (drop ((i * w + j) * k) (flat (map flat t))) ≡ get_or (get_or t i []) j d
  node_at t h i j d b c =
      let f = flat (map flat t) in
      let own = each_below (λ l. (length l ≡ w) × Each (λ x. length x ≡ k) l) t i [] b h in
      let place : (i * w + j) * k ≡ i * (w * k) + j * k = add-mul (i * w) j k ∙ ap (λ (n : ℕ). n + j * k) (mul_assoc i w k) in
      let room : j * k + k ≤ w * k = omega (arith, mul-le-mul_right k c, suc-mul j k) in
      rw place (ap (take k) (sym (drop-drop (j * k) (i * (w * k)) f)) ∙ sym (take_within (j * k) k (w * k) (drop (i * (w * k)) f) room))
      ∙ ap (λ (l : List A). take k (drop (j * k) l)) (layer_at t h i b)
      ∙ flat_row k (get_or t i []) j d own.1 (omega (arith, own.0))

  -- one element of a node
  element_at : (t : List (List (List A))) → Even t → (i j v : ℕ) (d : List A) (z : A) → i < length t → j < w → v < k
      → get_or (flat (map flat t)) ((i * w + j) * k + v) z ≡ get_or (get_or (get_or t i []) j d) v z
  element_at t h i j v d z b c e =
      let f = flat (map flat t) in
      sym (get_or-take k (drop ((i * w + j) * k) f) v z e ∙ get_or-drop ((i * w + j) * k) f v z) ∙ ap (λ (x : List A). get_or x v z) (node_at t h i j d b c)

-- ---- the bytes
module _ (k w : ℕ) (a : Arcs) (h : Sized k w a) where
  laid_table : laid k w a ≡ flat (map flat (wide k w a))
  laid_table = ap flat (go a)
    where
      go : (a : Arcs) → map (λ l. flat (padded w (replicate k 0) l)) a ≡ map flat (wide k w a)
      go [] = refl
      go (l ∷ ls) = ap (λ (r : List (List ℕ)). flat (padded w (replicate k 0) l) ∷ r) (go ls)

  wide_even : Even k w (wide k w a)
  wide_even =
      each_map (λ (l : List (List ℕ)). (length l ≤ w) × Each (λ bs. length bs ≡ k) l) (λ l. (length l ≡ w) × Each (λ bs. length bs ≡ k) l) (padded w (replicate k 0))
      (λ l e. (length-padded (replicate k 0) w l, each_padded (λ bs. length bs ≡ k) w (replicate k 0) l (length-replicate k 0) e.1)) a h

  -- the bytes of a node that is there
  pub bytes_at : (i j : ℕ) → i < length a → j < length (get_or a i []) → take k (drop ((i * w + j) * k) (laid k w a)) ≡ get_or (get_or a i []) j []
  bytes_at i j b c =
      let z : List ℕ = replicate k 0 in
      let own : length (get_or a i []) ≤ w = (each_at (λ (l : List (List ℕ)). (length l ≤ w) × Each (λ bs. length bs ≡ k) l) a i [] (omega arith, tt) h).0 in
      ap (λ (l : List ℕ). take k (drop ((i * w + j) * k) l)) laid_table
      ∙ node_at k w (wide k w a) wide_even i j z (omega (arith, length-map a (padded w z))) (omega arith)
      ∙ ap (λ (l : List (List ℕ)). get_or l j z) (get_or_map (padded w z) a i [] [] b)
      ∙ padded_at w z (get_or a i []) j (omega arith)
      ∙ other (get_or a i []) j c
    where
      other : (l : List (List ℕ)) (j : ℕ) → j < length l → get_or l j (replicate k 0) ≡ get_or l j []
      other [] j c = absurd (omega arith)
      other (x ∷ l) zero c = refl
      other (x ∷ l) (suc j) c = other l j (omega arith)

-- ---- the cells
module _ (k w : ℕ) where
  abbrev table : List (List Numbers) → List (List Numbers) → List (List (List ℤ))
  table [] us = []
  table (d ∷ ds) [] = []
  table (d ∷ ds) (u ∷ us) = padded w (replicate k (pos 0)) (layer_cells k d u) ∷ table ds us

  cells_table : (ds us : List (List Numbers)) → all_cells k w ds us ≡ flat (map flat (table ds us))
  cells_table [] us = refl
  cells_table (d ∷ ds) [] = refl
  cells_table (d ∷ ds) (u ∷ us) = ap (λ (r : List ℤ). flat (padded w (replicate k (pos 0)) (layer_cells k d u)) ++ r) (cells_table ds us)

  -- each node has k cells
  abbrev pub Celled : List Numbers → List Numbers → Type 0
  Celled ds us = (j : ℕ) → length (node_cells k (get_or ds j none) (get_or us j none)) ≡ k

  layer_long : (ds us : List Numbers) → Celled ds us → Each (λ c. length c ≡ k) (layer_cells k ds us)
  layer_long [] us h = tt
  layer_long (d ∷ ds) [] h = tt
  layer_long (d ∷ ds) (u ∷ us) h = (h 0, layer_long ds us (λ j. h (suc j)))

  table_even : (ds us : List (List Numbers)) → ((i : ℕ) → Celled (get_or ds i []) (get_or us i [])) → Even k w (table ds us)
  table_even [] us h = tt
  table_even (d ∷ ds) [] h = tt
  table_even (d ∷ ds) (u ∷ us) h =
      let z = replicate k (pos 0) in
      ((length-padded z w (layer_cells k d u), each_padded (λ c. length c ≡ k) w z (layer_cells k d u) (length-replicate k (pos 0)) (layer_long d u (h 0))), table_even ds us (λ i. h (suc i)))

  table_rows : (ds us : List (List Numbers)) → length us ≡ length ds → length (table ds us) ≡ length ds
  table_rows [] us e = refl
  table_rows (d ∷ ds) [] e = absurd (omega arith)
  table_rows (d ∷ ds) (u ∷ us) e = ap suc (table_rows ds us (omega arith))

  table_at : (ds us : List (List Numbers)) (i j : ℕ) → length us ≡ length ds → i < length ds → j < w
      → get_or (get_or (table ds us) i []) j (replicate k (pos 0)) ≡ node_cells k (get_or (get_or ds i []) j none) (get_or (get_or us i []) j none)
  table_at [] us i j e b c = absurd (omega arith)
  table_at (d ∷ ds) [] i j e b c = absurd (omega arith)
  table_at (d ∷ ds) (u ∷ us) zero j e b c = padded_at w (replicate k (pos 0)) (layer_cells k d u) j c ∙ cells_at k d u j
  table_at (d ∷ ds) (u ∷ us) (suc i) j e b c = table_at ds us i j (omega arith) (omega arith) c

  -- so there are as many as all nodes have, and cell v of node j of layer i stands at its place
  module _ (ds us : List (List Numbers)) (same : length us ≡ length ds) (celled : (i : ℕ) → Celled (get_or ds i []) (get_or us i [])) where
    pub cells_count : length (all_cells k w ds us) ≡ length ds * (w * k)
    cells_count = ap length (cells_table ds us) ∙ table_long k w (table ds us) (table_even ds us celled) ∙ ap (λ (n : ℕ). n * (w * k)) (table_rows ds us same)

    pub cell_at : (i j v : ℕ) → i < length ds → j < w → v < k
        → get_or (all_cells k w ds us) ((i * w + j) * k + v) (pos 0) ≡ get_or (node_cells k (get_or (get_or ds i []) j none) (get_or (get_or us i []) j none)) v (pos 0)
    cell_at i j v b c e =
        ap (λ (l : List ℤ). get_or l ((i * w + j) * k + v) (pos 0)) (cells_table ds us)
        ∙ element_at k w (table ds us) (table_even ds us celled) i j v (replicate k (pos 0)) (pos 0) (omega (arith, table_rows ds us same)) c e
        ∙ ap (λ (l : List ℤ). get_or l v (pos 0)) (table_at ds us i j same b c)

  -- what holds of each cell of each node holds of all
  module _ (P : ℤ → Type 0) (z : P (pos 0)) where
    zero_each : (n : ℕ) → Each P (replicate n (pos 0))
    zero_each zero = tt
    zero_each (suc n) = (z, zero_each n)

    layer_each : (ds us : List Numbers) → ((j : ℕ) → Each P (node_cells k (get_or ds j none) (get_or us j none))) → Each (Each P) (layer_cells k ds us)
    layer_each [] us h = tt
    layer_each (d ∷ ds) [] h = tt
    layer_each (d ∷ ds) (u ∷ us) h = (h 0, layer_each ds us (λ j. h (suc j)))

    pub table_each : (ds us : List (List Numbers)) → ((i j : ℕ) → i < length ds → Each P (node_cells k (get_or (get_or ds i []) j none) (get_or (get_or us i []) j none))) → Each P (all_cells k w ds us)
    table_each [] us h = tt
    table_each (d ∷ ds) [] h = tt
    table_each (d ∷ ds) (u ∷ us) h =
        let l = padded w (replicate k (pos 0)) (layer_cells k d u) in
        each_append P (flat l) (all_cells k w ds us)
        (each_flat P l (each_padded (Each P) w (replicate k (pos 0)) (layer_cells k d u) (zero_each k) (layer_each d u (λ j. h 0 j (omega arith)))))
        (table_each ds us (λ i j b. h (suc i) j (omega arith)))
