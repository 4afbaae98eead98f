-- What stands at a place of a layer, own node or not, and when do two layers have the same numbers, bytes and cells?
use mathlib.Core.Path.{◌≡◌, refl, sym, ◌∙◌, ap}
use mathlib.Core.List.{List, [], ◌∷◌, map, tail}
use mathlib.Core.Bool.{Bool, true, false, cond}
use mathlib.Core.Option.{none, some}
use Prim.Native.Nat.{ℕ, zero, suc, ◌≤◌, ◌<◌}
use native.Mathlib.Omega.{arith}
use native.Mathlib.Nat.{zero-add}
use lib.Dec.{eqb}
use borrow.Author.Tests.{ne_eqb}
use lib.ListN.{length, get_or, replicate, length-map}
use lib.IntN.{pos}
use Rattle.laws.specs.Lists.{padded, from}
use Rattle.laws.proofs.Lists.{get_or_map, length_from, get_or-from}
use Rattle.meaning.specs.Plan.{Campaign}
use Rattle.meaning.specs.Diagram.{Arcs}
use Rattle.meaning.specs.Filter.{Numbers, meet, over, up_node, down_node, down_at, node_count, each_step, Test, test_arc}
use Rattle.meaning.specs.Buffers.{node_cells, layer_cells}
use Rattle.lent.specs.Led.{first_ups}

-- ---- lists
module _ {A : Type 0} where
  tail_at : (l : List A) (j : ℕ) (d : A) → get_or (tail l) j d ≡ get_or l (suc j) d
  tail_at [] j d = refl
  tail_at (x ∷ l) j d = refl

  padded_first : (n : ℕ) (z : A) (l : List A) → padded (suc n) z l ≡ get_or l 0 z ∷ padded n z (tail l)
  padded_first n z [] = refl
  padded_first n z (x ∷ l) = refl

  -- lists with the same at each place are the same when filled up
  pub padded_same : (n : ℕ) (z : A) (l m : List A) → ((j : ℕ) → get_or l j z ≡ get_or m j z) → padded n z l ≡ padded n z m
  padded_same zero z l m h = refl
  padded_same (suc n) z l m h =
      rw (padded_first n z l, padded_first n z m, h 0)
      (ap (λ (r : List A). get_or m 0 z ∷ r) (padded_same n z (tail l) (tail m) (λ j. tail_at l j z ∙ h (suc j) ∙ sym (tail_at m j z))))

  -- what a list is filled up with is not seen where it counts as nothing
  pub padded_unseen : {B : Type 0} (g : A → B) (z d : A) → g z ≡ g d → (n : ℕ) (l : List A) (j : ℕ) → length l ≤ n → g (get_or (padded n z l) j d) ≡ g (get_or l j d)
  padded_unseen g z d e zero [] j h = refl
  padded_unseen g z d e zero (x ∷ l) j h = absurd (omega arith)
  padded_unseen g z d e (suc n) [] zero h = e
  padded_unseen g z d e (suc n) [] (suc j) h = padded_unseen g z d e n [] j (omega arith)
  padded_unseen g z d e (suc n) (x ∷ l) zero h = refl
  padded_unseen g z d e (suc n) (x ∷ l) (suc j) h = padded_unseen g z d e n l j (omega arith)

  -- what f makes of the places below n
  pub made_at : (f : ℕ → A) (n j : ℕ) (d : A) → j < n → get_or (map f (from 0 n)) j d ≡ f j
  made_at f n j d h = get_or_map f (from 0 n) j 0 d (rw (length_from 0 n) h) ∙ ap f (get_or-from 0 n j h ∙ zero-add j)

  pub made_long : (f : ℕ → A) (n : ℕ) → length (map f (from 0 n)) ≡ n
  made_long f n = length-map (from 0 n) f ∙ length_from 0 n

-- ---- a node without an arc, and one without a number
pub no_arc_at : (n v : ℕ) → get_or {A = ℕ} (replicate n 0) v 0 ≡ 0
no_arc_at zero v = refl
no_arc_at (suc n) zero = refl
no_arc_at (suc n) (suc v) = no_arc_at n v

module _ (q : Campaign) (i : ℕ) where
  pub no_arc_up : (us : List Numbers) (v n : ℕ) → up_node q i us v (replicate n 0) ≡ none
  no_arc_up us v zero = refl
  no_arc_up us v (suc n) = no_arc_up us (suc v) n

  pub no_arc_down : (k : ℕ) (d : Numbers) (v n : ℕ) → down_node q i k d v (replicate n 0) ≡ none
  no_arc_down k d v zero = refl
  no_arc_down k d v (suc n) = rw (ne_eqb 0 (suc k) (λ e. omega arith)) (no_arc_down k d (suc v) n)

  pub no_number_down : (k v : ℕ) (bs : List ℕ) → down_node q i k none v bs ≡ none
  no_number_down k v [] = refl
  no_number_down k v (b ∷ bs) = rw (no_number_down k (suc v) bs) (either (eqb b (suc k)))
    where
      either : (t : Bool) → cond t (meet (over q i v none) none) none ≡ none
      either true = refl
      either false = refl

  pub no_arc_tested : (e : Test) (us : List Numbers) (d : Numbers) (v n : ℕ) → each_step (test_arc e q i us d) v (replicate n 0) ≡ replicate n 0
  no_arc_tested e us d v zero = refl
  no_arc_tested e us d v (suc n) = ap (λ (r : List ℕ). 0 ∷ r) (no_arc_tested e us d (suc v) n)

  pub no_number_tested : (e : Test) (us : List Numbers) (v : ℕ) (bs : List ℕ) → each_step (test_arc e q i us none) v bs ≡ replicate (length bs) 0
  no_number_tested e us v [] = refl
  no_number_tested e us v (zero ∷ bs) = ap (λ (r : List ℕ). 0 ∷ r) (no_number_tested e us (suc v) bs)
  no_number_tested e us v (suc b ∷ bs) = ap (λ (r : List ℕ). 0 ∷ r) (no_number_tested e us (suc v) bs)

  -- ---- numbers: those of two layers are the same where each place gives the same
  down_first : (k : ℕ) (ds : List Numbers) (l : List (List ℕ)) → down_at q i k ds l ≡ meet (down_node q i k (get_or ds 0 none) 0 (get_or l 0 [])) (down_at q i k (tail ds) (tail l))
  down_first k [] [] = refl
  down_first k [] (bs ∷ l) = rw (no_number_down k 0 bs)
  down_first k (d ∷ []) [] = refl
  down_first k (d ∷ c ∷ ds) [] = refl
  down_first k (d ∷ ds) (bs ∷ l) = refl

  module _ (k : ℕ) where
    -- from each place of two layers the same comes to place k
    abbrev pub Gives : List Numbers → List (List ℕ) → List Numbers → List (List ℕ) → Type 0
    Gives ds l es m = (j : ℕ) → down_node q i k (get_or ds j none) 0 (get_or l j []) ≡ down_node q i k (get_or es j none) 0 (get_or m j [])

    gives_later : (ds : List Numbers) (l : List (List ℕ)) (es : List Numbers) (m : List (List ℕ)) → Gives ds l es m → Gives (tail ds) (tail l) (tail es) (tail m)
    gives_later ds l es m h j = rw (tail_at ds j none, tail_at l j [], tail_at es j none, tail_at m j []) (h (suc j))

    down_step : (ds : List Numbers) (l : List (List ℕ)) (es : List Numbers) (m : List (List ℕ)) → Gives ds l es m
        → down_at q i k (tail ds) (tail l) ≡ down_at q i k (tail es) (tail m) → down_at q i k ds l ≡ down_at q i k es m
    down_step ds l es m h r = rw (down_first k ds l, down_first k es m, h 0, r)

    pub down_same : (ds : List Numbers) (l : List (List ℕ)) (es : List Numbers) (m : List (List ℕ)) → Gives ds l es m → down_at q i k ds l ≡ down_at q i k es m
    down_same [] l [] m h = refl
    down_same [] l (e ∷ es) m h = down_step [] l (e ∷ es) m h (down_same [] (tail l) es (tail m) (gives_later [] l (e ∷ es) m h))
    down_same (d ∷ ds) l [] m h = down_step (d ∷ ds) l [] m h (down_same ds (tail l) [] (tail m) (gives_later (d ∷ ds) l [] m h))
    down_same (d ∷ ds) l (e ∷ es) m h = down_step (d ∷ ds) l (e ∷ es) m h (down_same ds (tail l) es (tail m) (gives_later (d ∷ ds) l (e ∷ es) m h))

  pub up_same : (us ts : List Numbers) → ((j : ℕ) → get_or us j none ≡ get_or ts j none) → (v : ℕ) (bs : List ℕ) → up_node q i us v bs ≡ up_node q i ts v bs
  up_same us ts h v [] = refl
  up_same us ts h v (zero ∷ bs) = up_same us ts h (suc v) bs
  up_same us ts h v (suc k ∷ bs) = rw (h k, up_same us ts h (suc v) bs)

-- the down numbers of the next layer, from layer i with numbers ds and nodes l
abbrev pub next_downs : Campaign → ℕ → List Numbers → List (List ℕ) → Arcs → List Numbers
next_downs q i ds l ls = map (λ k. down_at q i k ds l) (from 0 (node_count ls))

pub ups_long : (q : Campaign) (i : ℕ) (a : Arcs) → length (first_ups q i a) ≡ node_count a
ups_long q i [] = refl
ups_long q i (l ∷ ls) = length-map l (up_node q i (first_ups q (suc i) ls) 0)

-- ---- cells
pub cells_none : (n : ℕ) (d : Numbers) → node_cells n d none ≡ replicate n (pos 0)
cells_none n none = refl
cells_none n (some d) = refl

pub cells_at : (n : ℕ) (ds us : List Numbers) (j : ℕ) → get_or (layer_cells n ds us) j (replicate n (pos 0)) ≡ node_cells n (get_or ds j none) (get_or us j none)
cells_at n [] us j = refl
cells_at n (d ∷ ds) [] j = sym (cells_none n (get_or (d ∷ ds) j none))
cells_at n (d ∷ ds) (u ∷ us) zero = refl
cells_at n (d ∷ ds) (u ∷ us) (suc j) = cells_at n ds us j

-- a layer's cells, filled up: those of its places
pub cells_same : (n w : ℕ) (ds us es ts : List Numbers) → ((j : ℕ) → node_cells n (get_or ds j none) (get_or us j none) ≡ node_cells n (get_or es j none) (get_or ts j none))
    → padded w (replicate n (pos 0)) (layer_cells n ds us) ≡ padded w (replicate n (pos 0)) (layer_cells n es ts)
cells_same n w ds us es ts h =
    padded_same w (replicate n (pos 0)) (layer_cells n ds us) (layer_cells n es ts) (λ j. cells_at n ds us j ∙ h j ∙ sym (cells_at n es ts j))
