-- What does a turn of the recursion leave to be laid on the page?
use mathlib.Core.Path.{◌≡◌, refl, sym, ap, ◌∙◌}
use mathlib.Core.List.{List, [], ◌∷◌, ◌++◌, map, map-append, append-nil, append_assoc}
use mathlib.Core.Bool.{Bool, true, false, ◌&&◌, cond}
use Prim.Native.Nat.{ℕ, zero, suc, ◌+◌, ◌*◌, ◌-◌, ◌≤◌, ◌<◌}
use native.Mathlib.Numerals.{add-one}
use native.Mathlib.Omega.{arith}
use lib.Dec.{eqb}
use lib.ListN.{length, get_or, set, take, drop, length-drop}
use lib.Seq.{length-take-le, take-take, take-suc-set, drop-set-lt, get_or-take, drop-drop}
use lib.IntN.{ℤ, pos, ◌-ℤ◌, ◌*ℤ◌}
use Rattle.meaning.specs.Plan.{Campaign, slots}
use Rattle.meaning.specs.Diagram.{Arcs}
use Rattle.walk.specs.Beginnings.{rests, lay_all, Walkable, Steers, Stands, Finds, first_of, is_open}
use Rattle.step.specs.Steps.{Laid, laying, may_keep, with_shares}
use Rattle.walk.proofs.Laying.{lay_append, lay_full}
use Rattle.walk.proofs.Rests.{step_rests, from_step, rests_end, rests_node, from_next, from_end}
use Rattle.walk.proofs.Guided.{length-a, long, shut, cut, goes, stands}

-- ---- lists
first_taken : (own : Bool) (k : ℕ) (s : List ℕ) → 0 < k → first_of own (take k s) ≡ first_of own s
first_taken true k s h = get_or-take k s 0 0 h
first_taken false k s h = refl

drop_one_take : (k : ℕ) (s : List ℕ) → drop 1 (take (suc k) s) ≡ take k (drop 1 s)
drop_one_take zero [] = refl
drop_one_take (suc k) [] = refl
drop_one_take k (x ∷ s) = refl

led_map : (pre : List ℕ) (v : ℕ) (ps : List (List ℕ)) → map (λ p. pre ++ p) (map (λ p. v ∷ p) ps) ≡ map (λ p. (pre ++ (v ∷ [])) ++ p) ps
led_map pre v [] = refl
led_map pre v (p ∷ ps) = rw (led_map pre v ps, append_assoc pre (v ∷ []) p) refl

-- what has the same first steps has the same first ones of them
pub still : (i : ℕ) (x y : List ℕ) → take (suc i) x ≡ take (suc i) y → take i x ≡ take i y
still i x y e = sym (take-take i (suc i) x (omega arith)) ∙ ap (take i) e ∙ take-take i (suc i) y (omega arith)

-- the start's rest counts only where the steps are its own
free_rests : (q : Campaign) (a : Arcs) (i j : ℕ) (ts : List ℤ) (c : ℤ) (own : Bool) (s u : List ℕ) → (own ≡ true → s ≡ u) → rests q a i j ts c own s ≡ rests q a i j ts c own u
free_rests q a i j ts c true s u h = rw (h refl) refl
free_rests q a i j ts c false s u h = refl

module _ (n m w : ℕ) (sets : List ℕ) (weights lb ub coefs : List ℤ) (values arcs : List ℕ) (cells : List ℤ) (own : Bool) (i j : ℕ) (totals : List ℤ) (budget : ℤ) (plan : List ℕ) (cap : ℕ) (page : List ℕ) (seen : ℕ) where
  abbrev own_rest : List ℕ
  own_rest = take (n - i) (drop i plan)

  abbrev begins : List ℕ → List ℕ
  begins p = take i plan ++ p

  abbrev Said : List ℕ → ℕ → Type 0
  Said later r = Finds n m w sets weights lb ub coefs values arcs cells own i j totals budget plan cap page seen later r

  -- ---- at the sink
  at_sink : Walkable n m w weights coefs arcs cells → i ≡ n → (q : Campaign) (a : Arcs) → Steers q a n m w sets weights lb ub coefs values arcs cells → Stands q a i j (take m totals) budget
      → rests q a i j (take m totals) budget own own_rest ≡ cond own [] ([] ∷ [])
  at_sink g e q a s b =
      let none : n - i ≡ 0 = omega arith in
      let is : i ≡ slots q = e ∙ sym s.slots_are in
      rw none (rests_end q a i j (take m totals) budget own is (length-a q a n m w sets weights lb ub coefs values arcs cells g s) (b.ends is))

  pub sink_leaf : Walkable n m w weights coefs arcs cells → i ≡ n → (later : List ℕ) (r : ℕ)
      → record { page = later; seen = r } ≡ cond own (record { page = page; seen = seen }) (laying n cap (record { page = page; seen = seen }) (take n plan)) → Said later r
  sink_leaf g e later r h q a s b = h ∙ go own (at_sink g e q a s b)
    where
      go : (o : Bool) {l : List (List ℕ)} → l ≡ cond o [] ([] ∷ [])
          → cond o (record { page = page; seen = seen }) (laying n cap (record { page = page; seen = seen }) (take n plan)) ≡ lay_all n cap (record { page = page; seen = seen }) (map begins l)
      go true f = rw f refl
      go false f = rw (f, append-nil (take i plan), e) refl

  -- ---- at a node: what is left from step v on gives the whole
  abbrev pub Going : List ℕ → ℕ → ℕ → Type 0
  Going later t v =
      (q : Campaign) (a : Arcs) → Steers q a n m w sets weights lb ub coefs values arcs cells → Stands q a i j (take m totals) budget
      → lay_all n cap (record { page = later; seen = t }) (map begins (from_step q a i j (take m totals) budget own own_rest v (8 - v)))
      ≡ lay_all n cap (record { page = page; seen = seen }) (map begins (rests q a i j (take m totals) budget own own_rest))

  pub going_begins : Walkable n m w weights coefs arcs cells → i < n → length totals ≡ 8 → length plan ≡ 24 → (first : ℕ) → first ≡ first_of own (drop i plan) → Going page seen first
  going_begins g h t8 p24 first e q a s b =
      let few = g.slots_few in
      let some : 0 < length own_rest = rw (length-take-le (n - i) (drop i plan) (rw (length-drop i plan, p24) (omega arith))) (omega arith) in
      let at : first ≡ first_of own own_rest = e ∙ sym (first_taken own (n - i) (drop i plan) (omega arith)) in
      let all = rests_node q a i j (take m totals) budget own own_rest s.eight (rw s.slots_are h) (length-a q a n m w sets weights lb ub coefs values arcs cells g s) (long q a n m w sets weights lb ub coefs values arcs cells g s totals t8) some in
      rw (at, all) refl

  pub going_ends : (later : List ℕ) (t v : ℕ) → 8 ≤ v → Going later t v → Said later t
  going_ends later t v h f q a s b = rw (from_end q a i j (take m totals) budget own own_rest v h) at (f q a s b)

  pub going_full : (later : List ℕ) (t v : ℕ) → cap < t → Going later t v → Said later t
  going_full later t v h f q a s b =
      rw (lay_full n cap (record { page = later; seen = t }) (map begins (from_step q a i j (take m totals) budget own own_rest v (8 - v))) h) at (f q a s b)

  module _ (g : Walkable n m w weights coefs arcs cells) (hi : i < n) (hj : j < w) (t8 : length totals ≡ 8) (v : ℕ) (hv : v < 8) where
    abbrev byte : ℕ
    byte = get_or arcs ((i * w + j) * 8 + v) 0

    abbrev pub rest : ℤ
    rest = budget -ℤ get_or weights i (pos 0) *ℤ pos v

    abbrev pub opens : Bool
    opens = is_open m (get_or sets i 0) v byte ((i + 1) * w) cells rest

    abbrev here : List ℤ
    here = with_shares coefs values i v totals

    abbrev pub keeps : Bool
    keeps = may_keep m lb ub cells (((i + 1) * w + byte - 1) * (4 * m + 3)) here

    next_list : (q : Campaign) (a : Arcs) → map begins (from_step q a i j (take m totals) budget own own_rest v (8 - v)) ≡ map begins (step_rests q a i j (take m totals) budget own own_rest v) ++ map begins (from_step q a i j (take m totals) budget own own_rest (v + 1) (8 - (v + 1)))
    next_list q a =
        rw (add-one v)
        (ap (map begins) (from_next q a i j (take m totals) budget own own_rest v hv) ∙ map-append begins (step_rests q a i j (take m totals) budget own own_rest v) (from_step q a i j (take m totals) budget own own_rest (suc v) (8 - suc v)))

    none_next : (later : List ℕ) (t : ℕ) → Going later t v → (q : Campaign) (a : Arcs) → (s : Steers q a n m w sets weights lb ub coefs values arcs cells) (b : Stands q a i j (take m totals) budget) → step_rests q a i j (take m totals) budget own own_rest v ≡ []
        → lay_all n cap (record { page = later; seen = t }) (map begins (from_step q a i j (take m totals) budget own own_rest (v + 1) (8 - (v + 1))))
        ≡ lay_all n cap (record { page = page; seen = seen }) (map begins (rests q a i j (take m totals) budget own own_rest))
    none_next later t f q a s b e = rw (next_list q a, e) at (f q a s b)

    pub going_past : (later : List ℕ) (t : ℕ) → opens ≡ false → Going later t v → Going later t (v + 1)
    going_past later t o f q a s b =
        none_next later t f q a s b (shut q a n m w sets weights lb ub coefs values arcs cells g s i j v totals budget t8 hi hj hv own own_rest b o)

    pub going_back : (later : List ℕ) (t : ℕ) → opens ≡ true → keeps ≡ false → Going later t v → Going later t (v + 1)
    going_back later t o k f q a s b =
        none_next later t f q a s b (cut q a n m w sets weights lb ub coefs values arcs cells g s i j v totals budget t8 hi hj hv own own_rest b o k)

    -- along the arc: what the recursion found
    pub going_on : (first : ℕ) → first ≡ first_of own (drop i plan) → (written : List ℕ) → length written ≡ 24 → take i written ≡ take i plan → (own && eqb v first ≡ true → written ≡ plan) → (later : List ℕ) (t : ℕ) (later₁ : List ℕ) (t₁ : ℕ) → opens ≡ true → keeps ≡ true
        → Finds n m w sets weights lb ub coefs values arcs cells (own && eqb v first) (suc i) (byte - 1) here rest (set written i v) cap later t later₁ t₁ → Going later t v → Going later₁ t₁ (v + 1)
    going_on first fi written long24 same whole later t later₁ t₁ o k found f q a s b =
        let few = g.slots_few in
        let at : Laid = record { page = later; seen = t } in
        let ts = take m here in
        let mine = own && eqb v first in
        let pre = take i plan in
        let tail = map begins (from_step q a i j (take m totals) budget own own_rest (v + 1) (8 - (v + 1))) in
        let firsts : first_of own own_rest ≡ first = first_taken own (n - i) (drop i plan) (omega arith) ∙ sym fi in
        let b₁ = stands q a n m w sets weights lb ub coefs values arcs cells g s i j v totals budget t8 hi hj hv b o k in
        let begun : take (suc i) (set written i v) ≡ pre ++ (v ∷ []) = take-suc-set written i v (omega arith) ∙ ap (λ (l : List ℕ). l ++ (v ∷ [])) same in
        let suffix : mine ≡ true → take (n - suc i) (drop (suc i) (set written i v)) ≡ drop 1 own_rest = λ e. go (whole e) in
        let rests₁ = free_rests q a (suc i) (byte - 1) ts rest mine (take (n - suc i) (drop (suc i) (set written i v))) (drop 1 own_rest) suffix in
        let stepped : step_rests q a i j (take m totals) budget own own_rest v ≡ map (λ p. v ∷ p) (rests q a (suc i) (byte - 1) ts rest mine (drop 1 own_rest)) = rw firsts at (goes q a n m w sets weights lb ub coefs values arcs cells g s i j v totals budget t8 hi hj hv own own_rest o) in
        let done : record { page = later₁; seen = t₁ } ≡ lay_all n cap at (map begins (step_rests q a i j (take m totals) budget own own_rest v)) =
        (rw (begun, rests₁) at (found q a s b₁)) ∙ sym (ap (lay_all n cap at) (ap (map begins) stepped ∙ led_map pre v (rests q a (suc i) (byte - 1) ts rest mine (drop 1 own_rest)))) in
        ap (λ (x : Laid). lay_all n cap x tail) done ∙ sym (lay_append n cap at (map begins (step_rests q a i j (take m totals) budget own own_rest v)) tail) ∙ sym (ap (lay_all n cap at) (next_list q a)) ∙ f q a s b
      where
        go : written ≡ plan → take (n - suc i) (drop (suc i) (set written i v)) ≡ drop 1 own_rest
        go e =
            let count : n - i ≡ suc (n - suc i) = omega arith in
            rw (drop-set-lt (suc i) written i v (omega arith), e, count, drop_one_take (n - suc i) (drop i plan), drop-drop 1 i plan, add-one i) refl
