-- What has a loop over the rules stored in a node's cells at each turn, and which down numbers stand in them already?
use mathlib.Core.Path.{◌≡◌, refl, sym, ap, ◌∙◌, subst}
use mathlib.Core.Bool.{Bool, true, false, ◌||◌, cond}
use mathlib.Core.List.{List, [], ◌∷◌, ◌++◌, map, append-nil}
use Prim.Native.Nat.{ℕ, suc, ◌+◌, ◌*◌, ◌≤◌, ◌<◌}
use native.Mathlib.Omega.{arith}
use lib.Dec.{T, leb}
use lib.ListN.{length, get_or, set, drop, replicate, length-map, drop_of_length-le, get_or-replicate, get_or-eq_default}
use lib.Seq.{set-get_or, get_or-drop, get_or-append-add}
use lib.IntN.{ℤ, pos, neg_ℤ, ◌-ℤ◌}
use mir.Syntax.{w32}
use mir.Val.{SFits, of_z}
use Rattle.laws.specs.Z.{zarith, dif, neg, eq_z, Within, widen, fits32, back, back_is}
use Rattle.laws.specs.Lists.{gather, from, padded}
use Rattle.laws.proofs.Lists.{length_from, cond_first, cond_second, from_more}
use Rattle.laws.proofs.Filled.{length_rows, gather_more}
use Rattle.lent.specs.Passes.{far, nowhere, node_lanes, down_lanes, HalfNode}
use Rattle.lent.proofs.Places.{made_at}
use Rattle.lent.proofs.Lanes.{length-block, block_low, block_high, block_cost, neg_neg}
use Rattle.lent.proofs.Whole.{node_long}
use Rattle.lanes.proofs.Laws.{turned_within, Halved, halved_more}
use Rattle.rows.proofs.Laid.{laid_on}
use Rattle.rows.proofs.Lanes.{bits_yes}

-- ---- a number with its sign turned, as the code has it
module _ {z : ℤ} {m : ℕ} (h : Within m z) (t : T (leb m 2147483647)) where
  minus : pos 0 -ℤ back z ≡ neg_ℤ z
  minus = rw (back_is h t) (omega (zarith, dif (pos 0) z, neg z))

  pub turn_fits : SFits w32 (pos 0 -ℤ back z)
  turn_fits = rw minus (fits32 (widen t (turned_within h)))

  pub turned : back (pos 0 -ℤ back z) ≡ neg_ℤ z
  turned = rw minus (back_is (turned_within h) t)

-- ---- the numbers of rules stored in cells: c is what they hold after r rules
abbrev pub rule_of : List ℤ → List ℤ → ℕ → List ℤ
rule_of d u r = get_or d r (pos 0) ∷ neg_ℤ (get_or d (8 + r) (pos 0)) ∷ get_or u r (pos 0) ∷ neg_ℤ (get_or u (8 + r) (pos 0)) ∷ []

pub record Stored (m : ℕ) (d u c₀ c : List ℤ) (r : ℕ) : Type 0 where
  pub long : length c₀ ≡ 4 * m + 3
  pub done : r ≤ m
  pub is : c ≡ (pos 1 ∷ gather (rule_of d u) (from 0 r)) ++ drop (4 * r + 1) c₀

rules_long : (d u : List ℤ) (r : ℕ) → length (gather (rule_of d u) (from 0 r)) ≡ r * 4
rules_long d u r = length_rows (rule_of d u) 4 (λ k. refl) (from 0 r) ∙ ap (λ n. n * 4) (length_from 0 r)

-- the first cell says that the node is there
pub stored_start : (m : ℕ) (d u c : List ℤ) → length c ≡ 4 * m + 3 → Stored m d u (set c 0 (pos 1)) (set c 0 (pos 1)) 0
stored_start m d u [] e = absurd (omega arith)
stored_start m d u (x ∷ c) e = record { long = e; done = omega arith; is = refl }

module _ {m r : ℕ} {d u c₀ c : List ℤ} (s : Stored m d u c₀ c r) where
  pub stored_more : {a b e f : ℤ} → r < m → a ≡ get_or d r (pos 0) → b ≡ neg_ℤ (get_or d (8 + r) (pos 0)) → e ≡ get_or u r (pos 0) → f ≡ neg_ℤ (get_or u (8 + r) (pos 0))
      → Stored m d u c₀ (set (set (set (set c (4 * r + 1) a) (4 * r + 2) b) (4 * r + 3) e) (4 * r + 4) f) (r + 1)
  stored_more h ea eb ee ef =
      let front : List ℤ = pos 1 ∷ gather (rule_of d u) (from 0 r) in
      let at : 4 * r + 1 + 4 ≡ 4 * (r + 1) + 1 = omega arith in
      let two : 4 * r + 2 ≡ suc (4 * r + 1) = omega arith in
      let three : 4 * r + 3 ≡ suc (suc (4 * r + 1)) = omega arith in
      let four : 4 * r + 4 ≡ suc (suc (suc (4 * r + 1))) = omega arith in
      let here : 0 + r ≡ r = omega arith in
      let longer : gather (rule_of d u) (from 0 r) ++ rule_of d u r ≡ gather (rule_of d u) (from 0 (r + 1)) = sym (ap (gather (rule_of d u)) (rw here at (from_more 0 r)) ∙ gather_more (rule_of d u) (from 0 r) r) in
      record {
        long = s.long;
        done = omega arith;
        is = rw (ea, eb, ee, ef, s.is, two, three, four) (
            laid_on front c₀ (rule_of d u r) (4 * r + 1) (omega (arith, rules_long d u r)) (omega (arith, s.long))
            ∙ rw at (ap (λ l. (pos 1 ∷ l) ++ drop (4 * (r + 1) + 1) c₀) longer)
            );
      }

  -- behind them stands what stood there
  stored_behind : (k : ℕ) → get_or c (4 * r + 1 + k) (pos 0) ≡ get_or c₀ (4 * r + 1 + k) (pos 0)
  stored_behind k =
      let front : List ℤ = pos 1 ∷ gather (rule_of d u) (from 0 r) in
      let at : length front ≡ 4 * r + 1 = omega (arith, rules_long d u r) in
      ap (λ l. get_or l (4 * r + 1 + k) (pos 0)) s.is ∙ ap (λ n. get_or (front ++ drop (4 * r + 1) c₀) (n + k) (pos 0)) (sym at) ∙ get_or-append-add front (drop (4 * r + 1) c₀) k (pos 0)
      ∙ get_or-drop (4 * r + 1) c₀ k (pos 0)

  here : get_or c (4 * r + 1) (pos 0) ≡ get_or c₀ (4 * r + 1) (pos 0)
  here =
      let o : 4 * r + 1 + 0 ≡ 4 * r + 1 = omega arith in
      rw o at (stored_behind 0)

  there : get_or c (4 * r + 2) (pos 0) ≡ get_or c₀ (4 * r + 2) (pos 0)
  there =
      let o : 4 * r + 1 + 1 ≡ 4 * r + 2 = omega arith in
      rw o at (stored_behind 1)

  -- two of the four stand there already
  pub stored_up : {e f : ℤ} → r < m → get_or c₀ (4 * r + 1) (pos 0) ≡ get_or d r (pos 0) → get_or c₀ (4 * r + 2) (pos 0) ≡ neg_ℤ (get_or d (8 + r) (pos 0)) → e ≡ get_or u r (pos 0) → f ≡ neg_ℤ (get_or u (8 + r) (pos 0))
      → Stored m d u c₀ (set (set c (4 * r + 3) e) (4 * r + 4) f) (r + 1)
  stored_up {e} {f} h low high ee ef =
      let a = get_or c (4 * r + 1) (pos 0) in
      let b = get_or c (4 * r + 2) (pos 0) in
      let same : set (set c (4 * r + 1) a) (4 * r + 2) b ≡ c = ap (λ l. set l (4 * r + 2) b) (set-get_or c (4 * r + 1) (pos 0)) ∙ set-get_or c (4 * r + 2) (pos 0) in
      subst (λ l. Stored m d u c₀ (set (set l (4 * r + 3) e) (4 * r + 4) f) (r + 1)) same (stored_more h (here ∙ low) (there ∙ high) ee ef)

  pub stored_end : {a b : ℤ} → m ≤ r → far d ≡ false → far u ≡ false → a ≡ get_or d 16 (pos 0) → b ≡ get_or u 16 (pos 0) → set (set c (4 * m + 1) a) (4 * m + 2) b ≡ node_lanes m d u
  stored_end {a} {b} h fd fu ea eb =
      let o : r ≡ m = omega (arith, s.done) in
      let two : 4 * m + 2 ≡ suc (4 * m + 1) = omega arith in
      let front : List ℤ = pos 1 ∷ gather (rule_of d u) (from 0 m) in
      let costs : List ℤ = get_or d 16 (pos 0) ∷ get_or u 16 (pos 0) ∷ [] in
      let none : drop (4 * m + 1 + 2) c₀ ≡ [] = drop_of_length-le c₀ {i = 4 * m + 1 + 2} (omega (arith, s.long)) in
      rw (ea, eb, s.is, o, two, fd, fu) (
      laid_on front c₀ costs (4 * m + 1) (omega (arith, rules_long d u m)) (omega (arith, s.long)) ∙ rw none (append-nil (front ++ costs))
      )

  pub stored_last : {b : ℤ} → m ≤ r → far d ≡ false → far u ≡ false → get_or c₀ (4 * m + 1) (pos 0) ≡ get_or d 16 (pos 0) → b ≡ get_or u 16 (pos 0) → set c (4 * m + 2) b ≡ node_lanes m d u
  stored_last {b} h fd fu ea eb =
      let o : r ≡ m = omega (arith, s.done) in
      let a = get_or c (4 * m + 1) (pos 0) in
      let known : a ≡ get_or c₀ (4 * m + 1) (pos 0) = rw o at here in
      ap (λ l. set l (4 * m + 2) b) (sym (set-get_or c (4 * m + 1) (pos 0))) ∙ stored_end h fd fu (known ∙ ea) eb

-- none stored, for want of the down or of the up numbers
module _ (m n : ℕ) (d u : List ℤ) {c : List ℤ} (long : n ≡ 4 * m + 3) (zeros : c ≡ replicate n (pos 0)) where
  pub no_down : far d ≡ true → c ≡ node_lanes m d u
  no_down f = zeros ∙ rw (long, f) refl

  pub no_up : far u ≡ true → c ≡ node_lanes m d u
  no_up f = zeros ∙ rw (long, f, either (far d)) refl
    where
      either : (t : Bool) → (t || true) ≡ true
      either true = refl
      either false = refl

-- ---- the down numbers that stand in cells
abbrev pub low : List ℤ → ℕ → ℤ
low c k = get_or c (4 * k + 1) (pos 0)

abbrev pub high : List ℤ → ℕ → ℤ
high c k = neg_ℤ (get_or c (4 * k + 2) (pos 0))

abbrev pub lows : List ℤ → ℕ → List ℤ
lows c r = padded 8 (pos 0) (map (low c) (from 0 r))

abbrev pub highs : List ℤ → ℕ → List ℤ
highs c r = padded 8 (pos 0) (map (high c) (from 0 r))

pub down_long : (m : ℕ) (c : List ℤ) → length (down_lanes m c) ≡ 17
down_long m c = go (eq_z (get_or c 0 (pos 0)) (pos 0))
  where
    go : (t : Bool) → length (cond t nowhere (lows c m ++ highs c m ++ (get_or c (4 * m + 1) (pos 0) ∷ []))) ≡ 17
    go true = refl
    go false = length-block (pos 0) (map (low c) (from 0 m)) (map (high c) (from 0 m)) (get_or c (4 * m + 1) (pos 0))

-- a node that is there
module _ (m : ℕ) (c : List ℤ) (there : eq_z (get_or c 0 (pos 0)) (pos 0) ≡ false) where
  pub down_is : down_lanes m c ≡ lows c m ++ highs c m ++ (get_or c (4 * m + 1) (pos 0) ∷ [])
  down_is = cond_second (eq_z (get_or c 0 (pos 0)) (pos 0)) nowhere (lows c m ++ highs c m ++ (get_or c (4 * m + 1) (pos 0) ∷ [])) there

  pub down_low : (r : ℕ) → m ≤ 8 → r < m → get_or c (4 * r + 1) (pos 0) ≡ get_or (down_lanes m c) r (pos 0)
  down_low r few h =
      sym (ap (λ l. get_or l r (pos 0)) down_is ∙ block_low (pos 0) (map (low c) (from 0 m)) (map (high c) (from 0 m)) (get_or c (4 * m + 1) (pos 0)) r (omega arith) ∙ made_at (low c) m r (pos 0) h)

  pub down_high : (r : ℕ) → m ≤ 8 → r < m → get_or c (4 * r + 2) (pos 0) ≡ neg_ℤ (get_or (down_lanes m c) (8 + r) (pos 0))
  down_high r few h =
      sym (ap (λ l. neg_ℤ (get_or l (8 + r) (pos 0))) down_is
      ∙ ap neg_ℤ (block_high (pos 0) (map (low c) (from 0 m)) (map (high c) (from 0 m)) (get_or c (4 * m + 1) (pos 0)) r (omega arith) ∙ made_at (high c) m r (pos 0) h)
      ∙ neg_neg (get_or c (4 * r + 2) (pos 0)))

  pub down_cost : get_or c (4 * m + 1) (pos 0) ≡ get_or (down_lanes m c) 16 (pos 0)
  down_cost = sym (ap (λ l. get_or l 16 (pos 0)) down_is ∙ block_cost (pos 0) (map (low c) (from 0 m)) (map (high c) (from 0 m)) (get_or c (4 * m + 1) (pos 0)) (pos 0))

  -- rules that a problem lacks stand at zero
  module _ (few : m ≤ 8) where
    behind : (f : ℕ → ℤ) (j : ℕ) → m ≤ j → get_or (map f (from 0 m)) j (pos 0) ≡ pos 0
    behind f j h = get_or-eq_default (map f (from 0 m)) (pos 0) {n = j} (omega (arith, length-map (from 0 m) f, length_from 0 m))

    down_rest : (j : ℕ) → m ≤ j → j < 8 → (get_or (down_lanes m c) j (pos 0) ≡ pos 0) × (get_or (down_lanes m c) (8 + j) (pos 0) ≡ pos 0)
    down_rest j h b = (
      ap (λ l. get_or l j (pos 0)) down_is ∙ block_low (pos 0) (map (low c) (from 0 m)) (map (high c) (from 0 m)) (get_or c (4 * m + 1) (pos 0)) j b ∙ behind (low c) j h,
      ap (λ l. get_or l (8 + j) (pos 0)) down_is ∙ block_high (pos 0) (map (low c) (from 0 m)) (map (high c) (from 0 m)) (get_or c (4 * m + 1) (pos 0)) j b ∙ behind (high c) j h,
    )

    -- a loop over the rules lays them over zeros
    pub down_start : Halved (down_lanes m c) (replicate 17 (pos 0)) m 0
    down_start = record {
      long = down_long m c;
      wide = refl;
      few = few;
      done = omega arith;
      first = λ j b. absurd (omega arith);
      rest = λ j h b. (get_or-replicate 17 j (pos 0) (pos 0) (omega arith) ∙ sym (down_rest j h b).0, get_or-replicate 17 (8 + j) (pos 0) (pos 0) (omega arith) ∙ sym (down_rest j h b).1);
    }

    pub down_more : {x : List ℤ} {r : ℕ} {a b : ℤ} → Halved (down_lanes m c) x m r → r < m → a ≡ get_or c (4 * r + 1) (pos 0) → b ≡ neg_ℤ (get_or c (4 * r + 2) (pos 0)) → Halved (down_lanes m c) (set (set x r a) (8 + r) b) m (r + 1)
    down_more {r = r} l h ea eb = halved_more l h (ea ∙ down_low r few h) (eb ∙ ap neg_ℤ (down_high r few h) ∙ neg_neg (get_or (down_lanes m c) (8 + r) (pos 0)))

-- ---- cells that hold down numbers only
-- the first is 0 or 1
half_first : (m : ℕ) (c : List ℤ) → HalfNode m c → Within 1 (get_or c 0 (pos 0))
half_first m c half = rw half (go (far (down_lanes m c)))
  where
    go : (t : Bool) → Within 1 (get_or (cond (t || false) (replicate (4 * m + 3) (pos 0)) (pos 1 ∷ gather (rule_of (down_lanes m c) (replicate 17 (pos 0))) (from 0 m) ++ (get_or (down_lanes m c) 16 (pos 0) ∷ pos 0 ∷ []))) 0 (pos 0))
    go true = rw (get_or-replicate (4 * m + 3) 0 (pos 0) (pos 0) (omega arith)) (record { size = omega arith })
    go false = record { size = omega arith }

pub half_cell : (m : ℕ) (c : List ℤ) → HalfNode m c → of_z w32 (get_or c 0 (pos 0)) ≡ 0 → eq_z (get_or c 0 (pos 0)) (pos 0) ≡ true
half_cell m c half e = bits_yes (get_or c 0 (pos 0)) 0 (half_first m c half) tt (omega arith) e

module _ (m : ℕ) (c : List ℤ) (half : HalfNode m c) where
  pub half_long : length c ≡ 4 * m + 3
  half_long = ap length half ∙ node_long m (down_lanes m c) (replicate 17 (pos 0))

  -- none
  pub half_none : (u : List ℤ) → eq_z (get_or c 0 (pos 0)) (pos 0) ≡ true → c ≡ node_lanes m (down_lanes m c) u
  half_none u e =
      let none : down_lanes m c ≡ nowhere = cond_first (eq_z (get_or c 0 (pos 0)) (pos 0)) nowhere (lows c m ++ highs c m ++ (get_or c (4 * m + 1) (pos 0) ∷ [])) e in
      half ∙ ap (λ l. node_lanes m l (replicate 17 (pos 0))) none ∙ sym (ap (λ l. node_lanes m l u) none)

  -- a node that is there has its numbers in reach
  module _ (there : eq_z (get_or c 0 (pos 0)) (pos 0) ≡ false) where
    pub half_near : far (down_lanes m c) ≡ false
    half_near = go (far (down_lanes m c)) refl
      where
        go : (t : Bool) → far (down_lanes m c) ≡ t → t ≡ false
        go true e =
            let zeros : c ≡ replicate (4 * m + 3) (pos 0) = sym (no_down m (4 * m + 3) (down_lanes m c) (replicate 17 (pos 0)) refl refl e ∙ sym half) in
            let first : get_or c 0 (pos 0) ≡ pos 0 = ap (λ l. get_or l 0 (pos 0)) zeros ∙ get_or-replicate (4 * m + 3) 0 (pos 0) (pos 0) (omega arith) in
            sym (ap (λ z. eq_z z (pos 0)) first) ∙ there
        go false e = refl

    pub half_start : (u : List ℤ) → Stored m (down_lanes m c) u c c 0
    half_start u =
        let d = down_lanes m c in
        let rest = gather (rule_of d (replicate 17 (pos 0))) (from 0 m) ++ (get_or d 16 (pos 0) ∷ pos 0 ∷ []) in
        let e : c ≡ pos 1 ∷ rest = half ∙ rw half_near refl in
        record { long = half_long; done = omega arith; is = e ∙ ap (λ l. pos 1 ∷ drop 1 l) (sym e) }
