-- What do a round and the closing sweep leave in the buffers, and what stands there when a round drops nothing?
use mathlib.Core.Path.{◌≡◌, refl, sym, ◌∙◌, ap}
use mathlib.Core.List.{List}
use Prim.Native.Nat.{ℕ, zero, suc, ◌+◌, ◌*◌, ◌-◌, ◌≤◌, ◌<◌}
use native.Mathlib.Omega.{arith}
use native.Mathlib.Numerals.{add-one}
use lib.ListN.{length, take}
use lib.IntN.{ℤ, pos}
use Rattle.laws.specs.Lists.{padded}
use Rattle.laws.proofs.Filled.{padded_full}
use Rattle.meaning.specs.Plan.{Campaign, slots}
use Rattle.meaning.specs.Diagram.{relaxed, Arcs, built}
use Rattle.meaning.specs.Filter.{down_numbers, up_numbers, Test, on_path, within, drops, rounds, swept, relaxed_arcs}
use Rattle.meaning.specs.Buffers.{arcs_in, node_need, all_cells, cells_need, number_cells}
use Rattle.meaning.proofs.Drops.{finished}
use Rattle.problem.specs.declared.Problem.{Problem}
use Rattle.problem.specs.Held.{campaign_of}
use Rattle.lent.specs.Wide.{wide, laid}
use Rattle.lent.proofs.Wide.{wide_drops, wide_cells}
use Rattle.lent.proofs.Swept.{swept_cells, same_sweep, laid_same}
use Rattle.lent.proofs.Shape.{Shaped, built_shaped, drops_shaped, rounds_shaped}
use Rattle.numbers.specs.Whole.{Ready, Formed, half_cells, Standing}
use Rattle.numbers.proofs.Passes.{setting, need_is, half_count}
use Rattle.numbers.proofs.Held.{held_arcs}

-- ---- bytes that hold the arcs of a diagram
module _ (q : Campaign) (w : ℕ) (a : Arcs) (h : Shaped q w a) (b : List ℕ) (is : b ≡ laid q.steps w a) where
  -- cells that hold the down numbers of the wide arcs hold those of the bytes
  pub held_half : {x : List ℤ} → x ≡ half_cells q w (down_numbers q (wide q.steps w a)) → x ≡ half_cells q w (down_numbers q (arcs_in q w b))
  held_half e = e ∙ ap (λ (m : Arcs). half_cells q w (down_numbers q m)) (sym (held_arcs q w a h b is))

  -- a test leaves the bytes of what it leaves of the arcs
  pub held_drops : (e : Test) {c : List ℕ} → c ≡ laid q.steps w (drops e q (arcs_in q w b)) → c ≡ laid q.steps w (drops e q a)
  held_drops e f = f ∙ ap (λ (m : Arcs). laid q.steps w (drops e q m)) (held_arcs q w a h b is) ∙ wide_drops e q q.steps w a h.sized

  -- cells of the need's length hold the numbers
  module _ (x : List ℤ) (f : x ≡ all_cells (node_need q) w (down_numbers q (arcs_in q w b)) (up_numbers q (arcs_in q w b))) (z : ℕ) (long : length x ≡ z) where
    held_cells : x ≡ number_cells q w z a
    held_cells =
        sym (padded_full z (pos 0) x long) ∙ ap (padded z (pos 0)) f
        ∙ ap (number_cells q w z) (held_arcs q w a h b is) ∙ wide_cells q q.steps w z a h.sized

    -- which the sweep does not change
    pub held_swept : x ≡ number_cells q w z (swept q a)
    held_swept = held_cells ∙ sym (swept_cells q w z a h.one)

-- cells that hold the down numbers are of the need's length
pub half_need : {p : Problem} {w : ℕ} {b : List ℕ} {x : List ℤ} → Ready p w → length p.sets ≡ 24 → Formed (campaign_of p) w b
    → x ≡ half_cells (campaign_of p) w (down_numbers (campaign_of p) (arcs_in (campaign_of p) w b)) → length x ≡ cells_need (campaign_of p) w
half_need r e f h = half_count (setting r f e) h ∙ sym (need_is r e)

-- and those of the first layers stand there
pub standing_whole : {q : Campaign} {w k : ℕ} {b : List ℕ} {x : List ℤ} → k ≤ slots q → x ≡ half_cells q w (down_numbers q (arcs_in q w b)) → Standing q w k b x
standing_whole {q} {w} {k} h e = record { most = h; are = λ l. ap (take (suc k * (w * node_need q))) e }

-- ---- the rounds
round_behind : (c : ℤ) (q : Campaign) (k : ℕ) (a : Arcs) → rounds c q (suc k) a ≡ drops (within c) q (rounds c q k a)
round_behind c q zero a = refl
round_behind c q (suc k) a = round_behind c q k (drops (within c) q a)

module _ (c : ℤ) (q : Campaign) (w : ℕ) (some : 1 ≤ w) (k : ℕ) where
  -- the arcs behind k rounds
  abbrev behind : Arcs
  behind = rounds c q k (built relaxed q w)

  pub behind_shaped : Shaped q w behind
  behind_shaped = rounds_shaped c q w k (built relaxed q w) (built_shaped relaxed q w (omega arith))

  pub relaxed_shaped : Shaped q w (relaxed_arcs q w k c)
  relaxed_shaped = drops_shaped on_path q w behind behind_shaped

  module _ (b b' : List ℕ) (is : b ≡ laid q.steps w behind) (left : b' ≡ laid q.steps w (drops (within c) q (arcs_in q w b))) where
    -- one round more
    pub round_next : b' ≡ laid q.steps w (rounds c q (k + 1) (built relaxed q w))
    round_next = rw (add-one k, round_behind c q k (built relaxed q w)) (held_drops q w behind behind_shaped b is (within c) left)

    -- one that dropped nothing: the fixed point
    module _ (n : ℕ) (more : k < n) (none : b' ≡ b) where
      fixed_point : drops (within c) q behind ≡ behind
      fixed_point =
          laid_same (within c) q q.steps w behind behind_shaped.one behind_shaped.sized
          (sym (held_drops q w behind behind_shaped b is (within c) left) ∙ none ∙ is)

      all_rounds : relaxed_arcs q w n c ≡ behind
      all_rounds =
          let m = n - k in
          let o : n ≡ k + m = omega arith in
          rw o (ap (swept q) (finished c q k m (built relaxed q w) fixed_point)) ∙ same_sweep c q behind behind_shaped.one fixed_point

      pub stops_bytes : b' ≡ laid q.steps w (relaxed_arcs q w n c)
      stops_bytes = held_drops q w behind behind_shaped b is (within c) left ∙ ap (laid q.steps w) (fixed_point ∙ sym all_rounds)

      pub stops_cells : (x : List ℤ) → x ≡ all_cells (node_need q) w (down_numbers q (arcs_in q w b)) (up_numbers q (arcs_in q w b)) → (z : ℕ) → length x ≡ z
          → x ≡ number_cells q w z (relaxed_arcs q w n c)
      stops_cells x f z long = held_cells q w behind behind_shaped b is x f z long ∙ ap (number_cells q w z) (sym all_rounds)
