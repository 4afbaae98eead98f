-- What does one turn of the table's loop make of a problem without fault and its tables?
use mathlib.Core.Path.{◌≡◌, sym, ap, subst, ◌∙◌}
use mathlib.Core.List.{List, ◌∷◌}
use Prim.Native.Nat.{ℕ, suc, ◌+◌, ◌-◌, ◌*◌, ◌≤◌, ◌<◌}
use native.Mathlib.Omega.{arith}
use native.Mathlib.Numerals.{add-one}
use lib.ListN.{length, get_or, take, drop, replicate, length-take, length-drop}
use lib.Seq.{paste, drop-cons, get_or-take}
use lib.IntN.{ℤ, pos}
use Rattle.laws.specs.Z.{Within}
use Rattle.laws.proofs.Each.{Each}
use Rattle.meaning.specs.Plan.{slots, steps_of}
use Rattle.meaning.specs.Problem.{version1}
use Rattle.problem.specs.declared.Problem.{Problem}
use Rattle.problem.specs.Held.{campaign_of}
use Rattle.problem.proofs.Faultless.{Right}
use Rattle.lent.specs.Lanes.{lanes_at, sums}
use Rattle.slot.specs.Tables.{Tabled}
use Rattle.slot.proofs.Laid.{part_long, part_at}
use Rattle.slot.proofs.Said.{tabled_shares, said_small, said_coefs, coefs_row}
use Rattle.reach.specs.Spans.{step_lanes, least_over, Reached}
use Rattle.reach.proofs.Table.{pair_vec, step_of, reach_vec, Behind, behind_start, behind_more, behind_all, step_lanes_lem, reach_step, span_small, reach_small}

module _ (p : Problem) (right : Right version1 p) {coefs : List ℤ} {values : List ℕ} (t : Tabled p coefs values) where
  sets_long : length p.sets ≡ 24
  sets_long = ap length (sym t.sets_are) ∙ part_long 24 192 values (omega (arith, t.wide))

  -- n slots
  pub slots_are : slots (campaign_of p) ≡ p.slots
  slots_are = length-take p.slots p.sets ∙ omega (arith, right.head.most, sets_long)

  -- zeros laid at layer n: the table has what is behind the last slot
  pub behind_first : (table : List ℤ) {table' : List ℤ} → length table ≡ 425 → table' ≡ paste table (p.slots * 17) (replicate 17 (pos 0)) 17 → Behind (campaign_of p) p.slots table'
  behind_first table {table'} l e =
      subst (λ k. Behind (campaign_of p) k table') slots_are (behind_start (campaign_of p) (said_small p right) table table' l (e ∙ ap (λ k. paste table (k * 17) (replicate 17 (pos 0)) 17) (sym slots_are)))

  module _ (i : ℕ) (h : i < p.slots) where
    -- a slot's set as the code reads it
    abbrev pub set : ℕ
    set = get_or values (192 + i) 0

    pub set_is : get_or (take p.slots p.sets) i 0 ≡ set
    set_is = get_or-take p.slots p.sets i 0 h ∙ ap (λ l. get_or l i 0) (sym t.sets_are) ∙ part_at 24 192 values 0 i (omega (arith, right.head.most))

    -- the slot's own set, and those behind it
    own : drop i (campaign_of p).sets ≡ set ∷ drop (suc i) (campaign_of p).sets
    own = drop-cons (take p.slots p.sets) i 0 (omega (arith, slots_are)) ∙ ap (λ s. s ∷ drop (suc i) (take p.slots p.sets)) set_is

    -- the lanes of its steps, by its parts
    abbrev pub lanes : ℕ → List ℤ
    lanes = step_lanes (take 8 (drop (i * 8) coefs)) (take 8 (drop (i * 8) values))

    lanes_are : (v : ℕ) → lanes v ≡ pair_vec (step_of (campaign_of p) i v)
    lanes_are v = step_lanes_lem (campaign_of p) i v (take 8 (drop (i * 8) coefs)) (take 8 (drop (i * 8) values)) (tabled_shares p right t i h v)

    -- its coefficients are in range
    coefs_small : Each (Within 1000) (take 8 (drop (i * 8) coefs))
    coefs_small = rw (coefs_row p right t i h) (said_coefs p right i h)

  -- ---- the turn of the last of the slots that are left
  module _ {left : ℕ} (some : 0 < left) (most : left ≤ p.slots) where
    abbrev i : ℕ
    i = left - 1

    pub low : i < p.slots
    low = omega arith

    next : left ≡ i + 1
    next = omega arith

    -- what the spans ask for
    pub here_coefs : Each (Within 1000) (take 8 (drop (i * 8) coefs))
    here_coefs = coefs_small i low

    -- small enough to be summed
    pub here_small : Each (Within 10000000) (least_over (lanes i low) (steps_of 8 (set i low)))
    here_small = span_small (campaign_of p) (said_small p right) i (lanes i low) (lanes_are i low) (set i low)

    module _ {table : List ℤ} (behind : Behind (campaign_of p) left table) where
      at_next : Behind (campaign_of p) (i + 1) table
      at_next = subst (λ k. Behind (campaign_of p) k table) next behind

      -- the layer behind has its reach
      rest_is : lanes_at table ((i + 1) * 17) ≡ reach_vec (campaign_of p) (i + 1) (drop (i + 1) (campaign_of p).sets)
      rest_is = at_next.is (i + 1) (omega arith) (omega (arith, slots_are))

      -- small enough to be summed
      pub rest_small : Each (Within 10000000) (lanes_at table ((i + 1) * 17))
      rest_small =
          let ss = drop (i + 1) (campaign_of p).sets in
          rw rest_is (reach_small (campaign_of p) (said_small p right) (i + 1) ss (omega (arith, length-drop (i + 1) (campaign_of p).sets, slots_are, right.head.most)))

      -- the slot's layer gets the sum
      pub behind_next : {table' both : List ℤ} → both ≡ sums (least_over (lanes i low) (steps_of 8 (set i low))) (lanes_at table ((i + 1) * 17)) → table' ≡ paste table (i * 17) both 17 → Behind (campaign_of p) i table'
      behind_next {table'} {both} e k =
          let q = campaign_of p in
          let small = said_small p right in
          let behind_is = rest_is ∙ ap (λ n. reach_vec q n (drop n q.sets)) (add-one i) in
          let is : both ≡ reach_vec q i (drop i q.sets) = e ∙ ap (sums (least_over (lanes i low) (steps_of 8 (set i low)))) behind_is ∙ reach_step q small i (lanes i low) (lanes_are i low) (set i low) (drop (suc i) q.sets) ∙ ap (reach_vec q i) (sym (own i low)) in
          behind_more q small i table table' both at_next (omega (arith, slots_are)) is k

  -- no slot is left
  pub behind_end : {left : ℕ} {table : List ℤ} → Behind (campaign_of p) left table → left ≤ 0 → Reached (campaign_of p) table
  behind_end {left} {table} behind h = let none : left ≡ 0 = omega arith in behind_all (campaign_of p) (said_small p right) table (subst (λ k. Behind (campaign_of p) k table) none behind)
