-- Where do a child's node and step stand, how large are their totals, and which bucket has its state?
use mathlib.Core.Path.{◌≡◌, sym, ap, ◌∙◌}
use mathlib.Core.List.{List}
use Prim.Native.Nat.{ℕ, ◌+◌, ◌*◌, ◌/◌, ◌%◌, ◌≤◌, ◌<◌}
use native.Mathlib.Nat.{mod-lt}
use native.Mathlib.Decide.{dec_lt}
use native.Mathlib.Omega.{arith}
use lib.IntN.{ℤ, pos, ◌+ℤ◌}
use lib.ListN.{length, get_or, set, length-set}
use lib.Seq.{get_or-set_same, get_or-set_other}
use mir.Syntax.{w32}
use mir.Val.{SFits}
use mir.Facts.{to_z-of_z}
use Rattle.laws.specs.Z.{Within, widen, sum_within, fits32, back, back_is}
use Rattle.state.specs.Pairs.{Inside, pairs_at, shares_at, key_of, bucket_in, bucket_of}
use Rattle.state.proofs.Sizes.{inside_more}
use Rattle.state.proofs.Rows.{pairs_length, inside_row}
use Rattle.state.proofs.Steps.{shares_length}
use Rattle.state.proofs.Keys.{key_within, key_added}
use Rattle.classes.specs.Classes.{Held, Totalled, Keyed, state_at}

module _ {here row : List ℤ} (held : Held here row) where
  -- node j, and all steps
  pub node_room : (j : ℕ) → j < 16 → j * 17 + 16 ≤ length here
  node_room j h = omega (arith, held.nodes)

  pub steps_room : 64 ≤ length row
  steps_room = omega (arith, held.slot)

  -- within the size that `state::child` asks for
  pub node_fits : (j : ℕ) → Inside 10000000 (pairs_at here (j * 17))
  node_fits j = inside_more 4000000 10000000 (omega arith) (pairs_at here (j * 17)) (inside_row 4000000 here (j * 17) held.wide)

  pub step_fits : (v : ℕ) → v < 8 → Inside 10000000 (shares_at row v)
  step_fits v h = inside_more 10000 10000000 (omega arith) (shares_at row v) (held.shares v h)

-- the keys of the first nodes and steps
pub record KeysTo (here row : List ℤ) (nodes steps : ℕ) (keys : List ℤ) : Type 0 where
  pub long : length keys ≡ 24
  pub node : (j : ℕ) → j < nodes → get_or keys j (pos 0) ≡ key_of (pairs_at here (j * 17))
  pub step : (v : ℕ) → v < steps → get_or keys (16 + v) (pos 0) ≡ key_of (shares_at row v)

module _ {here row : List ℤ} {keys : List ℤ} where
  -- one node more
  pub keys_node : {j : ℕ} → j < 16 → KeysTo here row j 0 keys → (z : ℤ) → z ≡ key_of (pairs_at here (j * 17)) → KeysTo here row (j + 1) 0 (set keys j z)
  keys_node {j} b k z e = record {
    long = length-set keys j z ∙ k.long;
    node = λ i h. elim (dec_lt i j) [
      | yes l ↦ get_or-set_other keys j i z (pos 0) (λ q. absurd (omega arith)) ∙ k.node i l
      | no l ↦ let same : i ≡ j = omega arith in rw same (get_or-set_same keys j z (pos 0) (omega (arith, k.long)) ∙ e)
    ];
    step = λ v h. absurd (omega arith);
  }

  -- one step more
  pub keys_step : {nodes v : ℕ} → nodes ≤ 16 → v < 8 → KeysTo here row nodes v keys → (z : ℤ) → z ≡ key_of (shares_at row v) → KeysTo here row nodes (v + 1) (set keys (16 + v) z)
  keys_step {nodes} {v} f b k z e = record {
    long = length-set keys (16 + v) z ∙ k.long;
    node = λ j h. get_or-set_other keys (16 + v) j z (pos 0) (λ q. absurd (omega arith)) ∙ k.node j h;
    step = λ u h. elim (dec_lt u v) [
      | yes l ↦ get_or-set_other keys (16 + v) (16 + u) z (pos 0) (λ q. absurd (omega arith)) ∙ k.step u l
      | no l ↦ let same : u ≡ v = omega arith in rw same (get_or-set_same keys (16 + v) z (pos 0) (omega (arith, k.long)) ∙ e)
    ];
  }

  -- all of them
  pub keys_all : {nodes : ℕ} → Held here row → Totalled here nodes → KeysTo here row nodes 8 keys → Keyed here row nodes keys
  keys_all held small k = record {
    few = small.few;
    long = k.long;
    node = k.node;
    step = k.step;
    node_small = λ j h. rw (k.node j h) (widen tt (key_within 190000 (pairs_at here (j * 17)) (small.totals j h)));
    steps_small = λ v h. rw (k.step v h) (widen tt (key_within 10000 (shares_at row v) (held.shares v h)));
  }

-- ---- the bucket of child f
module _ {here row keys : List ℤ} {nodes : ℕ} (keyed : Keyed here row nodes keys) (f : ℕ) (below : f < nodes * 8) where
  pub child_below : f < 128
  child_below = omega (arith, keyed.few)

  node_below : f / 8 < nodes
  node_below = omega arith

  step_below : f % 8 < 8
  step_below = mod-lt f (omega arith)

  keys_small : Within 720000000 (get_or keys (f / 8) (pos 0)) × Within 40000000 (get_or keys (16 + f % 8) (pos 0))
  keys_small = (keyed.node_small (f / 8) node_below, keyed.steps_small (f % 8) step_below)

  keys_sum : Within 760000000 (get_or keys (f / 8) (pos 0) +ℤ get_or keys (16 + f % 8) (pos 0))
  keys_sum = sum_within keys_small.0 keys_small.1

  -- as code adds them up
  pub keys_fit : SFits w32 (back (get_or keys (f / 8) (pos 0)) +ℤ back (get_or keys (16 + f % 8) (pos 0)))
  keys_fit = rw (back_is keys_small.0 tt, back_is keys_small.1 tt) (fits32 (widen tt keys_sum))

  keys_back : back (back (get_or keys (f / 8) (pos 0)) +ℤ back (get_or keys (16 + f % 8) (pos 0))) ≡ get_or keys (f / 8) (pos 0) +ℤ get_or keys (16 + f % 8) (pos 0)
  keys_back = to_z-of_z keys_fit ∙ rw (back_is keys_small.0 tt, back_is keys_small.1 tt)

  -- within the size that `state::bucket` asks for
  pub keys_within : Within 1000000000 (back (back (get_or keys (f / 8) (pos 0)) +ℤ back (get_or keys (16 + f % 8) (pos 0))))
  keys_within = rw keys_back (widen tt keys_sum)

  -- the key of a sum is the sum of the keys
  pub child_bucket : Held here row → bucket_in (back (back (get_or keys (f / 8) (pos 0)) +ℤ back (get_or keys (16 + f % 8) (pos 0)))) ≡ bucket_of (state_at here row f)
  child_bucket held =
      let node = pairs_at here (f / 8 * 17) in
      let step = shares_at row (f % 8) in
      let long = pairs_length here (f / 8 * 17) (node_room held (f / 8) (omega (arith, node_below, keyed.few))) in
      let wide = shares_length row (f % 8) step_below (steps_room held) in
      ap bucket_in keys_back ∙ rw (keyed.node (f / 8) node_below, keyed.step (f % 8) step_below) (ap bucket_in (sym (key_added node step (long ∙ sym wide))))
