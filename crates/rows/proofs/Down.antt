-- What does an arc bring to a place of the next layer's row, and what is left to bring after one more arc of a node, or one more node of a layer?
use mathlib.Core.List.{◌++◌}
use Rattle.std.proofs.Common.{◌≡◌, refl, sym, ap, ◌∙◌, cond, List, [], ◌∷◌, ℕ, zero, suc, ◌+◌, ◌-◌, ◌*◌, ◌≤◌, ◌<◌, length, get_or, set, take, drop, ℤ, pos, ◌+ℤ◌, add-one, arith, drop-cons}
use lib.ListN.{length-append, length-drop}
use lib.Seq.{paste-suc, take-suc, take_at, take_all, get_or_at, get_or-drop}
use Rattle.std.proofs.Math.Seq.{paste}
use Rattle.laws.specs.Z.{min_z}
use Rattle.laws.specs.Lists.{parted}
use Rattle.meaning.specs.Diagram.{State, merged_state}
use Rattle.lent.specs.Lanes.{lanes_at, arc_at, sums, leasts}
use Rattle.lent.specs.Passes.{far, bring, bring_node, bring_layer}
use Rattle.lent.proofs.Lanes.{zipped_append}
use Rattle.state.specs.Pairs.{added, pairs_at, shares_at, unpaired}
use Rattle.state.proofs.Sizes.{added_length, merged_length}
use Rattle.state.proofs.Rows.{unpaired_length, unpaired_merged, pairs_length, pairs_lanes}
use Rattle.state.proofs.Steps.{shares_length, arc_lanes}
use Rattle.rows.proofs.Laid.{parted_next}

-- ---- the lanes of a node: those of its state, and its cost
abbrev pub lanes_of : State → ℤ → List ℤ
lanes_of t c = unpaired t ++ (c ∷ [])

-- as they stand at a place of a row
pub lanes_split : (row : List ℤ) (at : ℕ) → at + 17 ≤ length row → lanes_at row at ≡ lanes_of (pairs_at row at) (get_or row (at + 16) (pos 0))
lanes_split row at h =
    take-suc (drop at row) 16 (pos 0) (omega (arith, length-drop at row))
    ∙ (λ i. sym (pairs_lanes row at (omega arith)) i ++ (get_or-drop at row 16 (pos 0) i ∷ []))

-- merged with others
lanes_merged : (a b : State) (c d : ℤ) → length a ≡ length b → leasts (lanes_of a c) (lanes_of b d) ≡ lanes_of (merged_state a b) (min_z c d)
lanes_merged a b c d e =
    zipped_append min_z (unpaired a) (unpaired b) (c ∷ []) (d ∷ []) (omega (arith, e, unpaired_length a, unpaired_length b))
    ∙ ap (λ l. l ++ min_z c d ∷ []) (sym (unpaired_merged a b e))

-- a state laid in a row, then a cost after it
laid_with : (d : List ℤ) (at : ℕ) (u : List ℤ) → length u ≡ 16 → at + 17 ≤ length d → (c : ℤ) → set (paste d at u 16) (at + 16) c ≡ paste d at (u ++ c ∷ []) 17
laid_with d at u long room c =
    let all = u ++ c ∷ [] in
    let same : take 16 u ≡ take 16 all = take_all 16 u (omega arith) ∙ sym (take_at u (c ∷ []) 16 long) in
    let last : c ≡ get_or all 16 (pos 0) = sym (get_or_at u c [] (pos 0) 16 long) in
    (λ i. set (take at d ++ same i ++ drop (at + 16) d) (at + 16) (last i)) ∙ paste-suc d at all 16 (pos 0) (omega arith) (omega (arith, length-append u (c ∷ [])))

-- what an arc brings: s, t, m are the states that are read, made and merged, z the least cost
pub arc_laid : (x : State) (c : ℤ) (row next : List ℤ) (v at : ℕ) {s t m : State} {z : ℤ} → v < 8 → length row ≡ 72 → length x ≡ 8 → at + 17 ≤ length next
    → s ≡ pairs_at next at → t ≡ added x (shares_at row v) → m ≡ merged_state s t → z ≡ min_z (get_or next (at + 16) (pos 0)) (c +ℤ get_or row (64 + v) (pos 0))
    → set (paste next at (unpaired m) 16) (at + 16) z ≡ paste next at (leasts (lanes_at next at) (sums (lanes_of x c) (arc_at row v))) 17
arc_laid x c row next v at {m = m} {z = z} h slot long room es et em ez =
    let steps : 64 ≤ length row = omega (arith, slot) in
    let old = pairs_at next at in
    let child = added x (shares_at row v) in
    let n : length x ≡ length (shares_at row v) = long ∙ sym (shares_length row v h steps) in
    let k : length old ≡ length child = pairs_length next at (omega arith) ∙ sym (added_length x (shares_at row v) n ∙ long) in
    let new = merged_state old child in
    let is : m ≡ new = em ∙ (λ i. merged_state (es i) (et i)) in
    let lanes : length (unpaired new) ≡ 16 = omega (arith, unpaired_length new, merged_length old child k, pairs_length next at (omega arith)) in
    let all : leasts (lanes_at next at) (sums (lanes_of x c) (arc_at row v)) ≡ lanes_of new (min_z (get_or next (at + 16) (pos 0)) (c +ℤ get_or row (64 + v) (pos 0))) =
    (λ i. leasts (lanes_split next at room i) (sym (arc_lanes row v h steps x c long) i))
    ∙ lanes_merged old child (get_or next (at + 16) (pos 0)) (c +ℤ get_or row (64 + v) (pos 0)) k in
    rw (is, ez, all) (laid_with next at (unpaired new) lanes room _)

-- ---- what is left
-- an arc leads to the place before its byte
pub arc_brings : (row x next : List ℤ) (v b : ℕ) → (b ≡ 0 → ⊥) → paste next ((b - 1) * 17) (leasts (lanes_at next ((b - 1) * 17)) (sums x (arc_at row v))) 17 ≡ bring row x v b next
arc_brings row x next v zero f = absurd (f refl)
arc_brings row x next v (suc k) f =
    let o : suc k - 1 ≡ k = omega arith in
    rw o refl

pub next_arc : (row x next : List ℤ) (bs : List ℕ) (v : ℕ) {next' all : List ℤ} → v < length bs → bring_node row x v (drop v bs) next ≡ all → next' ≡ bring row x v (get_or bs v 0) next → bring_node row x (v + 1) (drop (v + 1) bs) next' ≡ all
next_arc row x next bs v h e f = rw (f, add-one) (sym (ap (λ r. bring_node row x v r next) (drop-cons bs v 0 h)) ∙ e)

pub next_node : (w : ℕ) (row here next : List ℤ) (arcs : List ℕ) (j : ℕ) {next' all : List ℤ} → j < w → bring_layer row here j (parted (w - j) 8 (drop (j * 8) arcs)) next ≡ all
    → next' ≡ cond (far (lanes_at here (j * 17))) next (bring_node row (lanes_at here (j * 17)) 0 (take 8 (drop (j * 8) arcs)) next) → bring_layer row here (j + 1) (parted (w - (j + 1)) 8 (drop ((j + 1) * 8) arcs)) next' ≡ all
next_node w row here next arcs j h e f = rw f (sym (rw (parted_next w 8 j arcs h, add-one) refl) ∙ e)
