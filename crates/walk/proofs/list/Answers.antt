-- `list` meets its contract: the tables and the start steer the recursion from the source; what it lays is the page asked for.
use mathlib.Core.Path.{◌≡◌, refl, sym, ap, ◌∙◌}
use mathlib.Core.List.{List, ◌∷◌, ◌++◌}
use mathlib.Core.Logic.{⊎_elim}
use Prim.Native.Nat.{ℕ, ◌-◌, ◌*◌, ◌/◌, ◌≤◌}
use native.Mathlib.Omega.{arith}
use native.Mathlib.Nat.{div-mul-le_self, div-le_self}
use lib.ListN.{length, replicate, length-append, length-replicate}
use lib.IntN.{ℤ, pos}
use mir.Facts.{to_z-of_z}
use Rattle.laws.specs.Z.{back}
use Rattle.meaning.specs.Problem.{version1}
use Rattle.meaning.specs.Buffers.{arcs_in}
use Rattle.meaning.specs.Page.{walked, page_of, page_bytes}
use Rattle.problem.specs.Held.{campaign_of}
use Rattle.problem.proofs.Faultless.{right}
use Rattle.problem.proofs.Arrays.{long}
use Rattle.slot.specs.Tables.{leasts_of, mosts_of}
use Rattle.slot.proofs.Said.{leasts_long, mosts_long}
use Rattle.step.specs.Answers.{listed_as}
use Rattle.walk.proofs.Steered.{slots_are, walkable, totals_within, budget_within, laid_walked, walked_long, answer, bytes}
use Rattle.walk.proofs.list.Goals as goal
use Rattle.walk.proofs.list.Goals.{After-node-seen, Start}

-- how long the problem's arrays are
module _ (s : Start) where
  sets_long : length s.args.p.sets ≡ 24
  sets_long = search long

  low_long : length (leasts_of s.args.p) ≡ 8
  low_long = leasts_long s.args.p (search long)

  high_long : length (mosts_of s.args.p) ≡ 8
  high_long = mosts_long s.args.p (search long)

-- a start is at most 24 steps
start_few : (s : Start) → length s.args.start.now ≤ 24
start_few s = let h = right version1 s.args.p s.requires.0.right in ⊎_elim (λ z. omega arith) (λ z. omega (arith, h.head.most)) s.requires.3

-- what fits on the page
abbrev most : Start → ℕ
most s = length s.args.page.now / s.args.p.slots

room : (s : Start) → most s * s.args.p.slots ≤ length s.args.page.now
room s = div-mul-le_self (length s.args.page.now) s.args.p.slots

-- the trail at the source
abbrev trail : Start → List ℤ
trail s = replicate 8 (pos 0) ++ (back s.args.ceiling ∷ replicate 216 (pos 0))

pub nonzero_div-room : goal.nonzero_div-room
nonzero_div-room c = (right version1 c.args.p c.requires.0.right).head.some

pub begun-plan-requires : goal.begun-plan-requires
begun-plan-requires c = start_few (goal.at.begun-plan-requires c).Start

pub node-seen-requires : goal.node-seen-requires
node-seen-requires c =
    let s = (goal.at.node-seen-requires c).Start in
    let p = c.args.p in
    let tables = c.requires.1 in
    let few = start_few s in
    let start = c.args.start.now in (
      walkable c.requires.0 (sets_long s) c.requires.4 c.requires.5 tables.weights_are tables,
      (right version1 p c.requires.0.right).head.some,
      omega arith,
      c.requires.0.some,
      totals_within (trail s) p.slots refl,
      budget_within (trail s) p.slots (to_z-of_z c.ranges.ceiling) c.requires.2,
      room s,
      div-le_self (length c.args.page.now) p.slots,
      omega arith,
      tables.long,
      tables.wide,
      refl,
      ap length c.begun-plan.ensures ∙ length-append start (replicate (24 - length start) 0) ∙ omega (arith, length-replicate {A = ℕ} (24 - length start) 0),
    )

-- the page behind the recursion
module _ (c : After-node-seen) where
  abbrev later : List ℕ
  later = c.node-seen.new.page

  kept : length later ≡ length c.args.page.now
  kept = c.node-seen.auto.page

pub closed-requires : goal.closed-requires
closed-requires c = let k = (goal.at.closed-requires c).After-node-seen in rw (kept k) (room (goal.at.closed-requires c).Start)

pub returns : goal.returns
returns c =
    let k = (goal.at.returns c).After-node-seen in
    let s = (goal.at.returns c).Start in
    let a = c.args in
    let p = a.p in
    let q = campaign_of p in
    let sets = sets_long s in
    let page = a.page.now in
    let h = right version1 p c.requires.0.right in
    let ps = walked (arcs_in q a.w a.arcs.now) q a.ceiling a.start.now in
    let each = walked_long p h sets (arcs_in q a.w a.arcs.now) a.ceiling a.start.now c.begun-plan.result c.begun-plan.ensures c.requires.3 in
    let laid = laid_walked a.coefs.now a.values.now c.requires.0 sets (low_long s) (high_long s) c.requires.4 c.requires.5 c.requires.1 a.ceiling (trail s) a.start.now c.begun-plan.result refl (to_z-of_z c.ranges.ceiling) c.begun-plan.ensures c.requires.3 (most s) page (later k) c.node-seen.result c.node-seen.ensures.found in
    let n = slots_are h sets in record { value = c.closed.ensures.value ∙ answer p.slots (most s) page (later k) c.node-seen.result ps (room s) each laid ∙ ap (λ (n : ℕ). listed_as (page_of (length page / n) ps)) (sym n); page = c.closed.ensures.page ∙ bytes p.slots (most s) page (later k) c.node-seen.result ps (room s) each laid ∙ ap (λ (n : ℕ). page_bytes (length page) (page_of (length page / n) ps)) (sym n) }
