use Rattle.std.proofs.Common.{rules, arith, ◌≡◌, ◌∙◌, sym, refl, true, not, ◌&&◌, length, take}
use Rattle.std.specs.List.{list_all}
use Rattle.meaning.specs.Problem.{right_head}
use Rattle.meaning.specs.Running.{guard}
use Rattle.meaning.proofs.Faultless.{test_range}
use Rattle.problem.specs.declared.Terms.TheVariants.{Sum}
use Rattle.problem.specs.Held.{campaign_of}
use Rattle.guard.specs.Size.{fits}
use Rattle.guard.proofs.Guarded.{guard_is}
use Rattle.guard.proofs.guard_of.Goals as goal
use Rattle.guard.proofs.guard_of.Goals.{After-fits, then-not-fits-via-then-not-fits, then-not-fits-via-else-not-fits+then-not-all_fit}

-- past the head
head_right : (c : After-fits) → right_head c.args.problem.now.slots c.args.problem.now.rules ≡ true
head_right c = sym c.head_is_right.ensures ∙ c.if-not-head_is_right.false

guarded : (c : After-fits) → let p = c.args.problem.now in let sets = take p.slots p.sets in guard (campaign_of p) ≡ not (fits sets (Sum p.weights) && list_all (fits sets) (take p.rules p.terms))
guarded c =
    let p = c.args.problem.now in
    let r = test_range p.slots p.rules (head_right c) in
    let sets : length p.sets ≡ 24 = search rules in
    let terms : length p.terms ≡ 8 = search rules in
    guard_is p (omega (arith, r.most)) (omega (arith, r.rules))

pub returns-then-not-fits : goal.returns-then-not-fits
returns-then-not-fits c =
    let b = (goal.at.returns-then-not-fits c).After-fits in
    elim c.then-not-fits.branch [
      | then-not-fits-via-then-not-fits w ↦ rw (head_right b, guarded b, sym c.fits.ensures ∙ w.if-not-fits.true) refl
      | then-not-fits-via-else-not-fits+then-not-all_fit w ↦ rw (head_right b, guarded b, sym c.fits.ensures ∙ w.if-not-fits.false, sym w.all_fit.ensures ∙ w.if-not-all_fit.true) refl
    ]

pub returns : goal.returns
returns c =
    let b = (goal.at.returns c).After-fits in
    rw (head_right b, guarded b, sym c.fits.ensures ∙ c.if-not-fits.false, sym c.all_fit.ensures ∙ c.if-not-all_fit.false) refl
