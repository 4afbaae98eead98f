-- `brennigou_page` meets its contract: what is told is what `page` does on the parts that are lent, the rest as it was or, of the page, zero.
use mathlib.Core.Path.{◌≡◌, refl, sym, ap, ◌∙◌}
use mathlib.Core.List.{List, [], ◌∷◌}
use mathlib.Core.Bool.{cond}
use Prim.Native.Nat.{ℕ, ◌≤◌}
use native.Mathlib.Omega.{arith}
use lib.ListN.{length, drop}
use lib.Seq.{length-take-le}
use lib.IntN.{ℤ, pos}
use mir.Facts.{to_z-of_z}
use mir.Syntax.{w32}
use mir.Val.{SFits}
use borrow.Author.Rules.{sfits_of}
use Rattle.laws.specs.Z.{back, told}
use Rattle.laws.specs.Lists.{padded}
use Rattle.meaning.specs.Calls.{Lent, Count, page_call}
use Rattle.meaning.specs.Interface.{short_out, used_page, page_told}
use Rattle.diagram.specs.Answers.{lent_of}
use Rattle.brennigou.proofs.Lent.{part}
use Rattle.brennigou.proofs.Paged.{used, page_tells, page_told_lem, page_count, page_no, page_yes, zeroed_rest}
use Rattle.brennigou.proofs.Told.{some_number}
use Rattle.brennigou.proofs.brennigou_page.Goals as goal
use Rattle.brennigou.proofs.brennigou_page.Goals.{After-page-answer}

-- what is lent, and how much of it
module _ (c : After-page-answer) where
  abbrev out : List ℤ
  out = c.args.out.now

  abbrev lent : Lent
  lent = lent_of c.args.arcs.now c.args.cells.now c.args.page.now

  abbrev bytes : ℕ
  bytes = c.lendable-bytes.result

  abbrev numbers : ℕ
  numbers = c.lendable-numbers.result

  abbrev used_bytes : ℕ
  used_bytes = c.used_page-used.result

  lends_arcs : bytes ≡ cond (short_out 2 out) 0 (length lent.arcs)
  lends_arcs = c.lendable-bytes.ensures.0

  lends_cells : numbers ≡ cond (short_out 2 out) 0 (length lent.cells)
  lends_cells = c.lendable-numbers.ensures.0

  uses : used_bytes ≡ used_page (length lent.plan)
  uses = c.used_page-used.ensures.0

  fits : used_bytes ≤ length lent.plan
  fits = c.used_page-used.ensures.1

  -- the ceiling is read back from its bits
  telling : page_told c.args.file.now c.args.width c.args.rounds c.args.ceiling c.args.start.now lent out
      ≡ page_tells out (drop bytes lent.arcs) (drop numbers lent.cells) lent.plan used_bytes (page_call c.args.file.now c.args.width c.args.rounds (back c.args.ceiling) c.args.start.now (part (used lent used_bytes) bytes numbers))
  telling =
      let a = c.args in
      page_told_lem out lent bytes numbers used_bytes lends_arcs lends_cells uses fits a.file.now a.width a.rounds a.ceiling a.start.now
      ∙ ap (λ (z : ℤ). page_tells out (drop bytes lent.arcs) (drop numbers lent.cells) lent.plan used_bytes (page_call a.file.now a.width a.rounds z a.start.now (part (used lent used_bytes) bytes numbers))) (sym (to_z-of_z c.ranges.ceiling))

  -- what is counted fits an i32
  fits_count : {r : Count} → r ≡ (page_call c.args.file.now c.args.width c.args.rounds (back c.args.ceiling) c.args.start.now (part (used lent used_bytes) bytes numbers)).answer → SFits w32 (pos r.count)
  fits_count e =
      let a = c.args in
      let few = page_count a.file.now a.width a.rounds (back a.ceiling) a.start.now (part (used lent used_bytes) bytes numbers) in
      sfits_of (omega (arith, ap (λ (r : Count). r.count) e, few, length-take-le used_bytes lent.plan fits, c.used_page-used.ensures.2))

pub returns-in-Err : goal.returns-in-Err
returns-in-Err c =
    let x = (goal.at.returns-in-Err c).After-page-answer in
    let d = c.in-Err.ensures in
    let r = page_no (out x) (lent x) (bytes x) (numbers x) (used_bytes x) (lends_arcs x) (lends_cells x) (uses x) (fits x) (telling x) d.answer d.arcs d.cells d.page (some_number c.in-Err.refusal) in
    record { value = c.number.ensures ∙ r.0; arcs = r.1; cells = r.2; page = r.3; out = r.4 }

pub overflow_cast-listed : goal.overflow_cast-listed
overflow_cast-listed c = fits_count (goal.at.overflow_cast-listed c).After-page-answer c.in-Ok.ensures.answer

pub returns-in-Ok : goal.returns-in-Ok
returns-in-Ok c =
    let x = (goal.at.returns-in-Ok c).After-page-answer in
    let d = c.in-Ok.ensures in
    let r = page_yes (out x) (lent x) (bytes x) (numbers x) (used_bytes x) (lends_arcs x) (lends_cells x) (uses x) (fits x) (telling x) d.answer d.arcs d.cells d.page refl in
    let n = length (out x) in
    let count = to_z-of_z (fits_count x d.answer) in
    let more = told c.flag.result c.flag.type_inv ∙ c.flag.ensures in
    let page = zeroed_rest c.page-answer.new.page (lent x).plan c.fill.new.self (used_bytes x) (c.page-answer.auto.page ∙ length-take-le (used_bytes x) (lent x).plan (fits x)) (fits x) (c.fill.ensures.after (λ y e. e)) in
    record { value = r.0; arcs = r.1; cells = r.2; page = page ∙ r.3; out = c.tell.ensures ∙ (λ i. padded n (pos 0) (count i ∷ more i ∷ [])) ∙ r.4 }
