-- `needs_of` meets its contract: n and m are the campaign's, and all four fit an i32.
use Rattle.std.proofs.Common.{◌≡◌, sym, ap, ◌∙◌, arith, pos, [], ◌∷◌, ◌*◌, ◌+◌, length, w32, to_z, rules, suc, ℕ}
use Rattle.std.proofs.lemmas.Int.{ints}
use Rattle.meaning.specs.Plan.{slots}
use Rattle.meaning.specs.Problem.{version1}
use Rattle.problem.specs.Held.{campaign_of}
use Rattle.problem.proofs.Faultless.{right}
use Rattle.brennigou.proofs.Told.{slots_are, rules_are, few_bytes, few_cells}
use Rattle.brennigou.proofs.needs_of.Goals as goal

pub returns : goal.returns
returns c =
    let p = c.args.problem.now in
    let q = campaign_of p in
    let w = c.args.width in
    let head = (right version1 p c.requires.sound).head in
    let long : length p.sets ≡ 24 = search rules in
    let n : slots q ≡ p.slots = slots_are p (omega (arith, long, head.most)) in
    let m : length q.rules ≡ p.rules = rules_are p in
    let k : slots q + 1 ≡ suc (slots q) = omega arith in
    let a : to_z w32 p.slots ≡ pos (slots q) = omega (arith, ints, n, head.most) in
    let b : to_z w32 p.rules ≡ pos (length q.rules) = omega (arith, ints, m, head.rules) in
    let bytes : to_z w32 c.arcs_need-bytes.result ≡ pos (8 * p.slots * w) = omega (arith, ints, c.arcs_need-bytes.ensures, few_bytes p.slots w head.most c.requires.width) in
    let cells : to_z w32 c.cells_need-numbers.result ≡ pos ((p.slots + 1) * w * (4 * p.rules + 3)) = omega (arith, ints, c.cells_need-numbers.ensures, few_cells p.slots p.rules w head.most head.rules c.requires.width) in
    let arcs = bytes ∙ ap (λ (x : ℕ). pos (8 * x * w)) (sym n) in
    let numbers = cells ∙ (λ i. pos ((sym n i + 1) * w * (4 * sym m i + 3))) ∙ ap (λ (x : ℕ). pos (x * w * (4 * length q.rules + 3))) k in
    λ i. a i ∷ b i ∷ arcs i ∷ numbers i ∷ []
