-- `put_level` meets its contract: what is left of the ceiling stands behind the totals.
use Rattle.std.proofs.Common.{rules, ◌≡◌, [], ◌∷◌, ◌++◌, ◌+◌, ◌≤◌, length, length-append, get_or, take, drop, sym, ap, ◌∙◌, slice_set, arith, List, ℕ, ℤ, pos}
use Rattle.std.proofs.Math.Seq.{paste, paste-suc}
use Rattle.std.proofs.Math.Facts.{to_z-of_z}
use Rattle.std.proofs.lemmas.List.{take-append-le, get_or_at}
use Rattle.std.proofs.lemmas.Slice.{put_mid-paste}
use Rattle.step.proofs.put_level.Goals as goal

-- eight totals laid, and then what is left, are a level laid
level_laid : (d : List ℤ) (at : ℕ) (totals : List ℤ) (rest : ℤ) (laid : List ℤ) → length totals ≡ 8 → at + 9 ≤ length d → laid ≡ paste d at totals 8 → slice_set laid (at + 8) rest ≡ paste d at (totals ++ (rest ∷ [])) 9
level_laid d at totals rest laid eight room is =
    let level = totals ++ (rest ∷ []) in
    let first = is ∙ ap (λ (l : List ℤ). (take at d ++ l) ++ drop (at + 8) d) (sym (take-append-le 8 totals (rest ∷ []) (omega (arith, eight)))) in
    let last : rest ≡ get_or level 8 (pos 0) = sym (get_or_at totals rest [] (pos 0) 8 eight) in
    (λ t. slice_set (first t) (at + 8) (last t)) ∙ paste-suc d at level 8 (pos 0) (omega (arith, room)) (omega (arith, eight, length-append totals (rest ∷ [])))

pub returns : goal.returns
returns c = rw (to_z-of_z c.ranges.rest) (level_laid c.args.trail.now c.args.at c.args.totals c.args.rest _ (search rules) (omega (arith, c.requires)) (put_mid-paste c.args.at _ c.args.trail.now _ c.args.totals 8 (search rules) (omega arith) (search rules)))
