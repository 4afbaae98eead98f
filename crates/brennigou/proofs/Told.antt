-- Which number is told where the file, the width or `out` alone decide?
use mathlib.Core.Path.{◌≡◌, refl, sym, ap, ◌∙◌}
use mathlib.Core.List.{List, [], ◌∷◌, map}
use Prim.Native.Nat.{ℕ, zero, suc, ◌+◌, ◌*◌, ◌≤◌, ◌<◌}
use native.Mathlib.Nat.{mul-le-mul}
use native.Mathlib.Omega.{arith}
use borrow.Author.Tests.{lt-ltb, le-ltb}
use lib.ListN.{length, length-map}
use lib.Seq.{length-take-le}
use lib.IntN.{ℤ, pos}
use Rattle.std.specs.Prelude.{Ok, Err, Option, Some, None}
use Rattle.std.specs.Option.{is_some, unwrap_or}
use Rattle.laws.specs.Lists.{from}
use Rattle.laws.proofs.Lists.{length_from}
use Rattle.meaning.specs.Plan.{Campaign, slots}
use Rattle.meaning.specs.Problem.{rule_of, first_fault}
use Rattle.meaning.specs.Problem as paper
use Rattle.meaning.specs.File.{Got, refused, got, read_of}
use Rattle.meaning.specs.Buffers.{arcs_need, cells_need}
use Rattle.meaning.specs.Calls.{Judged, unless, judge, wrong_width}
use Rattle.meaning.specs.Interface.{Told, untold, told, unlent, flag, short_out, needs_told, judge_told}
use Rattle.meaning.proofs.Rows.{refused_range}
use Rattle.refusal.specs.declared.Refusal.{Refusal}
use Rattle.refusal.specs.Refusals.{number_of}
use Rattle.problem.specs.declared.Problem.{Problem}
use Rattle.problem.specs.Held.{said_at, campaign_of}
use Rattle.judge.specs.Answers.{judged_as}
use Rattle.brennigou.specs.Answers.{campaign_read, judge_answer}
use Rattle.brennigou.proofs.Opened.{opened_as}
use Rattle.brennigou.proofs.Cells.{unless_no, unless_yes}

-- no refusal has number 0
pub some_number : (x : Refusal) → number_of x ≡ 0 → ⊥
some_number x e = grind arith

judged_number : (a : Option ℤ) → (judged_as a).number ≡ 0
judged_number (Some z) = refl
judged_number None = refl

-- yes and the cost of a lawful plan, no and 0 of another
pub judged_cells : (a : Option ℤ) → (flag (is_some a) ≡ flag (judged_as a).lawful) × (unwrap_or a (pos 0) ≡ (judged_as a).cost)
judged_cells (Some z) = (refl, refl)
judged_cells None = (refl, refl)

-- ---- the needs of a refused file: its number
pub needs_refused : (f : List ℕ) (w : ℕ) (o : List ℤ) (x : Refusal) → Err (number_of x) ≡ campaign_read f → number_of x ≡ (needs_told f w o).number
needs_refused f w o x e = sym (ap (λ (t : Told). t.number) (opened_as f (untold unlent o) done e))
  where
    done : Campaign → Told
    done q = unless (first_fault ((8, wrong_width w) ∷ (11, short_out 4 o) ∷ [])) (untold unlent o) (told unlent o (pos (slots q) ∷ pos (length q.rules) ∷ pos (arcs_need q w) ∷ pos (cells_need q w) ∷ []))

-- ---- the judge: 11 behind the file's own number
module _ (f p : List ℕ) (o : List ℤ) where
  abbrev stand : ℕ → Told
  stand = untold unlent o

  abbrev judged_out : Judged → Told
  judged_out j = unless j.number stand (unless (first_fault ((11, short_out 2 o) ∷ [])) stand (told unlent o (flag j.lawful ∷ j.cost ∷ [])))

  judge_told_lem : judge_told f p o ≡ judged_out (judge f p)
  judge_told_lem = go (read_of f) refl
    where
      go : (g : Got paper.Problem) → read_of f ≡ g → judge_told f p o ≡ judged_out (judge f p)
      go (refused zero) h = absurd (omega (arith, refused_range f 0 h))
      go (refused (suc k)) h = rw h refl
      go (got q s) h = rw h refl

  pub judge_no : (x : Refusal) → judge_answer (Err x) ≡ judge f p → judge_told f p o ≡ stand (number_of x)
  judge_no x e = judge_told_lem ∙ ap judged_out (sym e) ∙ unless_no stand (unless (first_fault ((11, short_out 2 o) ∷ [])) stand (told unlent o (pos 0 ∷ pos 0 ∷ []))) (number_of x) (some_number x)

  module _ (a : Option ℤ) (e : judge_answer (Ok a) ≡ judge f p) where
    judge_ok : judge_told f p o ≡ unless (first_fault ((11, short_out 2 o) ∷ [])) stand (told unlent o (flag (judged_as a).lawful ∷ (judged_as a).cost ∷ []))
    judge_ok = judge_told_lem ∙ ap judged_out (sym e) ∙ unless_yes stand (unless (first_fault ((11, short_out 2 o) ∷ [])) stand (told unlent o (flag (judged_as a).lawful ∷ (judged_as a).cost ∷ []))) (judged_number a)

    pub judge_short : length o < 2 → judge_told f p o ≡ stand 11
    judge_short h = judge_ok ∙ rw (lt-ltb (length o) 2 h) refl

    pub judge_yes : 2 ≤ length o → judge_told f p o ≡ told unlent o (flag (judged_as a).lawful ∷ (judged_as a).cost ∷ [])
    judge_yes h = judge_ok ∙ rw (le-ltb (length o) 2 h) refl

-- ---- a sound problem's n and m are its campaign's, and all needs fit an i32
pub slots_are : (p : Problem) → p.slots ≤ length p.sets → slots (campaign_of p) ≡ p.slots
slots_are p h = length-take-le p.slots p.sets h

pub rules_are : (p : Problem) → length (campaign_of p).rules ≡ p.rules
rules_are p = length-map (map (said_at p) (from 0 p.rules)) rule_of ∙ length-map (from 0 p.rules) (said_at p) ∙ length_from 0 p.rules

pub few_bytes : (n w : ℕ) → n ≤ 24 → w ≤ 16 → 8 * n * w ≤ 3072
few_bytes n w h k = let eight : 8 * n ≤ 192 = omega arith in mul-le-mul eight k

pub few_cells : (n m w : ℕ) → n ≤ 24 → m ≤ 8 → w ≤ 16 → (n + 1) * w * (4 * m + 3) ≤ 14000
few_cells n m w h j k =
    let layers : n + 1 ≤ 25 = omega arith in
    let nodes : (n + 1) * w ≤ 400 = mul-le-mul layers k in
    let each : 4 * m + 3 ≤ 35 = omega arith in
    mul-le-mul nodes each
