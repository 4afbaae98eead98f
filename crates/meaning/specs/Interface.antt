-- What is C told? A refusal's number or 0, and the answers as whole numbers in `out`, which is lent like the other buffers.
use Rattle.std.specs.Prelude.{List, [], ◌∷◌, Bool, ◌||◌, cond, ℕ, ◌/◌, ltb, leb, length, ℤ, pos}
use Rattle.laws.specs.Lists.{padded}
use Rattle.meaning.specs.Plan.{Campaign, slots}
use Rattle.meaning.specs.Problem.{first_fault}
use Rattle.meaning.specs.Buffers.{arcs_need, cells_need}
use Rattle.meaning.specs.Filter.{relaxed_arcs}
use Rattle.meaning.specs.Page.{page, page_bytes}
use Rattle.meaning.specs.File.{read_of}
use Rattle.meaning.specs.Running.{relaxed_numbers, restricted_numbers}
use Rattle.meaning.specs.Calls.{Bound, Done, Lent, Choice, empty_start, standing, new, unless, guarded, opened, wrong_width, wrong_numbers, wrong_start, short_diagram, short_plan, judged, better, relaxed_done, restricted_done, holding}

-- "returns the refusal number (0: accepted)", and what stands in the buffers then
pub record Told : Type 0 where
  pub number : ℕ
  pub lent : Lent
  pub out : List ℤ

-- "a refusal changes nothing that was lent"
abbrev pub untold : Lent → List ℤ → ℕ → Told
untold l o k = record { number = k; lent = l; out = o }

-- "cells past those named are set to zero"
abbrev pub told : Lent → List ℤ → List ℤ → Told
told l o named = record { number = 0; lent = l; out = padded (length o) (pos 0) named }

-- "an `out` that is too short is 11, with the other buffers"
abbrev pub short_out : ℕ → List ℤ → Bool
short_out k o = ltb (length o) k

-- "0/1"
abbrev pub flag : Bool → ℤ
flag b = cond b (pos 1) (pos 0)

-- no buffer but `out`
abbrev pub unlent : Lent
unlent = record { arcs = []; cells = []; plan = [] }

-- ---- `needs`: "n, m, bytes of arcs, cells (refusals 1–7, 8 for the width, 11)"
abbrev pub needs_told : List ℕ → ℕ → List ℤ → Told
needs_told f w o =
    let stand = untold unlent o in
    opened (read_of f) stand (λ q. unless (first_fault ((8, wrong_width w) ∷ (11, short_out 4 o) ∷ [])) stand (told unlent o (pos (slots q) ∷ pos (length q.rules) ∷ pos (arcs_need q w) ∷ pos (cells_need q w) ∷ [])))

-- ---- `judge`: "lawful 0/1, cost"
abbrev pub judge_told : List ℕ → List ℕ → List ℤ → Told
judge_told f p o =
    let stand = untold unlent o in
    opened (read_of f) stand (λ q. let a = judged q p in unless (first_fault ((11, short_out 2 o) ∷ [])) stand (told unlent o (flag a.lawful ∷ a.cost ∷ [])))

-- ---- the builders: bound "present 0/1", bound "(0 if none), exact 0/1"
abbrev pub bound_told : Done Bound → List ℤ → Told
bound_told d o = told d.lent o (flag d.answer.present ∷ d.answer.bound ∷ flag d.answer.exact ∷ [])

-- `relaxed`: refusals 8, 11, then 9
abbrev pub relaxed_told : List ℕ → ℕ → ℕ → ℤ → Lent → List ℤ → Told
relaxed_told f w n c l o =
    let stand = untold l o in
    opened (read_of f) stand (λ q. unless (first_fault ((8, wrong_numbers w n c) ∷ (11, short_diagram q w l || short_out 3 o) ∷ [])) stand (guarded (relaxed_numbers q w n c) stand (bound_told (relaxed_done q w n c l) o)))

-- `restricted`
abbrev pub restricted_told : List ℕ → ℕ → Lent → List ℤ → Told
restricted_told f w l o =
    let stand = untold l o in
    opened (read_of f) stand (λ q. unless (first_fault ((8, wrong_width w) ∷ (11, (short_diagram q w l || short_plan q l) || short_out 3 o) ∷ [])) stand (guarded (restricted_numbers q w) stand (bound_told (restricted_done q w l) o)))

-- ---- `page`: "count, more 0/1". The count is an i32: of a longer page no more than these bytes are used
abbrev pub most_page : ℕ
most_page = 2147483647

-- the bytes that are used
abbrev pub used_page : ℕ → ℕ
used_page z = cond (leb z most_page) z most_page

-- what is done where nothing stands
abbrev pub page_served : Campaign → ℕ → ℕ → ℤ → List ℕ → Lent → List ℤ → Told
page_served q w n c s l o =
    let z = length l.plan in
    let g = page q c (used_page z / slots q) s in
    told (holding q w (relaxed_arcs q w n c) l (page_bytes z g)) o (pos (length g.written) ∷ flag g.more ∷ [])

-- refusals 8, 10, 11, then 9
abbrev pub page_told : List ℕ → ℕ → ℕ → ℤ → List ℕ → Lent → List ℤ → Told
page_told f w n c s l o =
    let stand = untold l o in
    opened (read_of f) stand (λ q. unless (first_fault ((8, wrong_numbers w n c) ∷ (10, wrong_start q s) ∷ (11, (short_diagram q w l || short_plan q l) || short_out 2 o) ∷ [])) stand (guarded (relaxed_numbers q w n c) stand (page_served q w n c s l o)))

-- ---- `better`: "0 the empty start, 1 the standing plan, 2 the new one"
abbrev pub choice_told : Choice → ℕ
choice_told empty_start = 0
choice_told standing = 1
choice_told new = 2

-- from a file
abbrev pub better_told : List ℕ → List ℕ → List ℕ → ℕ
better_told f a b = choice_told (better f a b)

-- ---- `version`: "the number of the last request that has landed (0: the base)"
abbrev pub version_told : ℕ
version_told = 0
