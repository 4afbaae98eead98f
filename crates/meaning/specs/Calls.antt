-- What does each operation answer to any file, arguments and lent buffers, and what stands in the buffers then?
use Rattle.std.specs.Prelude.{List, [], ◌∷◌, Bool, true, false, not, ◌&&◌, ◌||◌, cond, ℕ, zero, suc, ◌/◌, eqb, ltb, leb, length, ℤ, pos}
use Rattle.std.proofs.Math.Option.{Option, none, some}
use Rattle.meaning.specs.Plan.{Campaign, slots, lawful, cost, costs_less}
use Rattle.meaning.specs.Problem.{Problem, campaign, most_width, most_rounds, limit, size, first_fault}
use Rattle.meaning.specs.Diagram.{Arcs, relaxed, restricted, is_exact}
use Rattle.meaning.specs.Filter.{relaxed_arcs, restricted_arcs}
use Rattle.meaning.specs.Bound.{dual, shown, primal}
use Rattle.meaning.specs.Buffers.{arcs_need, cells_need, arc_bytes, number_cells, plan_bytes}
use Rattle.meaning.specs.Page.{page, page_bytes}
use Rattle.meaning.specs.File.{Got, refused, got, read_of}
use Rattle.meaning.specs.Running.{relaxed_numbers, restricted_numbers, leaves}

-- ---- answers: "an accepted call has number 0"; beside a refusal's number the room "is all zero and no"
-- of reading
pub record Read : Type 0 where
  pub number : ℕ
  pub problem : Problem

-- of the judge
pub record Judged : Type 0 where
  pub number : ℕ
  pub lawful : Bool
  pub cost : ℤ

-- of a builder: is there a bound, the bound, exact or open
pub record Bound : Type 0 where
  pub number : ℕ
  pub present : Bool
  pub bound : ℤ
  pub exact : Bool

-- of a page: how many plans, and whether there are more
pub record Count : Type 0 where
  pub number : ℕ
  pub count : ℕ
  pub more : Bool

-- the buffers that are lent: arcs, cells, and the bytes of a plan or a page
pub record Lent : Type 0 where
  pub arcs : List ℕ
  pub cells : List ℤ
  pub plan : List ℕ

-- an answer, and what stands in the buffers then
pub record Done (A : Type 0) : Type 0 where
  pub answer : A
  pub lent : Lent

-- ---- refusals
-- a refusal, or what is done
abbrev pub unless : {A : Type 0} → ℕ → (ℕ → A) → A → A
unless zero refusal done = done
unless (suc k) refusal done = refusal (suc k)

-- 9 is tested last
abbrev pub guarded : {A : Type 0} → List ℤ → (ℕ → A) → A → A
guarded zs refusal done = unless (first_fault ((9, leaves zs) ∷ [])) refusal done

-- the same from a file: its own refusals come first
abbrev pub opened : {A : Type 0} → Got Problem → (ℕ → A) → (Campaign → A) → A
opened (refused k) refusal done = refusal k
opened (got p s) refusal done = done (campaign p)

-- 8, "width outside 1 to 16, rounds above 64, or ceiling outside ±2,000,000"
abbrev pub wrong_width : ℕ → Bool
wrong_width w = not (leb 1 w && leb w most_width)

-- all three
abbrev pub wrong_numbers : ℕ → ℕ → ℤ → Bool
wrong_numbers w n c = wrong_width w || not (leb n most_rounds && size limit c)

-- 10, "a start plan whose length is neither 0 nor n"
abbrev pub wrong_start : Campaign → List ℕ → Bool
wrong_start q s = not (eqb (length s) 0 || eqb (length s) (slots q))

-- 11, "a lent buffer shorter than its need"
abbrev pub short_diagram : Campaign → ℕ → Lent → Bool
short_diagram q w l = ltb (length l.arcs) (arcs_need q w) || ltb (length l.cells) (cells_need q w)

-- "a buffer of at least n bytes", for a plan or a page
abbrev pub short_plan : Campaign → Lent → Bool
short_plan q l = ltb (length l.plan) (slots q)

-- ---- reading
-- a refusal's problem has no entry
abbrev pub read_answer : Got Problem → Read
read_answer (refused k) = record { number = k; problem = record { sets = []; weights = []; rules = [] } }
read_answer (got p s) = record { number = 0; problem = p }

-- any bytes
abbrev pub read : List ℕ → Read
read f = read_answer (read_of f)

-- ---- the judge: "lawful exactly if the length is n, each step is allowed and every rule holds; the cost goes with it, and 0 if unlawful"
abbrev pub judged : Campaign → List ℕ → Judged
judged q p = let t = lawful q p in record { number = 0; lawful = t; cost = cond t (cost q p) (pos 0) }

-- from a file
abbrev pub judge : List ℕ → List ℕ → Judged
judge f p = opened (read_of f) (λ k. record { number = k; lawful = false; cost = pos 0 }) (λ q. judged q p)

-- ---- the better of two plans
-- which slice is handed back
pub data Choice : Type 0 where
  empty_start standing new : Choice

-- "a lawful one before an unlawful one, then the lower cost, then the standing one. If neither is lawful .. the empty start"
abbrev pub better_of : Campaign → List ℕ → List ℕ → Choice
better_of q a b = cond (lawful q a) (cond (lawful q b && costs_less q b a) new standing) (cond (lawful q b) new empty_start)

-- from a file: "or the file would be refused"
abbrev pub better : List ℕ → List ℕ → List ℕ → Choice
better f a b = opened (read_of f) (λ k. empty_start) (λ q. better_of q a b)

-- ---- the builders
-- an accepted builder's answer
abbrev pub bound_of : Option ℤ → Bool → Bound
bound_of none e = record { number = 0; present = false; bound = pos 0; exact = e }
bound_of (some z) e = record { number = 0; present = true; bound = z; exact = e }

-- a refused builder's answer, and the buffers as they were
abbrev pub no_bound : Lent → ℕ → Done Bound
no_bound l k = record { answer = record { number = k; present = false; bound = pos 0; exact = false }; lent = l }

-- both buffers hold the diagram of the arcs, the third holds p
abbrev pub holding : Campaign → ℕ → Arcs → Lent → List ℕ → Lent
holding q w a l p = record { arcs = arc_bytes q w (length l.arcs) a; cells = number_cells q w (length l.cells) a; plan = p }

-- what is answered where nothing stands
abbrev pub relaxed_done : Campaign → ℕ → ℕ → ℤ → Lent → Done Bound
relaxed_done q w n c l = record { answer = bound_of (dual q w n c) (is_exact relaxed q w); lent = holding q w (relaxed_arcs q w n c) l l.plan }

-- refusals 8, 11
abbrev pub relaxed_fault : Campaign → ℕ → ℕ → ℤ → Lent → ℕ
relaxed_fault q w n c l = first_fault ((8, wrong_numbers w n c) ∷ (11, short_diagram q w l) ∷ [])

-- on a campaign: 8, 11, then 9, else what is done
abbrev pub relaxed_of : Campaign → ℕ → ℕ → ℤ → Lent → Done Bound
relaxed_of q w n c l =
    let done = relaxed_done q w n c l in
    let last = guarded (relaxed_numbers q w n c) (no_bound l) done in
    unless (relaxed_fault q w n c l) (no_bound l) last

-- from a file
abbrev pub relaxed_call : List ℕ → ℕ → ℕ → ℤ → Lent → Done Bound
relaxed_call f w n c l = opened (read_of f) (no_bound l) (λ q. relaxed_of q w n c l)

-- the plan shown beside the diagram
abbrev pub restricted_done : Campaign → ℕ → Lent → Done Bound
restricted_done q w l =
    record { answer = bound_of (primal q w) (is_exact restricted q w); lent = holding q w (restricted_arcs q w) l (plan_bytes (length l.plan) (shown q w)) }

-- refusals 8, 11; "takes no ceiling and no rounds"
abbrev pub restricted_fault : Campaign → ℕ → Lent → ℕ
restricted_fault q w l = first_fault ((8, wrong_width w) ∷ (11, short_diagram q w l || short_plan q l) ∷ [])

-- on a campaign
abbrev pub restricted_of : Campaign → ℕ → Lent → Done Bound
restricted_of q w l =
    let done = restricted_done q w l in
    let last = guarded (restricted_numbers q w) (no_bound l) done in
    unless (restricted_fault q w l) (no_bound l) last

-- from a file
abbrev pub restricted_call : List ℕ → ℕ → Lent → Done Bound
restricted_call f w l = opened (read_of f) (no_bound l) (λ q. restricted_of q w l)

-- ---- the page: its buffers "afterwards hold that diagram"
-- a refused page's answer, and the buffers as they were
abbrev pub no_count : Lent → ℕ → Done Count
no_count l k = record { answer = record { number = k; count = 0; more = false }; lent = l }

-- as many plans as fit whole
abbrev pub page_done : Campaign → ℕ → ℕ → ℤ → List ℕ → Lent → Done Count
page_done q w n c s l =
    let z = length l.plan in
    let g = page q c (z / slots q) s in
    record { answer = record { number = 0; count = length g.written; more = g.more }; lent = holding q w (relaxed_arcs q w n c) l (page_bytes z g) }

-- refusals 8, 10, 11
abbrev pub page_fault : Campaign → ℕ → ℕ → ℤ → List ℕ → Lent → ℕ
page_fault q w n c s l = first_fault ((8, wrong_numbers w n c) ∷ (10, wrong_start q s) ∷ (11, short_diagram q w l || short_plan q l) ∷ [])

-- on a campaign: 8, 10, 11, then 9, else what is done
abbrev pub page_on : Campaign → ℕ → ℕ → ℤ → List ℕ → Lent → Done Count
page_on q w n c s l =
    let done = page_done q w n c s l in
    let last = guarded (relaxed_numbers q w n c) (no_count l) done in
    unless (page_fault q w n c s l) (no_count l) last

-- from a file
abbrev pub page_call : List ℕ → ℕ → ℕ → ℤ → List ℕ → Lent → Done Count
page_call f w n c s l = opened (read_of f) (no_count l) (λ q. page_on q w n c s l)
