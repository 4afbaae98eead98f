-- What do the builders do where `out` is too short? Nothing is lent to them then, so that 11 comes in its turn; else all is.
use mathlib.Core.Path.{◌≡◌, refl, sym, ap, ◌∙◌}
use mathlib.Core.List.{List, [], ◌∷◌, ◌++◌, append-nil}
use mathlib.Core.Bool.{Bool, true, false, not, ◌||◌, cond, true≢false}
use mathlib.Core.Option.{Option, none, some}
use Prim.Native.Nat.{ℕ, zero, suc, ◌*◌, ◌≤◌}
use native.Mathlib.Nat.{mul-pos}
use native.Mathlib.Omega.{arith}
use lib.ListN.{length, take, drop, take-append-drop, drop_of_length-le}
use lib.Seq.{take_all}
use lib.IntN.{ℤ, pos}
use Rattle.laws.specs.Lists.{padded}
use Rattle.meaning.specs.Plan.{Campaign}
use Rattle.meaning.specs.Problem.{version1, campaign, first_fault}
use Rattle.meaning.specs.Problem as paper
use Rattle.meaning.specs.Diagram.{relaxed, restricted, is_exact}
use Rattle.meaning.specs.Bound.{dual, primal}
use Rattle.meaning.specs.File.{Got, refused, got, read_of}
use Rattle.meaning.specs.Running.{leaves, relaxed_numbers, restricted_numbers}
use Rattle.meaning.specs.Calls.{Lent, Bound, Done, unless, guarded, opened, wrong_width, wrong_numbers, short_diagram, short_plan, bound_of, no_bound, relaxed_done, relaxed_call, restricted_done, restricted_call}
use Rattle.meaning.specs.Interface.{Told, untold, flag, short_out, bound_told, relaxed_told, restricted_told}
use Rattle.meaning.proofs.Faultless.{HeadRange}
use Rattle.meaning.proofs.Rows.{refused_range}
use Rattle.problem.specs.Held.{held}
use Rattle.problem.proofs.Again.{accepted_held}
use Rattle.problem.proofs.Faultless.{right}
use Rattle.diagram.proofs.Refused.{width_right, numbers_right, short_arcs}
use Rattle.diagram.specs.Answers.{lent_of}
use Rattle.brennigou.specs.Out.{bound_out}
use Rattle.brennigou.proofs.Cells.{unless_yes}

-- n and m are in their ranges
abbrev pub Head : paper.Problem → Type 0
Head p = HeadRange (length p.sets) (length p.rules)

-- ---- two lists of refusals that agree: 8, 10, 11, then 9
module _ {X Y : Type 0} (tell : X → Y) (no : ℕ → X) (untold : ℕ → Y) (refusal : (k : ℕ) → tell (no (suc k)) ≡ untold (suc k)) where
  -- `short` and `few` are the tests of 11
  agree : (a b short few z : Bool) (x : X) (y : Y) → (a ≡ false → short ≡ few) → (a ≡ false → few ≡ false → y ≡ tell x)
      → unless (first_fault ((8, a) ∷ (10, b) ∷ (11, short) ∷ [])) untold (unless (first_fault ((9, z) ∷ [])) untold y)
      ≡ tell (unless (first_fault ((8, a) ∷ (10, b) ∷ (11, few) ∷ [])) no (unless (first_fault ((9, z) ∷ [])) no x))
  agree true b short few z x y h k = sym (refusal 7)
  agree false true short few z x y h k = sym (refusal 9)
  agree false false short true z x y h k = rw (h refl) (sym (refusal 10))
  agree false false short false true x y h k = rw (h refl) (sym (refusal 8))
  agree false false short false false x y h k = rw (h refl) (k refl refl)

  -- from a file
  module _ (f : List ℕ) (a : Bool) (b short few : Campaign → Bool) (zs : Campaign → List ℤ) (x : Campaign → X) (y : Campaign → Y) where
    pub calls_agree : ((p : paper.Problem) → Head p → a ≡ false → short (campaign p) ≡ few (campaign p))
        → ((p : paper.Problem) → Head p → a ≡ false → few (campaign p) ≡ false → y (campaign p) ≡ tell (x (campaign p)))
        → opened (read_of f) untold (λ q. unless (first_fault ((8, a) ∷ (10, b q) ∷ (11, short q) ∷ [])) untold (guarded (zs q) untold (y q)))
        ≡ tell (opened (read_of f) no (λ q. unless (first_fault ((8, a) ∷ (10, b q) ∷ (11, few q) ∷ [])) no (guarded (zs q) no (x q))))
    calls_agree h k = go (read_of f) refl
      where
        go : (g : Got paper.Problem) → read_of f ≡ g
            → opened g untold (λ q. unless (first_fault ((8, a) ∷ (10, b q) ∷ (11, short q) ∷ [])) untold (guarded (zs q) untold (y q)))
            ≡ tell (opened g no (λ q. unless (first_fault ((8, a) ∷ (10, b q) ∷ (11, few q) ∷ [])) no (guarded (zs q) no (x q))))
        go (refused zero) e = absurd (omega (arith, refused_range f 0 e))
        go (refused (suc j)) e = sym (refusal j)
        go (got p s) e =
            let q = campaign p in
            let head = (right version1 (held p) (accepted_held f p s e).1).head in
            agree a (b q) (short q) (few q) (leaves (zs q)) (x q) (y q) (h p head) (k p head)

-- ---- what is lent: all of a buffer, or nothing of it where `out` is too short
or_false : (t : Bool) → (t || false) ≡ t
or_false true = refl
or_false false = refl

or_true : (t : Bool) → (t || true) ≡ true
or_true true = refl
or_true false = refl

pub or_swap : (a b t : Bool) → ((a || b) || t) ≡ ((a || t) || b)
or_swap true b t = refl
or_swap false true t = sym (or_true t)
or_swap false false t = sym (or_false t)

pub or_right : (a b : Bool) → (a || b) ≡ false → b ≡ false
or_right true b e = absurd (true≢false e)
or_right false b e = e

some_need : (n w : ℕ) → 1 ≤ n → 1 ≤ w → 1 ≤ 8 * n * w
some_need n w h k = let eight : 1 ≤ 8 * n = omega arith in mul-pos eight k

all : (t : Bool) → t ≡ false → {n m : ℕ} → n ≡ cond t 0 m → n ≡ m
all t e h = rw e at h

-- of the arcs x bytes, of the cells y
abbrev pub part : Lent → ℕ → ℕ → Lent
part l x y = record { arcs = take x l.arcs; cells = take y l.cells; plan = l.plan }

module _ (l : Lent) (x y : ℕ) where
  module _ (t : Bool) (ex : x ≡ cond t 0 (length l.arcs)) (ey : y ≡ cond t 0 (length l.cells)) where
    pub part_all : t ≡ false → part l x y ≡ l
    part_all e = ap (λ (a : List ℕ). lent_of a (take y l.cells) l.plan) (take_all x l.arcs (omega (arith, all t e ex))) ∙ ap (λ (b : List ℤ). lent_of l.arcs b l.plan) (take_all y l.cells (omega (arith, all t e ey)))

    -- what is behind them
    pub rest_none : t ≡ false → (drop x l.arcs ≡ []) × (drop y l.cells ≡ [])
    rest_none e = (drop_of_length-le l.arcs {i = x} (omega (arith, all t e ex)), drop_of_length-le l.cells {i = y} (omega (arith, all t e ey)))

    -- 11: what is short stays short, and nothing is less than any need
    pub short_part : (p : paper.Problem) (w : ℕ) → 1 ≤ length p.sets → 1 ≤ w → (short_diagram (campaign p) w l || t) ≡ short_diagram (campaign p) w (part l x y)
    short_part p w h k = go t refl
      where
        go : (u : Bool) → t ≡ u → (short_diagram (campaign p) w l || u) ≡ short_diagram (campaign p) w (part l x y)
        go true e = or_true (short_diagram (campaign p) w l) ∙ sym (short_arcs (campaign p) w (part l x y) (rw (ex, e) (some_need (length p.sets) w h k)))
        go false e = or_false (short_diagram (campaign p) w l) ∙ sym (ap (short_diagram (campaign p) w) (part_all e))

  -- nothing was changed
  joined_part : record { arcs = take x l.arcs ++ drop x l.arcs; cells = take y l.cells ++ drop y l.cells; plan = l.plan } ≡ l
  joined_part = λ i. lent_of (take-append-drop x l.arcs i) (take-append-drop y l.cells i) l.plan

-- ---- a builder, with what stays behind the parts that it was lent
abbrev pub bound_tells : List ℤ → List ℕ → List ℤ → Done Bound → Told
bound_tells o a b d = record { number = d.answer.number; lent = record { arcs = d.lent.arcs ++ a; cells = d.lent.cells ++ b; plan = d.lent.plan }; out = bound_out o d.answer }

all_told : (o : List ℤ) (a : List ℕ) (b : List ℤ) (d : Done Bound) → a ≡ [] → b ≡ [] → d.answer.number ≡ 0 → bound_told d o ≡ bound_tells o a b d
all_told o a b d ea eb z =
    let arcs : d.lent.arcs ++ a ≡ d.lent.arcs = ap (λ (r : List ℕ). d.lent.arcs ++ r) ea ∙ append-nil d.lent.arcs in
    let cells : d.lent.cells ++ b ≡ d.lent.cells = ap (λ (r : List ℤ). d.lent.cells ++ r) eb ∙ append-nil d.lent.cells in
    let out = unless_yes (λ k. o) (padded (length o) (pos 0) (flag d.answer.present ∷ d.answer.bound ∷ flag d.answer.exact ∷ [])) z in
    sym (λ i. record { number = z i; lent = record { arcs = arcs i; cells = cells i; plan = d.lent.plan }; out = out i })

bound_number_lem : (z : Option ℤ) (t : Bool) → (bound_of z t).number ≡ 0
bound_number_lem none t = refl
bound_number_lem (some z) t = refl

module _ (o : List ℤ) (l : Lent) (x y : ℕ) (ex : x ≡ cond (short_out 3 o) 0 (length l.arcs)) (ey : y ≡ cond (short_out 3 o) 0 (length l.cells)) where
  abbrev t : Bool
  t = short_out 3 o

  abbrev tells : Done Bound → Told
  tells = bound_tells o (drop x l.arcs) (drop y l.cells)

  builder_told : (f : List ℕ) (a : Bool) (short few : Campaign → Bool) (zs : Campaign → List ℤ) (done : Campaign → Lent → Done Bound)
      → ((q : Campaign) (m : Lent) → (done q m).answer.number ≡ 0)
      → ((p : paper.Problem) → Head p → a ≡ false → (short (campaign p) || t) ≡ few (campaign p))
      → opened (read_of f) (untold l o) (λ q. unless (first_fault ((8, a) ∷ (11, short q || t) ∷ [])) (untold l o) (guarded (zs q) (untold l o) (bound_told (done q l) o)))
      ≡ tells (opened (read_of f) (no_bound (part l x y)) (λ q. unless (first_fault ((8, a) ∷ (11, few q) ∷ [])) (no_bound (part l x y)) (guarded (zs q) (no_bound (part l x y)) (done q (part l x y)))))
  builder_told f a short few zs done number same =
      calls_agree tells (no_bound (part l x y)) (untold l o) (λ k. ap (λ (m : Lent). untold m o (suc k)) (joined_part l x y)) f a (λ q. false) (λ q. short q || t) few zs (λ q. done q (part l x y)) (λ q. bound_told (done q l) o) same served
    where
      served : (p : paper.Problem) → Head p → a ≡ false → few (campaign p) ≡ false → bound_told (done (campaign p) l) o ≡ tells (done (campaign p) (part l x y))
      served p h e enough =
          let q = campaign p in
          let long = or_right (short q) t (same p h e ∙ enough) in
          let rest = rest_none l x y t ex ey long in
          ap (λ (m : Lent). bound_told (done q m) o) (sym (part_all l x y t ex ey long)) ∙ all_told o (drop x l.arcs) (drop y l.cells) (done q (part l x y)) rest.0 rest.1 (number q (part l x y))

  pub relaxed_told_lem : (f : List ℕ) (w n : ℕ) (c : ℤ) → relaxed_told f w n c l o ≡ tells (relaxed_call f w n c (part l x y))
  relaxed_told_lem f w n c =
      builder_told f (wrong_numbers w n c) (λ q. short_diagram q w l) (λ q. short_diagram q w (part l x y)) (λ q. relaxed_numbers q w n c) (λ q. relaxed_done q w n c)
      (λ q m. bound_number_lem (dual q w n c) (is_exact relaxed q w)) (λ p h e. short_part l x y t ex ey p w h.some (numbers_right w n c (ap not e)).0)

  pub restricted_told_lem : (f : List ℕ) (w : ℕ) → restricted_told f w l o ≡ tells (restricted_call f w (part l x y))
  restricted_told_lem f w =
      builder_told f (wrong_width w) (λ q. short_diagram q w l || short_plan q l) (λ q. short_diagram q w (part l x y) || short_plan q l) (λ q. restricted_numbers q w) (λ q. restricted_done q w)
      (λ q m. bound_number_lem (primal q w) (is_exact restricted q w))
      (λ p h e. or_swap (short_diagram (campaign p) w l) (short_plan (campaign p) l) t ∙ ap (λ u. u || short_plan (campaign p) l) (short_part l x y t ex ey p w h.some (width_right w (ap not e)).0))

  -- as the calls say it: d is what the operation does, b what it answers
  pub bound_told_lem : {T : Told} {d : Done Bound} → T ≡ tells d → {b : Bound} {arcs plan : List ℕ} {cells : List ℤ} → b ≡ d.answer → arcs ≡ d.lent.arcs → cells ≡ d.lent.cells → plan ≡ d.lent.plan
      → {k : ℕ} {out : List ℤ} → k ≡ b.number → out ≡ bound_out o b
      → (k ≡ T.number) × (arcs ++ drop x l.arcs ≡ T.lent.arcs) × (cells ++ drop y l.cells ≡ T.lent.cells) × (plan ≡ T.lent.plan) × (out ≡ T.out)
  bound_told_lem e eb ea ec ep ek eo = (
    ek ∙ ap (λ (b : Bound). b.number) eb ∙ ap (λ (u : Told). u.number) (sym e),
    ap (λ (r : List ℕ). r ++ drop x l.arcs) ea ∙ ap (λ (u : Told). u.lent.arcs) (sym e),
    ap (λ (r : List ℤ). r ++ drop y l.cells) ec ∙ ap (λ (u : Told). u.lent.cells) (sym e),
    ep ∙ ap (λ (u : Told). u.lent.plan) (sym e),
    eo ∙ ap (bound_out o) eb ∙ ap (λ (u : Told). u.out) (sym e),
  )
