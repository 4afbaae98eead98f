-- What is a page told, where `out` is too short or the page longer than an i32 can count?
use mathlib.Core.Path.{◌≡◌, refl, sym, ap, ◌∙◌}
use mathlib.Core.List.{List, [], ◌∷◌, ◌++◌, append-nil, append_assoc}
use mathlib.Core.Bool.{Bool, true, false, not, ◌||◌, cond}
use Prim.Native.Nat.{ℕ, zero, suc, ◌+◌, ◌-◌, ◌/◌, ◌≤◌}
use native.Mathlib.Nat.{mul-le-mul_right, div-mul-le_self, div-le_self}
use native.Mathlib.Omega.{arith}
use borrow.Author.Tests.{leb-false, le-ltb}
use lib.Dec.{ltb, leb}
use lib.ListN.{length, take, drop, replicate, length-append, length-take, length-drop, replicate-append-replicate, take-append-drop, drop_of_length-le}
use lib.Seq.{take_at, length-take-le}
use lib.IntN.{ℤ, pos}
use Rattle.laws.specs.Lists.{flat, padded}
use Rattle.laws.proofs.Each.{each_in, each_take}
use Rattle.laws.proofs.Filled.{padded_split, flat_long}
use Rattle.meaning.specs.Plan.{Campaign, slots}
use Rattle.meaning.specs.Problem.{campaign, first_fault}
use Rattle.meaning.specs.Problem as paper
use Rattle.meaning.specs.Filter.{relaxed_arcs}
use Rattle.meaning.specs.Buffers.{arc_bytes, number_cells}
use Rattle.meaning.specs.Page.{listed, page, page_bytes}
use Rattle.meaning.specs.File.{Got, refused, got, read_of}
use Rattle.meaning.specs.Running.{leaves, relaxed_numbers}
use Rattle.meaning.specs.Calls.{Lent, Count, Done, unless, opened, wrong_numbers, wrong_start, short_diagram, short_plan, no_count, page_done, page_fault, page_on, page_call}
use Rattle.meaning.specs.Interface.{Told, untold, flag, short_out, most_page, used_page, page_served, page_told}
use Rattle.meaning.proofs.Order.{lawful_allowed, allowed_length}
use Rattle.meaning.proofs.Pages.{listed_are}
use Rattle.diagram.proofs.Refused.{numbers_right}
use Rattle.diagram.specs.Answers.{lent_of}
use Rattle.brennigou.proofs.Cells.{unless_no, unless_yes}
use Rattle.brennigou.proofs.Lent.{Head, calls_agree, part, part_all, rest_none, short_part, or_right, or_swap}

-- ---- a page: of its bytes u are used, and the rest is zero
abbrev pub page_tells : List ℤ → List ℕ → List ℤ → List ℕ → ℕ → Done Count → Told
page_tells o a b page u d =
    let k = d.answer.number in
    record {
      number = k;
      lent = record { arcs = d.lent.arcs ++ a; cells = d.lent.cells ++ b; plan = d.lent.plan ++ unless k (λ j. drop u page) (replicate (length page - u) 0) };
      out = unless k (λ j. o) (padded (length o) (pos 0) (pos d.answer.count ∷ flag d.answer.more ∷ []));
    }

-- the used bytes of the page, and no more
abbrev pub used : Lent → ℕ → Lent
used l u = record { arcs = l.arcs; cells = l.cells; plan = take u l.plan }

-- n is at most 24, so the used bytes are too few exactly if all are
used_few : (z n : ℕ) → n ≤ 24 → ltb z n ≡ ltb (used_page z) n
used_few z n h = go (leb z most_page) refl
  where
    go : (t : Bool) → leb z most_page ≡ t → ltb z n ≡ ltb (cond t z most_page) n
    go true e = refl
    go false e = le-ltb z n (omega (arith, leb-false z most_page e)) ∙ sym (le-ltb most_page n (omega arith))

-- bytes that stand within the first u
zeros_behind : (b : List ℕ) (u z : ℕ) → length b ≤ u → u ≤ z → padded z 0 b ≡ padded u 0 b ++ replicate (z - u) 0
zeros_behind b u z h k =
    let rest : (u - length b) + (z - u) ≡ z - length b = omega arith in
    padded_split z 0 b (omega arith) ∙ ap (λ n. b ++ replicate n 0) (sym rest) ∙ ap (λ r. b ++ r) (sym (replicate-append-replicate (u - length b) (z - u) 0)) ∙ sym (append_assoc b (replicate (u - length b) 0) (replicate (z - u) 0)) ∙ ap (λ r. r ++ replicate (z - u) 0) (sym (padded_split u 0 b h))

-- the plans written stand within the used bytes
module _ (q : Campaign) (c : ℤ) (s : List ℕ) (u : ℕ) where
  abbrev written : List (List ℕ)
  written = take (u / slots q) (listed q c s)

  written_long : length (flat written) ≤ u
  written_long =
      let k = u / slots q in
      let few : length written ≤ k = omega (arith, length-take k (listed q c s)) in
      let long = each_in (λ p. length p ≡ slots q) (listed q c s) (λ p i. allowed_length q.steps q.sets p (lawful_allowed q p (listed_are q c s p i).0)) in
      omega (arith, flat_long (slots q) written (each_take (λ p. length p ≡ slots q) k (listed q c s) long), mul-le-mul_right (slots q) few, div-mul-le_self u (slots q))

  pub written_few : length written ≤ u
  written_few = omega (arith, length-take (u / slots q) (listed q c s), div-le_self u (slots q))

module _ (o : List ℤ) (l : Lent) (x y u : ℕ) (ex : x ≡ cond (short_out 2 o) 0 (length l.arcs)) (ey : y ≡ cond (short_out 2 o) 0 (length l.cells)) (eu : u ≡ used_page (length l.plan)) (most : u ≤ length l.plan) where
  abbrev z : ℕ
  z = length l.plan

  abbrev page_tells_of : Done Count → Told
  page_tells_of = page_tells o (drop x l.arcs) (drop y l.cells) l.plan u

  used_long : length (take u l.plan) ≡ u
  used_long = length-take-le u l.plan most

  -- with all of the arcs and the cells
  page_served_lem : (q : Campaign) (w n : ℕ) (c : ℤ) (s : List ℕ) → drop x l.arcs ≡ [] → drop y l.cells ≡ [] → page_served q w n c s l o ≡ page_tells_of (page_done q w n c s (used l u))
  page_served_lem q w n c s ea eb =
      let a = relaxed_arcs q w n c in
      let v = length (take u l.plan) in
      let uses : used_page z ≡ v = sym (used_long ∙ eu) in
      let arcs : arc_bytes q w (length l.arcs) a ≡ arc_bytes q w (length l.arcs) a ++ drop x l.arcs = sym (ap (λ (r : List ℕ). arc_bytes q w (length l.arcs) a ++ r) ea ∙ append-nil (arc_bytes q w (length l.arcs) a)) in
      let cells : number_cells q w (length l.cells) a ≡ number_cells q w (length l.cells) a ++ drop y l.cells = sym (ap (λ (r : List ℤ). number_cells q w (length l.cells) a ++ r) eb ∙ append-nil (number_cells q w (length l.cells) a)) in
      let bytes : page_bytes z (page q c (used_page z / slots q) s) ≡ page_bytes v (page q c (v / slots q) s) ++ replicate (z - u) 0 = ap (λ (k : ℕ). page_bytes z (page q c (k / slots q) s)) uses ∙ zeros_behind (flat (written q c s v)) v z (written_long q c s v) (omega (arith, used_long)) ∙ ap (λ (k : ℕ). page_bytes v (page q c (v / slots q) s) ++ replicate (z - k) 0) used_long in
      λ i. record {
        number = 0;
        lent = record { arcs = arcs i; cells = cells i; plan = bytes i };
        out = padded (length o) (pos 0) (pos (length (page q c (uses i / slots q) s).written) ∷ flag (page q c (uses i / slots q) s).more ∷ []);
      }

  pub page_told_lem : (f : List ℕ) (w n : ℕ) (c : ℤ) (s : List ℕ) → page_told f w n c s l o ≡ page_tells_of (page_call f w n c s (part (used l u) x y))
  page_told_lem f w n c s =
      calls_agree page_tells_of (no_count (part (used l u) x y)) (untold l o) nothing f (wrong_numbers w n c) (λ q. wrong_start q s) (λ q. (short_diagram q w l || short_plan q l) || short_out 2 o) (λ q. short_diagram q w (part (used l u) x y) || short_plan q (part (used l u) x y)) (λ q. relaxed_numbers q w n c) (λ q. page_done q w n c s (part (used l u) x y)) (λ q. page_served q w n c s l o) same served
    where
      nothing : (k : ℕ) → page_tells_of (no_count (part (used l u) x y) (suc k)) ≡ untold l o (suc k)
      nothing k = λ i. untold (lent_of (take-append-drop x l.arcs i) (take-append-drop y l.cells i) (take-append-drop u l.plan i)) o (suc k)

      same : (p : paper.Problem) → Head p → wrong_numbers w n c ≡ false → ((short_diagram (campaign p) w l || short_plan (campaign p) l) || short_out 2 o) ≡ (short_diagram (campaign p) w (part (used l u) x y) || short_plan (campaign p) (part (used l u) x y))
      same p h e =
          let q = campaign p in
          let parts = short_part (used l u) x y (short_out 2 o) ex ey p w h.some (numbers_right w n c (ap not e)).0 in
          let fewer : short_plan q l ≡ short_plan q (used l u) = used_few z (slots q) h.most ∙ ap (λ (k : ℕ). ltb k (slots q)) (sym (used_long ∙ eu)) in
          or_swap (short_diagram q w l) (short_plan q l) (short_out 2 o) ∙ (λ i. parts i || fewer i)

      served : (p : paper.Problem) → Head p → wrong_numbers w n c ≡ false → (short_diagram (campaign p) w (part (used l u) x y) || short_plan (campaign p) (part (used l u) x y)) ≡ false → page_served (campaign p) w n c s l o ≡ page_tells_of (page_done (campaign p) w n c s (part (used l u) x y))
      served p h e enough =
          let q = campaign p in
          let long = or_right (short_diagram q w l || short_plan q l) (short_out 2 o) (same p h e ∙ enough) in
          let rest = rest_none (used l u) x y (short_out 2 o) ex ey long in
          page_served_lem q w n c s rest.0 rest.1 ∙ ap (λ (m : Lent). page_tells_of (page_done q w n c s m)) (sym (part_all (used l u) x y (short_out 2 o) ex ey long))

  -- as the calls say it: d is what the operation does, r what it answers
  module _ {T : Told} {d : Done Count} (e : T ≡ page_tells_of d) {r : Count} (er : r ≡ d.answer) {arcs plan : List ℕ} {cells : List ℤ} (ea : arcs ≡ d.lent.arcs) (eb : cells ≡ d.lent.cells) (ep : plan ≡ d.lent.plan) where
    number : r.number ≡ T.number
    number = ap (λ (c : Count). c.number) er ∙ ap (λ (v : Told). v.number) (sym e)

    diagram : (arcs ++ drop x l.arcs ≡ T.lent.arcs) × (cells ++ drop y l.cells ≡ T.lent.cells)
    diagram = (ap (λ (b : List ℕ). b ++ drop x l.arcs) ea ∙ ap (λ (v : Told). v.lent.arcs) (sym e), ap (λ (b : List ℤ). b ++ drop y l.cells) eb ∙ ap (λ (v : Told). v.lent.cells) (sym e))

    bytes : plan ++ unless r.number (λ k. drop u l.plan) (replicate (z - u) 0) ≡ T.lent.plan
    bytes = (λ i. ep i ++ unless (er i).number (λ k. drop u l.plan) (replicate (z - u) 0)) ∙ ap (λ (v : Told). v.lent.plan) (sym e)

    out : unless r.number (λ k. o) (padded (length o) (pos 0) (pos r.count ∷ flag r.more ∷ [])) ≡ T.out
    out = ap (λ (c : Count). unless c.number (λ k. o) (padded (length o) (pos 0) (pos c.count ∷ flag c.more ∷ []))) er ∙ ap (λ (v : Told). v.out) (sym e)

    pub page_no : (r.number ≡ 0 → ⊥) → (r.number ≡ T.number) × (arcs ++ drop x l.arcs ≡ T.lent.arcs) × (cells ++ drop y l.cells ≡ T.lent.cells) × (plan ++ drop u l.plan ≡ T.lent.plan) × (o ≡ T.out)
    page_no f = (
      number,
      diagram.0,
      diagram.1,
      ap (λ (b : List ℕ). plan ++ b) (sym (unless_no (λ k. drop u l.plan) (replicate (z - u) 0) r.number f)) ∙ bytes,
      sym (unless_no (λ k. o) (padded (length o) (pos 0) (pos r.count ∷ flag r.more ∷ [])) r.number f) ∙ out,
    )

    pub page_yes : r.number ≡ 0 → (0 ≡ T.number) × (arcs ++ drop x l.arcs ≡ T.lent.arcs) × (cells ++ drop y l.cells ≡ T.lent.cells) × (plan ++ replicate (z - u) 0 ≡ T.lent.plan) × (padded (length o) (pos 0) (pos r.count ∷ flag r.more ∷ []) ≡ T.out)
    page_yes h = (
      sym h ∙ number,
      diagram.0,
      diagram.1,
      ap (λ (b : List ℕ). plan ++ b) (sym (unless_yes (λ k. drop u l.plan) (replicate (z - u) 0) h)) ∙ bytes,
      sym (unless_yes (λ k. o) (padded (length o) (pos 0) (pos r.count ∷ flag r.more ∷ [])) h) ∙ out,
    )

-- the part behind the used bytes, zeroed in its place
pub zeroed_rest : (b page zs : List ℕ) (u : ℕ) → length b ≡ u → u ≤ length page
    → zs ≡ replicate (length (take (length (b ++ drop u page) - u) (drop u (b ++ drop u page)))) 0
    → take u (b ++ drop u page) ++ (zs ++ drop (length (b ++ drop u page) - u) (drop u (b ++ drop u page))) ≡ b ++ replicate (length page - u) 0
zeroed_rest b page zs u long most zeros =
    let h = b ++ drop u page in
    let k = length h - u in
    let left : k ≡ length page - u = omega (arith, length-append b (drop u page), length-drop u page, long, most) in
    let gone : drop k (drop u h) ≡ [] = drop_of_length-le (drop u h) {i = k} (omega (arith, length-drop u h)) in
    let count : length (take k (drop u h)) ≡ k = length-take-le k (drop u h) (omega (arith, length-drop u h)) in
    let rest : zs ++ drop k (drop u h) ≡ replicate (length page - u) 0 = ap (λ (l : List ℕ). zs ++ l) gone ∙ append-nil zs ∙ zeros ∙ ap (λ (j : ℕ). replicate j 0) (count ∙ left) in
    λ i. take_at b (drop u page) u long i ++ rest i

-- a page counts no more plans than its buffer has bytes
pub page_count : (f : List ℕ) (w n : ℕ) (c : ℤ) (s : List ℕ) (l : Lent) → (page_call f w n c s l).answer.count ≤ length l.plan
page_count f w n c s l = go (read_of f)
  where
    kept : (d : Done Count) → d.answer.count ≤ length l.plan → (k : ℕ) → (unless k (no_count l) d).answer.count ≤ length l.plan
    kept d h zero = h
    kept d h (suc k) = omega arith

    go : (g : Got paper.Problem) → (opened g (no_count l) (λ q. page_on q w n c s l)).answer.count ≤ length l.plan
    go (refused k) = omega arith
    go (got p r) =
        let q = campaign p in
        let done = page_done q w n c s l in
        let nine = first_fault ((9, leaves (relaxed_numbers q w n c)) ∷ []) in
        kept (unless nine (no_count l) done) (kept done (written_few q c s (length l.plan)) nine) (page_fault q w n c s l)
