-- What does the closing sweep of any arcs of the form leave in the buffers, and does the walk find the same there?
use mathlib.Core.Path.{◌≡◌, refl, sym, ap, subst, ◌∙◌}
use mathlib.Core.List.{List, [], ◌∷◌}
use Prim.Native.Nat.{ℕ, suc, ◌+◌, ◌*◌, ◌≤◌, ◌<◌}
use native.Mathlib.Omega.{arith}
use lib.ListN.{length, get_or, take, length-take}
use lib.IntN.{ℤ, pos}
use Rattle.laws.specs.Lists.{padded}
use Rattle.laws.proofs.Lists.{keep_agree}
use Rattle.laws.proofs.Each.{Each, each_take}
use Rattle.laws.proofs.Filled.{padded_full}
use Rattle.meaning.specs.Plan.{Campaign}
use Rattle.meaning.specs.Problem.{version1}
use Rattle.meaning.specs.Diagram.{Arcs}
use Rattle.meaning.specs.Filter.{down_numbers, up_numbers, on_path, swept}
use Rattle.meaning.specs.Bound.{is_path}
use Rattle.meaning.specs.Buffers.{node_need, arcs_in, all_cells, number_cells}
use Rattle.meaning.specs.Page.{listed, walked, page_of, page_bytes}
use Rattle.meaning.proofs.Drops.{OneSource}
use Rattle.problem.specs.declared.Problem.{Problem}
use Rattle.problem.specs.Held.{campaign_of}
use Rattle.problem.proofs.Faultless.{right}
use Rattle.lent.specs.Wide.{wide, laid, Sized}
use Rattle.lent.proofs.Wide.{wide_cells, wide_walks}
use Rattle.lent.proofs.Swept.{swept_cells}
use Rattle.lent.proofs.Shape.{Form, Shaped, form_of, drops_shaped}
use Rattle.lent.proofs.Whole.{Whole}
use Rattle.numbers.specs.Whole.{Ready, Formed}
use Rattle.numbers.proofs.Passes.{setting}
use Rattle.numbers.proofs.Held.{held_arcs, held_formed}
use Rattle.step.specs.declared.Listed.{Listed}
use Rattle.step.specs.Answers.{listed_as}
use Rattle.walk.proofs.Rests.{walked-swept}
use Rattle.walk.proofs.Steered.{slots_are, cells_count}

-- ---- no path begins but at the source, the first node: without the others of its layer the sweep leaves the same, and so are the numbers
abbrev single : Arcs → Arcs
single [] = []
single (l ∷ ls) = take 1 l ∷ ls

single_swept : (q : Campaign) (a : Arcs) → swept q (single a) ≡ swept q a
single_swept q [] = refl
single_swept q ([] ∷ ls) = refl
single_swept q ((bs ∷ []) ∷ ls) = refl
single_swept q ((bs ∷ cs ∷ l) ∷ ls) = refl

single_cells : (k w : ℕ) (q : Campaign) (a : Arcs) → all_cells k w (down_numbers q (single a)) (up_numbers q (single a)) ≡ all_cells k w (down_numbers q a) (up_numbers q a)
single_cells k w q [] = refl
single_cells k w q ([] ∷ ls) = refl
single_cells k w q ((bs ∷ l) ∷ ls) = refl

single_source : (a : Arcs) → OneSource (single a)
single_source [] = tt
single_source (l ∷ ls) = omega (arith, length-take 1 l)

single_long : (a : Arcs) → length (single a) ≡ length a
single_long [] = refl
single_long (l ∷ ls) = refl

single_sized : (k w : ℕ) (a : Arcs) → Sized k w a → Sized k w (single a)
single_sized k w [] h = tt
single_sized k w (l ∷ ls) h = ((omega (arith, length-take 1 l, h.0.0), each_take (λ bs. length bs ≡ k) 1 l h.0.1), h.1)

single_form : (w : ℕ) (a : Arcs) → Form w a → Form w (single a)
single_form w [] h = tt
single_form w (l ∷ []) h = each_take (Each (λ b. b ≤ 1)) 1 l h
single_form w (l ∷ m ∷ ls) h = (each_take (Each (λ b. b ≤ w)) 1 l h.0, h.1)

-- what stands at each place holds of each
each_places : {A : Type 0} (P : A → Type 0) (d : A) (l : List A) → ((j : ℕ) → j < length l → P (get_or l j d)) → Each P l
each_places P d [] h = tt
each_places P d (x ∷ l) h = (h 0 (omega arith), each_places P d l (λ j b. h (suc j) (omega arith)))

whole_sized : {w : ℕ} {a : Arcs} → Whole w a → Sized 8 w a
whole_sized {w} {a} f = each_places (λ l. (length l ≤ w) × Each (λ bs. length bs ≡ 8) l) [] a (λ j b. (omega (arith, (f.full j b).long), (f.full j b).bytes))

-- ---- the buffers behind the sweep of bytes of the form
module _ {p : Problem} {w : ℕ} {arcs : List ℕ} (r : Ready p w) (sets : length p.sets ≡ 24) (f : Formed (campaign_of p) w arcs) where
  abbrev before : Arcs
  before = arcs_in (campaign_of p) w arcs

  shaped : Shaped (campaign_of p) w (swept (campaign_of p) before)
  shaped =
      let q = campaign_of p in
      let s = setting r f sets in
      subst (Shaped q w) (single_swept q before)
      (drops_shaped on_path q w (single before) (record {
        sized = single_sized 8 w before (whole_sized s.whole);
        long = single_long before ∙ s.count ∙ sym (slots_are (right version1 p r.right) sets);
        one = single_source before;
        form = single_form w before (form_of w before f.form);
      }))

  module _ {b : List ℕ} (is : b ≡ laid 8 w (swept (campaign_of p) before)) where
    -- the bytes hold the arcs that are left
    behind : arcs_in (campaign_of p) w b ≡ wide 8 w (swept (campaign_of p) before)
    behind = held_arcs (campaign_of p) w (swept (campaign_of p) before) shaped b is

    -- they are of the form
    pub formed : Formed (campaign_of p) w b
    formed = held_formed (campaign_of p) w (swept (campaign_of p) before) shaped b is

    -- their numbers are those of the arcs before
    pub same_cells : {x : List ℤ} → x ≡ all_cells (node_need (campaign_of p)) w (down_numbers (campaign_of p) before) (up_numbers (campaign_of p) before)
        → x ≡ all_cells (node_need (campaign_of p)) w (down_numbers (campaign_of p) (arcs_in (campaign_of p) w b)) (up_numbers (campaign_of p) (arcs_in (campaign_of p) w b))
    same_cells e =
        let q = campaign_of p in
        let k = node_need q in
        let z = suc p.slots * (w * (4 * p.rules + 3)) in
        e ∙ sym (padded_full z (pos 0) (all_cells k w (down_numbers q before) (up_numbers q before)) (cells_count (setting r f sets)))
        ∙ ap (padded z (pos 0)) (sym (single_cells k w q before)) ∙ sym (swept_cells q w z (single before) (single_source before))
        ∙ ap (number_cells q w z) (single_swept q before) ∙ sym (wide_cells q 8 w z (swept q before) shaped.sized) ∙ ap (number_cells q w z) (sym behind)
        ∙ padded_full z (pos 0) (all_cells k w (down_numbers q (arcs_in q w b)) (up_numbers q (arcs_in q w b))) (cells_count (setting r formed sets))

    -- and the walk finds the same, under a ceiling that is the same
    module _ {z c : ℤ} (same : z ≡ c) (start : List ℕ) where
      same_walk : walked (arcs_in (campaign_of p) w b) (campaign_of p) z start ≡ walked before (campaign_of p) c start
      same_walk =
          let q = campaign_of p in
          let left = swept q before in
          (λ t. walked (behind t) q (same t) start)
          ∙ keep_agree (is_path (wide 8 w left)) (is_path left) (listed q c start) (λ p i. wide_walks 8 w left shaped.sized 0 p) ∙ walked-swept q before c start

      pub same_answer : (k : ℕ) {x : Listed} → x ≡ listed_as (page_of k (walked (arcs_in (campaign_of p) w b) (campaign_of p) z start)) → x ≡ listed_as (page_of k (walked before (campaign_of p) c start))
      same_answer k e = e ∙ ap (λ (ps : List (List ℕ)). listed_as (page_of k ps)) same_walk

      pub same_page : (n k : ℕ) {x : List ℕ} → x ≡ page_bytes n (page_of k (walked (arcs_in (campaign_of p) w b) (campaign_of p) z start)) → x ≡ page_bytes n (page_of k (walked before (campaign_of p) c start))
      same_page n k e = e ∙ ap (λ (ps : List (List ℕ)). page_bytes n (page_of k ps)) same_walk
