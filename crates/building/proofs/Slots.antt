-- What has a loop over the slots built after i of them, and what does one slot more build?
use mathlib.Core.Path.{◌≡◌, refl, sym, ap, ◌∙◌, subst}
use mathlib.Core.List.{List, [], ◌∷◌, ◌++◌, map, map-append, append_assoc, append-nil}
use mathlib.Core.Bool.{Bool, true, false, ◌&&◌, ◌||◌, cond, true≢false}
use mathlib.Core.Option
use mathlib.Core.Option.{Option}
use Prim.Native.Nat.{ℕ, zero, suc, min, ◌+◌, ◌*◌, ◌-◌, ◌≤◌, ◌<◌}
use native.Mathlib.Nat.{mul_assoc, mul_comm}
use native.Mathlib.Numerals.{add-one}
use native.Mathlib.Omega.{arith}
use borrow.Author.Tests.{ne_eqb, le-leb}
use lib.Dec.{leb, eqb, eqb-suc-suc}
use lib.ListN.{length, get_or, take, drop, replicate, length-map, length-append, drop_of_length-le}
use lib.Seq.{paste, drop-cons, get_or-append_seam, drop-append-add}
use lib.IntN.{ℤ, pos}
use Rattle.laws.specs.Z.{Within}
use Rattle.laws.specs.Lists.{every, flat, from, padded, parted}
use Rattle.laws.proofs.Each.{Each, each_map}
use Rattle.laws.proofs.Filled.{length-padded, each_padded, padded_none, padded_paste, padded_split, gather_more}
use Rattle.meaning.specs.Plan.{Rule, Campaign, slots}
use Rattle.meaning.specs.Diagram.{State, reaches, Node, first_appearance, arrivals, starts, Builder, relaxed, arc_byte, states, nodes_of, Layer, layers, source, layers_of, Arcs, narrow, is_exact, built}
use Rattle.meaning.specs.Filter.{Numbers, down_at, node_count}
use Rattle.meaning.specs.Buffers.{arcs_need, arc_bytes}
use Rattle.lent.specs.Small.{Small}
use Rattle.lent.specs.Vec.{slot_vec, row_vec}
use Rattle.lent.specs.Passes.{Row}
use Rattle.lent.specs.Wide.{wide, laid, Sized}
use Rattle.lent.proofs.Whole.{downs_at, down_first, down_next}
use Rattle.lent.proofs.Stated.{Stated, next_stated}
use Rattle.lent.proofs.Wide.{built_sized, built_long, laid_long, flat_parted}
use Rattle.state.specs.Pairs.{Inside, lessened}
use Rattle.state.proofs.Padded.{bounds_of}
use Rattle.state.proofs.Joined.{no_pair}
use Rattle.classes.specs.Classes.{Held, Totalled, arrival_at}
use Rattle.rows.proofs.Laid.{place_in, part_is, put, put_pastes}
use Rattle.building.specs.Layers.{Made}
use Rattle.building.proofs.Filled.{fill}
use Rattle.building.proofs.Lists.{each_left, each_right, every_more, padded_behind, flat-padded}
use Rattle.building.proofs.Children.{Nodes, nodes_held, nodes_totalled, arrivals_at}
use Rattle.building.proofs.Layers.{layer_at, next_nodes, layers_next, arcs_long, none_left, Stands, layer_stands, next_totals, next_count}

-- the arcs of some layers
abbrev arcs_of : List Layer → Arcs
arcs_of ls = map (λ l. l.arcs) ls

-- all arcs as they will stand in the buffer, w nodes to a layer
abbrev pub all_arcs : Builder → Campaign → ℕ → Arcs
all_arcs b q w = wide 8 w (built b q w)

-- the layers done, and the n nodes that stand before slot i, whose down numbers have their states; e says whether all were narrow, z is the number of bytes
pub record Building (b : Builder) (q : Campaign) (w z : ℕ) (arcs : List ℕ) (n : ℕ) (e : Bool) (i : ℕ) : Type 0 where
  pub done : List Layer
  pub ns : List Node
  pub is : layers_of b q w ≡ done ++ layers b first_appearance q w i ns (drop i q.sets)
  pub count : length done ≡ i
  pub totals : Nodes q (7000 * i) ns
  pub nodes : i < slots q → n ≡ length ns
  pub stated : Stated (downs_at q (all_arcs b q w) i) ns
  pub bytes : arcs ≡ padded z 0 (laid 8 w (arcs_of done))
  pub exact : e ≡ every (narrow w) done

-- ---- before the first slot
module _ (b : Builder) (q : Campaign) (small : Small q) (w : ℕ) where
  pub building_start : (z : ℕ) (arcs : List ℕ) → arcs ≡ replicate z 0 → Building b q w z arcs 1 true 0
  building_start z arcs e = record {
    done = [];
    ns = source q;
    is = refl;
    count = refl;
    totals = (record { long = length-map q.rules (λ r. (r.start, r.start)); inside = starts_inside }, tt);
    nodes = λ h. refl;
    stated = rw (down_first q (all_arcs b q w)) (refl, tt);
    bytes = e ∙ sym (padded_none 0 z);
    exact = refl;
  }
    where
      own : (r : Rule) → r.start ≡ pos 0 → Within 0 r.start × Within 0 r.start
      own r k = let z : Within 0 r.start = rw k (record { size = omega arith }) in (z, z)

      starts_inside : Inside 0 (starts q.rules)
      starts_inside = each_map (λ r. r.start ≡ pos 0) (λ p. Within 0 p.0 × Within 0 p.1) (λ r. (r.start, r.start)) own q.rules small.starts

-- ---- one layer more
laid_more : (w : ℕ) (ls : List Layer) (l : Layer) → laid 8 w (arcs_of (ls ++ l ∷ [])) ≡ laid 8 w (arcs_of ls) ++ flat (padded w (replicate 8 0) l.arcs)
laid_more w ls l =
    let f : List (List ℕ) → List ℕ = λ a. flat (padded w (replicate 8 0) a) in
    ap (λ a. flat (map f a)) (map-append (λ (k : Layer). k.arcs) ls (l ∷ [])) ∙ ap flat (map-append f (arcs_of ls) (l.arcs ∷ [])) ∙ gather_more (λ r. r) (map f (arcs_of ls)) (f l.arcs)

-- ---- the sets behind slot i
last_left : (l : List ℕ) (k : ℕ) → k ≤ length l → eqb k (length l) ≡ none_left (drop k l)
last_left [] zero h = refl
last_left [] (suc k) h = absurd (omega arith)
last_left (x ∷ l) zero h = ne_eqb 0 (suc (length l)) (λ e. absurd (omega arith))
last_left (x ∷ l) (suc k) h = eqb-suc-suc k (length l) ∙ last_left l k (omega arith)

-- what a layer makes of the same
made_same : {one : Builder} {k : ℕ} {xs ys : List (Option Node)} {part₀ part₁ part : List ℕ} {count : ℕ} → xs ≡ ys → part₀ ≡ part₁ → Made one k xs part₀ part count → Made one k ys part₁ part count
made_same {one} {k} {xs} {ys} {part₀} {part₁} {part} {count} ex ep m = subst (λ l. Made one k ys l part count) ep (subst (λ l. Made one k l part₀ part count) ex m)

module _ {b : Builder} {q : Campaign} {w z : ℕ} {arcs : List ℕ} {n : ℕ} {e : Bool} {i : ℕ} (p : Building b q w z arcs n e i) (small : Small q) where
  -- after the last slot
  pub building_end : slots q ≤ i → (arcs ≡ arc_bytes q w z (built b q w)) × (e ≡ is_exact b q w)
  building_end h =
      let none : drop i q.sets ≡ [] = drop_of_length-le q.sets {i = i} h in
      let all : p.done ≡ layers_of b q w = sym (p.is ∙ ap (λ ss. p.done ++ layers b first_appearance q w i p.ns ss) none ∙ append-nil p.done) in
      let steps : 8 ≡ q.steps = sym small.steps in
      (p.bytes ∙ (λ d. padded z 0 (laid (steps d) w (arcs_of (all d)))), p.exact ∙ ap (every (narrow w)) all)

  module _ (h : i < slots q) (wide : 1 ≤ w) (narrow_enough : w ≤ 16) where
    abbrev set : ℕ
    set = get_or q.sets i 0

    abbrev behind : List ℕ
    behind = drop (suc i) q.sets

    abbrev layer : Layer
    layer = layer_at b q w i p.ns set behind

    abbrev after : List Node
    after = next_nodes b q w i p.ns set behind

    abbrev others : List Layer
    others = layers b first_appearance q w (suc i) after behind

    -- the layer of slot i comes next
    next_is : layers_of b q w ≡ p.done ++ layer ∷ others
    next_is =
        p.is
        ∙ ap (λ ss. p.done ++ layers b first_appearance q w i p.ns ss) (drop-cons q.sets i 0 h)
        ∙ ap (λ ls. p.done ++ ls) (layers_next b q w i p.ns set behind)

    sizes : Sized 8 w (arcs_of p.done ++ layer.arcs ∷ arcs_of others)
    sizes =
        rw (map-append (λ (l : Layer). l.arcs) p.done (layer ∷ others)) at
        (subst (λ k. Sized k w (arcs_of (p.done ++ layer ∷ others))) small.steps (subst (λ ls. Sized q.steps w (arcs_of ls)) next_is (built_sized b q w wide)))

    abbrev OneSized : List (List ℕ) → Type 0
    OneSized l = (length l ≤ w) × Each (λ bs. length bs ≡ 8) l

    layer_sized : OneSized layer.arcs
    layer_sized = (each_right OneSized (arcs_of p.done) (layer.arcs ∷ arcs_of others) sizes).0

    few : length p.ns ≤ 16
    few = omega (arith, layer_sized.0, arcs_long b q w i p.ns set behind)

    abbrev downs_here : List Numbers
    downs_here = downs_at q (all_arcs b q w) i

    -- what `find` asks for
    pub building_held : (here row : List ℤ) → here ≡ row_vec downs_here → Row here → row ≡ slot_vec q i → Held here row × Totalled here n
    building_held here row eh r f =
        let held = nodes_held q small i p.ns few (7000 * i) p.totals downs_here p.stated in
        let totalled = nodes_totalled q small i p.ns few (7000 * i) p.totals downs_here p.stated (omega (arith, small.slots)) in
        rw (f, eh, p.nodes h) (held (rw eh at r), totalled)

    pub building_few : n ≤ w
    building_few = omega (arith, p.nodes h, layer_sized.0, arcs_long b q w i p.ns set behind)

    done_long : length (laid 8 w (arcs_of p.done)) ≡ i * (w * 8)
    done_long =
        laid_long 8 w (arcs_of p.done) (each_left OneSized (arcs_of p.done) (layer.arcs ∷ arcs_of others) sizes)
        ∙ ap (λ k. k * (w * 8)) (length-map p.done (λ l. l.arcs) ∙ p.count)

    part_long : length (flat (padded w (replicate 8 0) layer.arcs)) ≡ w * 8
    part_long = ap length (flat-padded 0 w 8 layer.arcs layer_sized.0 layer_sized.1) ∙ length-padded 0 (w * 8) (flat layer.arcs)

    -- ---- the layer among all arcs
    abbrev filled_up : List (List ℕ) → List (List ℕ)
    filled_up l = padded w (replicate 8 0) l

    all_are : all_arcs b q w ≡ map filled_up (arcs_of p.done) ++ filled_up layer.arcs ∷ map filled_up (arcs_of others)
    all_are =
        ap (λ ls. map filled_up (arcs_of ls)) next_is
        ∙ ap (map filled_up) (map-append (λ (l : Layer). l.arcs) p.done (layer ∷ others))
        ∙ map-append filled_up (arcs_of p.done) (layer.arcs ∷ arcs_of others)

    before_long : length (map filled_up (arcs_of p.done)) ≡ i
    before_long = length-map (arcs_of p.done) filled_up ∙ length-map p.done (λ l. l.arcs) ∙ p.count

    pub all_at : get_or (all_arcs b q w) i [] ≡ filled_up layer.arcs
    all_at =
        ap (λ k. get_or (all_arcs b q w) k []) (sym before_long)
        ∙ ap (λ a. get_or a (length (map filled_up (arcs_of p.done))) []) all_are
        ∙ get_or-append_seam (map filled_up (arcs_of p.done)) (filled_up layer.arcs) (map filled_up (arcs_of others)) []

    all_behind : drop (suc i) (all_arcs b q w) ≡ map filled_up (arcs_of others)
    all_behind =
        let l = map filled_up (arcs_of p.done) in
        let r = filled_up layer.arcs ∷ map filled_up (arcs_of others) in
        ap (drop (suc i)) all_are
        ∙ ap (λ k. drop k (l ++ r)) (sym (add-one i) ∙ ap (λ k. k + 1) (sym before_long))
        ∙ drop-append-add l r 1

    all_long : length (all_arcs b q w) ≡ slots q
    all_long = length-map (built b q w) filled_up ∙ built_long b q w

    -- a layer that comes has w nodes
    count_next : (ms : List Node) (t : ℕ) (ss : List ℕ) → node_count (map filled_up (arcs_of (layers b first_appearance q w (suc i) ms (t ∷ ss)))) ≡ w
    count_next ms t ss =
        ap (λ ls. node_count (map filled_up (arcs_of ls))) (layers_next b q w (suc i) ms t ss)
        ∙ length-padded (replicate {A = ℕ} 8 0) w (layer_at b q w (suc i) ms t ss).arcs

    no_arcs : (k : ℕ) → Each (λ (bs : List ℕ). bs ≡ replicate (length bs) 0) (replicate k (replicate {A = ℕ} 8 0))
    no_arcs zero = tt
    no_arcs (suc k) = (refl, no_arcs k)

    -- the next layer's numbers have the states of its nodes
    next_has : Stated (downs_at q (all_arcs b q w) (suc i)) after
    next_has = go behind refl
      where
        go : (ss : List ℕ) → behind ≡ ss → Stated (downs_at q (all_arcs b q w) (suc i)) (next_nodes b q w i p.ns set ss)
        go [] f = tt
        go (t ∷ ss) f =
            let os = map (arrivals first_appearance q i set (t ∷ ss)) p.ns in
            let l = map (map (arc_byte b w (states os))) os in
            let rest = replicate (w - length l) (replicate {A = ℕ} 8 0) in
            let same : layer.arcs ≡ l = ap (λ (x : List ℕ). (layer_at b q w i p.ns set x).arcs) f in
            let here : get_or (all_arcs b q w) i [] ≡ l ++ rest = all_at ∙ ap filled_up same ∙ padded_split w (replicate {A = ℕ} 8 0) l (omega (arith, ap length same, layer_sized.0)) in
            let count : node_count (drop (suc i) (all_arcs b q w)) ≡ w =
            ap node_count all_behind
            ∙ ap (λ (x : List ℕ). node_count (map filled_up (arcs_of (layers b first_appearance q w (suc i) (next_nodes b q w i p.ns set x) x)))) f
            ∙ count_next (next_nodes b q w i p.ns set (t ∷ ss)) t ss in
            let made : downs_at q (all_arcs b q w) (suc i) ≡ map (λ k. down_at q i k downs_here (l ++ rest)) (from 0 w) =
            down_next q (all_arcs b q w) i (omega (arith, all_long)) ∙ (λ d. map (λ k. down_at q i k downs_here (here d)) (from 0 (count d))) in
            subst (λ (x : List Numbers). Stated x (nodes_of b w (states os))) (sym made) (next_stated b w wide q i set (t ∷ ss) downs_here p.ns p.stated rest (no_arcs (w - length l)) w (omega arith))

    module _ (need : arcs_need q w ≤ z) where
      -- the layer's part of the bytes is there, and zero
      pub building_room : i * (w * 8) + w * 8 ≤ z
      building_room =
          let bytes : 8 * slots q * w ≤ z = subst (λ k. k * slots q * w ≤ z) small.steps need in
          let turned : 8 * slots q * w ≡ slots q * (w * 8) = mul_assoc 8 (slots q) w ∙ mul_comm 8 (slots q * w) ∙ mul_assoc (slots q) w 8 in
          omega (arith, place_in (slots q) (w * 8) i h)

      building_part : take (i * (w * 8) + w * 8 - i * (w * 8)) (drop (i * (w * 8)) arcs) ≡ replicate (w * 8) 0
      building_part =
          let l = laid 8 w (arcs_of p.done) in
          part_is (i * (w * 8)) (w * 8) arcs ∙ rw (p.bytes, ← done_long) (padded_behind 0 z (w * 8) l (omega (arith, done_long, building_room)))

      -- what its layer has made
      module _ (here row : List ℤ) (s : ℕ) (last : Bool) (limit : State) (part : List ℕ) (count : ℕ)
          (eh : here ≡ row_vec downs_here) (er : row ≡ slot_vec q i) (es : s ≡ set) (el : last ≡ eqb (i + 1) (slots q))
          (ek : limit ≡ lessened (padded 8 no_pair (map bounds_of q.rules)) (padded 8 no_pair (reaches q (i + 1) (drop (i + 1) q.sets))))
          (made : Made (cond last relaxed b) (cond last 1 w) (map (arrival_at here row s limit) (from 0 (n * 8))) (take (i * (w * 8) + w * 8 - i * (w * 8)) (drop (i * (w * 8)) arcs)) part count) where
        limit_is : limit ≡ lessened (padded 8 no_pair (map bounds_of q.rules)) (padded 8 no_pair (reaches q (suc i) behind))
        limit_is = ek ∙ ap (λ k. lessened (padded 8 no_pair (map bounds_of q.rules)) (padded 8 no_pair (reaches q k (drop k q.sets)))) (add-one i)

        xs_are : map (arrival_at here row s limit) (from 0 (n * 8)) ≡ map (Option.map fill) (flat (map (arrivals first_appearance q i set behind) p.ns))
        xs_are = (λ d. map (arrival_at (eh d) (er d) (es d) (limit_is d)) (from 0 (p.nodes h d * 8))) ∙ arrivals_at q small i p.ns few (7000 * i) p.totals downs_here p.stated set behind

        last_is : last ≡ none_left behind
        last_is = el ∙ ap (λ k. eqb k (slots q)) (add-one i) ∙ last_left q.sets (suc i) h

        one : Stands b q w i p.ns set behind part count
        one = layer_stands b q small w i p.ns (7000 * i) p.totals set behind last last_is (layer_sized, tt) (made_same xs_are building_part made)

        -- the layer's bytes are those of the layer among all arcs
        pub building_bytes : (length part ≡ w * 8) × (parted w 8 part ≡ get_or (all_arcs b q w) i [])
        building_bytes =
            let l = filled_up layer.arcs in
            let wide_enough = length-padded (replicate {A = ℕ} 8 0) w layer.arcs in
            let eight : Each (λ (bs : List ℕ). length bs ≡ 8) l = each_padded (λ (bs : List ℕ). length bs ≡ 8) w (replicate 8 0) layer.arcs refl layer_sized.1 in
            (ap length one.bytes ∙ part_long, ap (parted w 8) one.bytes ∙ ap (λ k. parted k 8 (flat l)) (sym wide_enough) ∙ flat_parted 8 l eight ∙ sym all_at)

        laid_on : put arcs (i * (w * 8)) (w * 8) part ≡ padded z 0 (laid 8 w (arcs_of (p.done ++ layer ∷ [])))
        laid_on =
            let l = laid 8 w (arcs_of p.done) in
            let long : length part ≡ w * 8 = ap length one.bytes ∙ part_long in
            put_pastes arcs part (i * (w * 8)) (w * 8) long
            ∙ (λ d. paste (p.bytes d) (sym done_long d) part (sym long d))
            ∙ padded_paste 0 z l part (omega (arith, done_long, building_room))
            ∙ ap (λ r. padded z 0 (l ++ r)) one.bytes
            ∙ sym (ap (padded z 0) (laid_more w p.done layer))

        -- the last layer has no states behind it, any other as many as were found
        narrow_is : (last || leb count w) ≡ narrow w layer
        narrow_is = go last refl
          where
            none_there : (ss : List ℕ) → none_left ss ≡ true → narrow w (layer_at b q w i p.ns set ss) ≡ true
            none_there [] f = le-leb 0 w (omega arith)
            none_there (t ∷ ss) f = absurd (true≢false (sym f))

            go : (t : Bool) → last ≡ t → (t || leb count w) ≡ narrow w layer
            go true f = sym (none_there behind (sym last_is ∙ f))
            go false f = ap (λ k. leb k w) (one.count (sym last_is ∙ f))

        -- one slot more
        pub building_more : (n' : ℕ) (e' : Bool) → n' ≡ min count w → e' ≡ (e && (last || leb count w)) → Building b q w z (put arcs (i * (w * 8)) (w * 8) part) n' e' (i + 1)
        building_more n' e' ec ee =
            subst (λ k. Building b q w z (put arcs (i * (w * 8)) (w * 8) part) n' e' k) (sym (add-one i)) (record {
              done = p.done ++ layer ∷ [];
              ns = after;
              is = next_is ∙ sym (append_assoc p.done (layer ∷ []) others);
              count = omega (arith, length-append p.done (layer ∷ []), p.count);
              totals =
                  let o : 7000 * i + 7000 ≡ 7000 * suc i = omega arith in
                  subst (λ k. Nodes q k after) o (next_totals b q small w i p.ns (7000 * i) p.totals set behind);
              nodes = λ more. ec ∙ ap (λ k. min k w) (one.count (more_left more)) ∙ sym (next_count b q w i p.ns set behind wide);
              stated = next_has;
              bytes = laid_on;
              exact = ee ∙ (λ d. p.exact d && narrow_is d) ∙ sym (every_more (narrow w) p.done layer);
            })
          where
            more_left : suc i < slots q → none_left behind ≡ false
            more_left more = sym (last_left q.sets (suc i) h) ∙ ne_eqb (suc i) (slots q) (λ f. omega arith)
