-- Demand 3 over files: do pages drawn one after another list every lawful plan within the ceiling, once, in dictionary order?
-- The plans are read from the page buffers, by the answers' counts.
use mathlib.Core.Path.{◌≡◌, refl, sym, ap, subst, ◌∙◌}
use mathlib.Core.List.{List, [], ◌∷◌, ◌++◌, map}
use mathlib.Core.Bool.{Bool, true, false, not, ◌&&◌, cond}
use mathlib.Core.Logic.{inl, inr}
use Prim.Native.Nat.{ℕ, zero, suc, min, ◌*◌, ◌-◌, ◌/◌, ◌≤◌, ◌<◌}
use native.Mathlib.Nat.{div-mul-le_self, le-div_iff_mul-le, mul-le-mul_right, one-mul}
use native.Mathlib.Decide.{dec_lt}
use native.Mathlib.Omega.{arith}
use borrow.Author.Tests.{eqb-true, eq-eqb, lt-ltb, le-ltb}
use lib.Dec.{eqb, ltb}
use lib.ListN.{length, take, drop, replicate, length-take, length-map}
use lib.Seq.{drop_at}
use lib.IntN.{ℤ}
use lib.Signed.{le_z, ◌≤ℤ◌}
use Rattle.laws.specs.Z.{zarith}
use Rattle.laws.specs.Lists.{keep, every, last_or, flat, padded, parted}
use Rattle.laws.proofs.Lists.{and_l, and_r, and_both, In, here, there, in_keep, in_kept, in_either, every_in, every-keep, every_kept, Ordered, ordered_keep}
use Rattle.laws.proofs.Each.{Each, each_in, each_take, each_every, each_map}
use Rattle.laws.proofs.Parts.{parted_append}
use Rattle.laws.proofs.Filled.{padded_split, flat_long}
use Rattle.meaning.specs.Plan.{Campaign, slots, plans, lawful, lawfuls, cost, after}
use Rattle.meaning.specs.Problem.{Problem, campaign, version1}
use Rattle.meaning.specs.File.{Got, read_of, refused, got}
use Rattle.meaning.specs.Page.{wanted, listed, drawn, ending}
use Rattle.meaning.specs.Calls.{Count, Lent, Done, unless, opened, no_count, page_done, page_fault, page_on, page_call}
use Rattle.meaning.proofs.Bytes.{is_byte}
use Rattle.meaning.proofs.Order.{lawful_allowed, allowed_length, plans_in, plans_ordered}
use Rattle.meaning.proofs.Faultless.{some_slot}
use Rattle.meaning.proofs.Files.{accepted_in_range}
use Rattle.meaning.proofs.Rows.{refused_range}
use Rattle.meaning.proofs.Doors.{Door, served, RightNumbers, RightStart, Enough, EnoughPlan, page_answer, page_exactly}
use Rattle.meaning.proofs.Pages.{listed_are, pages_ended, pages_all}
use Rattle.lent.proofs.Wide.{flat_parted}
use Rattle.lent.proofs.Demand.{Accepted}
use Rattle.pages.specs.Drawn.{plans_on, asked, pages_drawn, all_served, no_more, plans_drawn}

-- ---- plans in bytes: n to a plan, one behind the other, the rest zero
module _ (n z : ℕ) (ps : List (List ℕ)) (h : Each (λ p. length p ≡ n) ps) (room : length ps * n ≤ z) where
  bytes_are : padded z 0 (flat ps) ≡ flat ps ++ replicate (z - length ps * n) 0
  bytes_are = padded_split z 0 (flat ps) (omega (arith, flat_long n ps h)) ∙ ap (λ k. flat ps ++ replicate (z - k) 0) (flat_long n ps h)

  -- read again, part by part
  plans_read : parted (length ps) n (padded z 0 (flat ps)) ≡ ps
  plans_read = ap (parted (length ps) n) bytes_are ∙ parted_append (length ps) n (flat ps) _ (omega (arith, flat_long n ps h)) ∙ flat_parted n ps h

  rest_zero : drop (length ps * n) (padded z 0 (flat ps)) ≡ replicate (z - length ps * n) 0
  rest_zero = ap (drop (length ps * n)) bytes_are ∙ drop_at (flat ps) _ (length ps * n) (flat_long n ps h)

-- ---- of a campaign
module _ (q : Campaign) (c : ℤ) where
  listed_long : (s : List ℕ) → Each (λ p. length p ≡ slots q) (listed q c s)
  listed_long s = each_in (λ p. length p ≡ slots q) (listed q c s) (λ p i. allowed_length q.steps q.sets p (lawful_allowed q p (listed_are q c s p i).0))

  -- as many plans as fit, not more
  written_room : (z : ℕ) (s : List ℕ) → length (take (z / slots q) (listed q c s)) * slots q ≤ z
  written_room z s =
      let k = z / slots q in
      let few : length (take k (listed q c s)) ≤ k = omega (arith, length-take k (listed q c s)) in
      omega (arith, mul-le-mul_right (slots q) few, div-mul-le_self z (slots q))

  -- the last plan of a page is a right start
  last_right : (k : ℕ) (s : List ℕ) (l : List (List ℕ)) → RightStart q s → Each (λ p. length p ≡ slots q) l → RightStart q (last_or s (take k l))
  last_right zero s l r h = r
  last_right (suc k) s [] r h = r
  last_right (suc k) s (p ∷ l) r h = last_right k p l (inr h.0) h.1

  -- "list every plan that keeps all rules and costs at most the ceiling, each exactly once, in dictionary order"
  pub record Lists (ps : List (List ℕ)) : Type 0 where
    pub are : ps ≡ keep (λ p. le_z (cost q p) c) (lawfuls q)
    pub every_plan : (p : List ℕ) → lawful q p ≡ true → cost q p ≤ℤ c → In p ps
    pub no_other : (p : List ℕ) → In p ps → (lawful q p ≡ true) × (cost q p ≤ℤ c)
    -- each stands before all that follow it
    pub order : Ordered after ps

  abbrev all_cheap : List (List ℕ)
  all_cheap = keep (λ p. le_z (cost q p) c) (lawfuls q)

  lists : (ps : List (List ℕ)) → ps ≡ keep (λ p. le_z (cost q p) c) (lawfuls q) → Lists ps
  lists ps e =
      let cheap : List ℕ → Bool = λ p. le_z (cost q p) c in
      record {
        are = e;
        every_plan = λ p h k. subst (In p) (sym e) (in_keep cheap (omega zarith) (in_keep (lawful q) h (plans_in q.steps q.sets p (lawful_allowed q p h))));
        no_other = λ p i.
            let j = subst (In p) e i in
            let low : le_z (cost q p) c ≡ true = in_kept cheap (lawfuls q) j in
            (every_in (lawful q) all_cheap (every-keep (lawful q) cheap (lawfuls q) (every_kept (lawful q) (plans q.steps q.sets))) j, omega zarith);
        order = subst (Ordered after) (sym e) (ordered_keep after cheap (lawfuls q) (ordered_keep after (lawful q) (plans q.steps q.sets) (plans_ordered q.steps q.sets)));
      }

-- ---- a call that is served
-- of the first k of a list
in_take : {A : Type 0} {x : A} (k : ℕ) (l : List A) → In x (take k l) → In x l
in_take {A = A} zero l i = elim i [ ]
in_take (suc k) [] i = i
in_take (suc k) (y ∷ l) i = in_either (λ v. In v (y ∷ l)) here (λ j. there (in_take k l j)) i

-- more than fit are more than are written
more_than : {A : Type 0} (k : ℕ) (l : List A) → ltb k (length l) ≡ ltb (length (take k l)) (length l)
more_than k l =
    let some : length (take k l) ≡ min k (length l) = length-take k l in
    elim (dec_lt k (length l)) [
      | yes b ↦ lt-ltb k (length l) b ∙ sym (lt-ltb (length (take k l)) (length l) (omega arith))
      | no b ↦ le-ltb k (length l) (omega arith) ∙ sym (le-ltb (length (take k l)) (length l) (omega arith))
    ]

-- a refusal's number is not 0: what is left is the service
was_done : (k : ℕ) (l : Lent) (done : Done Count) → (unless k (no_count l) done).answer.number ≡ 0 → unless k (no_count l) done ≡ done
was_done zero l done h = refl
was_done (suc k) l done h = absurd (omega arith)

was_served : {N S R : Type 0} → Door N S R 0 → N × (S × R)
was_served (served x y z) = (x, (y, z))

-- what one page says: d, asked for after s, of a page buffer of z bytes
pub record OnPage (q : Campaign) (c : ℤ) (s : List ℕ) (z : ℕ) (d : Done Count) : Type 0 where
  -- "the first lawful plans within the ceiling after the start": as many as fit whole
  pub first : plans_on (slots q) d ≡ take (z / slots q) (listed q c s)
  -- the count is their number
  pub counted : length (plans_on (slots q) d) ≡ d.answer.count
  -- each is lawful, within the ceiling and after the start
  pub lawful_each : (p : List ℕ) → In p (plans_on (slots q) d) → (lawful q p ≡ true) × (wanted q c s p ≡ true)
  -- "whether a further such plan exists after those written"
  pub more : d.answer.more ≡ ltb d.answer.count (length (listed q c s))
  -- "the rest is zero"
  pub zeros : drop (d.answer.count * slots q) d.lent.plan ≡ replicate (z - d.answer.count * slots q) 0

module _ (q : Campaign) (w r : ℕ) (c : ℤ) (s : List ℕ) (l : Lent) where
  abbrev z : ℕ
  z = length l.plan

  abbrev ps : List (List ℕ)
  ps = take (z / slots q) (listed q c s)

  own_long : Each (λ p. length p ≡ slots q) ps
  own_long = each_take (λ p. length p ≡ slots q) (z / slots q) (listed q c s) (listed_long q c s)

  on_page : plans_on (slots q) (page_done q w r c s l) ≡ ps
  on_page = plans_read (slots q) z ps own_long (written_room q c z s)

  page_says : OnPage q c s z (page_done q w r c s l)
  page_says = record {
    first = on_page;
    counted = ap length on_page;
    lawful_each = λ p i. listed_are q c s p (in_take (z / slots q) (listed q c s) (subst (In p) on_page i));
    more = more_than (z / slots q) (listed q c s);
    zeros = rest_zero (slots q) z ps own_long (written_room q c z s);
  }

-- ---- of an accepted file
module _ (f : List ℕ) (low : every is_byte f ≡ true) (p : Problem) (rest : List ℕ) (e : read_of f ≡ got p rest) where
  abbrev q : Campaign
  q = campaign p

  slot_there : 0 < slots q
  slot_there = some_slot version1 p (accepted_in_range f p rest low e).0

  page_served_lem : (w r : ℕ) (c : ℤ) (s : List ℕ) (l : Lent) → (page_call f w r c s l).answer.number ≡ 0 → page_call f w r c s l ≡ page_done q w r c s l
  page_served_lem w r c s l h =
      let is = page_answer f low p rest e w r c s l in
      is ∙ was_done (page_fault q w r c s l) l (page_done q w r c s l) (sym (ap (λ (d : Done Count). d.answer.number) is) ∙ h)

  -- one page: what stands on it
  pub page_call_lem : (w r : ℕ) (c : ℤ) (s : List ℕ) (l : Lent) → (page_call f w r c s l).answer.number ≡ 0 → OnPage q c s (length l.plan) (page_call f w r c s l)
  page_call_lem w r c s l h = subst (OnPage q c s (length l.plan)) (sym (page_served_lem w r c s l h)) (page_says q w r c s l)

  module _ (w r : ℕ) (c : ℤ) where
    abbrev ask : List ℕ → Lent → Done Count
    ask s l = page_call f w r c s l

    -- how many plans fit
    abbrev rooms : List Lent → List ℕ
    rooms ls = map (λ l. length l.plan / slots q) ls

    abbrev more_on : Done Count → Bool
    more_on d = d.answer.more

    -- the calls draw what the pages hold, and end where these end
    record Draws (s : List ℕ) (ls : List Lent) (ds : List (Done Count)) : Type 0 where
      plans_are : plans_drawn (slots q) ds ≡ drawn (rooms ls) q c s
      ends_are : no_more ds ≡ ending (rooms ls) q c s

    draws : (ls : List Lent) (s : List ℕ) → all_served (asked ask (slots q) s ls) ≡ true → Draws s ls (asked ask (slots q) s ls)
    draws [] s h = record { plans_are = refl; ends_are = refl }
    draws (l ∷ ls) s h = go (ask s l) (page_served_lem w r c s l (eqb-true (ask s l).answer.number 0 (and_l _ _ h))) (ask s l).answer.more refl h (draws ls)
      where
        go : (d : Done Count) → d ≡ page_done q w r c s l → (t : Bool) → d.answer.more ≡ t → all_served (d ∷ cond t (asked ask (slots q) (last_or s (plans_on (slots q) d)) ls) []) ≡ true
            → ((s : List ℕ) → all_served (asked ask (slots q) s ls) ≡ true → Draws s ls (asked ask (slots q) s ls))
            → Draws s (l ∷ ls) (d ∷ cond d.answer.more (asked ask (slots q) (last_or s (plans_on (slots q) d)) ls) [])
        go d is true m h next =
            let n = slots q in
            let k = length l.plan / n in
            let x = listed q c s in
            let on : plans_on n d ≡ take k x = ap (plans_on n) is ∙ on_page q w r c s l in
            let fit : true ≡ ltb k (length x) = sym m ∙ ap more_on is in
            let ds = asked ask n (last_or s (plans_on n d)) ls in
            let y = next (last_or s (plans_on n d)) (and_r (eqb d.answer.number 0) (all_served ds) h) in
            record {
              plans_are = ap (λ (b : Bool). plans_on n d ++ plans_drawn n (cond b ds [])) m ∙ ap (λ (ps : List (List ℕ)). plans_on n d ++ ps) y.plans_are
                  ∙ ap (λ (ps : List (List ℕ)). ps ++ drawn (rooms ls) q c (last_or s ps)) on ∙ ap (λ (b : Bool). take k x ++ cond b (drawn (rooms ls) q c (last_or s (take k x))) []) fit;
              ends_are = (λ i. not (m i && every more_on (cond (m i) ds []))) ∙ y.ends_are
                  ∙ ap (λ (ps : List (List ℕ)). ending (rooms ls) q c (last_or s ps)) on ∙ ap (λ (b : Bool). cond b (ending (rooms ls) q c (last_or s (take k x))) true) fit;
            }
        go d is false m h next =
            let n = slots q in
            let k = length l.plan / n in
            let x = listed q c s in
            let on : plans_on n d ≡ take k x = ap (plans_on n) is ∙ on_page q w r c s l in
            let fit : false ≡ ltb k (length x) = sym m ∙ ap more_on is in
            let ds = asked ask n (last_or s (plans_on n d)) ls in
            record {
              plans_are = ap (λ (b : Bool). plans_on n d ++ plans_drawn n (cond b ds [])) m
                  ∙ ap (λ (ps : List (List ℕ)). ps ++ []) on ∙ ap (λ (b : Bool). take k x ++ cond b (drawn (rooms ls) q c (last_or s (take k x))) []) fit;
              ends_are = (λ i. not (m i && every more_on (cond (m i) ds []))) ∙ ap (λ (b : Bool). cond b (ending (rooms ls) q c (last_or s (take k x))) true) fit;
            }

    -- DEMAND 3: none of the calls is refused, and one says that there is no more
    pub pages_list : (ls : List Lent) → let ds = pages_drawn f w r c (slots q) ls in all_served ds ≡ true → no_more ds ≡ true → Lists q c (plans_drawn (slots q) ds)
    pages_list ls h m =
        let d = draws ls [] h in
        lists q c (plans_drawn (slots q) (pages_drawn f w r c (slots q) ls)) (d.plans_are ∙ pages_ended q c (rooms ls) slot_there (sym d.ends_are ∙ m))

    -- right arguments and buffers of the needed size: none is refused
    abbrev pub Room : Lent → Type 0
    Room l = Enough q w l × EnoughPlan q l

    all_served_lem : RightNumbers w r c → (ls : List Lent) (s : List ℕ) → RightStart q s → Each Room ls → all_served (asked ask (slots q) s ls) ≡ true
    all_served_lem a [] s b h = refl
    all_served_lem a (l ∷ ls) s b h = and_both _ _ (eq-eqb (ask s l).answer.number 0 zero_is) (go (ask s l).answer.more (all_served_lem a ls (last_or s (plans_on (slots q) (ask s l))) right h.1))
      where
        zero_is : (ask s l).answer.number ≡ 0
        zero_is = (page_exactly f low p rest e w r c s l 0).1 (served a b h.0)

        right : RightStart q (last_or s (plans_on (slots q) (ask s l)))
        right =
            let k = length l.plan / slots q in
            let on : plans_on (slots q) (ask s l) ≡ take k (listed q c s) = ap (plans_on (slots q)) (page_served_lem w r c s l zero_is) ∙ on_page q w r c s l in
            subst (λ (ps : List (List ℕ)). RightStart q (last_or s ps)) (sym on) (last_right q c k s (listed q c s) b (listed_long q c s))

        go : (t : Bool) → all_served (asked ask (slots q) (last_or s (plans_on (slots q) (ask s l))) ls) ≡ true → all_served (cond t (asked ask (slots q) (last_or s (plans_on (slots q) (ask s l))) ls) []) ≡ true
        go true h = h
        go false h = refl

    -- a page with room for n bytes has room for a plan
    some_room : (ls : List Lent) → Each Room ls → every (ltb 0) (rooms ls) ≡ true
    some_room ls h =
        each_every (ltb 0) (λ k. 0 < k) (λ k. lt-ltb 0 k) (rooms ls)
        (each_map Room (λ k. 0 < k) (λ l. length l.plan / slots q)
        (λ l b. (le-div_iff_mul-le {k = slots q} {x = 1} {y = length l.plan} slot_there).1 (rw (one-mul (slots q)) b.1)) ls h)

    -- DEMAND 3, from the arguments: an accepted file, an allowed width, number of rounds and ceiling, building buffers of the needed size, "and a page with room for at least one plan":
    -- none of the calls is refused; and as many calls as there are lawful plans, and at least one, are enough to hear that there is no more
    pub pages_served : RightNumbers w r c → (ls : List Lent) → Each Room ls → let ds = pages_drawn f w r c (slots q) ls in
        (all_served ds ≡ true) × (no_more ds ≡ true → Lists q c (plans_drawn (slots q) ds)) × (0 < length ls → length (lawfuls q) ≤ length ls → no_more ds ≡ true)
    pages_served a ls h =
        let all = all_served_lem a ls [] (inl refl) h in
        let long = length-map ls (λ l. length l.plan / slots q) in
        (all, pages_list ls all, λ n m. (draws ls [] all).ends_are ∙ (pages_all q c (rooms ls) slot_there (some_room ls h) (omega arith) (omega arith)).1)

-- ---- number 0 says that the file was accepted
pub page_accepted : (f : List ℕ) (w r : ℕ) (c : ℤ) (s : List ℕ) (l : Lent) → (page_call f w r c s l).answer.number ≡ 0 → Accepted f
page_accepted f w r c s l h = go (read_of f) refl h
  where
    go : (g : Got Problem) → read_of f ≡ g → (opened g (no_count l) (λ q. page_on q w r c s l)).answer.number ≡ 0 → Accepted f
    go (refused k) e z = absurd (omega (arith, refused_range f k e))
    go (got p rest) e z = record { problem = p; rest = rest; is = e }
