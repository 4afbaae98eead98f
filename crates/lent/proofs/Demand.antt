-- Demand 2, over files: what do a served call's arcs, bound and plan say of the lawful plans? The covering, the soundness, both bounds, and what may be claimed.
use mathlib.Core.Path.{◌≡◌, refl, sym, ap, subst, ◌∙◌}
use mathlib.Core.List.{List, []}
use mathlib.Core.Bool.{Bool, true, false, true≢false}
use mathlib.Core.Logic.{◌⊎◌}
use mathlib.Core.Option.{Option, none, some, map}
use Prim.Native.Nat.{ℕ, zero, suc, ◌≤◌, ◌<◌}
use native.Mathlib.Omega.{arith}
use lib.ListN.{length, take, replicate}
use lib.IntN.{ℤ, pos}
use lib.Signed.{le_z, ◌≤ℤ◌}
use Rattle.laws.specs.Z.{zarith}
use Rattle.laws.specs.Lists.{every, padded}
use Rattle.laws.proofs.Filled.{length-padded, padded_none, take-padded}
use Rattle.meaning.specs.Plan.{Campaign, slots, lawful, cost, after}
use Rattle.meaning.specs.Problem.{Problem, campaign, version1}
use Rattle.meaning.specs.Diagram.{relaxed, restricted, Arcs, built, is_exact}
use Rattle.meaning.specs.Filter.{on_path, within, rounds, drops, relaxed_arcs, restricted_arcs}
use Rattle.meaning.specs.Bound.{is_path, dual, shown, least}
use Rattle.meaning.specs.Buffers.{arc_bytes, arcs_in, arcs_need, plan_bytes}
use Rattle.meaning.specs.File.{Got, read_of, refused, got}
use Rattle.meaning.specs.Calls.{Bound, Lent, Done, unless, opened, bound_of, no_bound, relaxed_done, relaxed_fault, relaxed_of, relaxed_call, restricted_done, restricted_fault, restricted_of, restricted_call}
use Rattle.meaning.proofs.Bytes.{is_byte}
use Rattle.meaning.proofs.Order.{lawful_allowed, allowed_length}
use Rattle.meaning.proofs.Faultless.{some_slot}
use Rattle.meaning.proofs.Files.{accepted_in_range}
use Rattle.meaning.proofs.Rows.{refused_range}
use Rattle.meaning.proofs.Exact.{same_word}
use Rattle.meaning.proofs.Keeps.{AtMost, kept, dual_at_most}
use Rattle.meaning.proofs.Restricted.{restricted_lawful}
use Rattle.meaning.proofs.Bounds.{plan_shown, none_shown, exact_bounds}
use Rattle.meaning.proofs.Doors.{Door, served, RightNumbers, RightWidth, Enough, EnoughPlan, relaxed_answer, restricted_answer, relaxed_exactly, restricted_exactly}
use Rattle.lent.specs.Wide.{Sized}
use Rattle.lent.proofs.Wide.{built_sized, built_long, drops_sized, drops_long, wide_bytes, wide_walks}

-- ---- the buffer's arcs are those of the diagram, path for path
rounds_sized : (k w n : ℕ) (c : ℤ) (q : Campaign) (a : Arcs) → Sized k w a → Sized k w (rounds c q n a)
rounds_sized k w zero c q a h = h
rounds_sized k w (suc n) c q a h = rounds_sized k w n c q (drops (within c) q a) (drops_sized k w (within c) q a h)

rounds_long : (n : ℕ) (c : ℤ) (q : Campaign) (a : Arcs) → length (rounds c q n a) ≡ length a
rounds_long zero c q a = refl
rounds_long (suc n) c q a = rounds_long n c q (drops (within c) q a) ∙ drops_long (within c) q a

paths_there : (q : Campaign) (w z : ℕ) (a : Arcs) → length a ≡ slots q → Sized q.steps w a → arcs_need q w ≤ z → (b : List ℕ) → is_path (arcs_in q w (arc_bytes q w z a)) b ≡ is_path a b
paths_there q w z a l h room b = ap (λ x. is_path x b) (wide_bytes q w z a l h room) ∙ wide_walks q.steps w a h 0 b

relaxed_there : (q : Campaign) (w n z : ℕ) (c : ℤ) → 0 < w → arcs_need q w ≤ z → (b : List ℕ) → is_path (arcs_in q w (arc_bytes q w z (relaxed_arcs q w n c))) b ≡ is_path (relaxed_arcs q w n c) b
relaxed_there q w n z c hw room =
    let a = rounds c q n (built relaxed q w) in
    paths_there q w z (relaxed_arcs q w n c) (drops_long on_path q a ∙ rounds_long n c q (built relaxed q w) ∙ built_long relaxed q w) (drops_sized q.steps w on_path q a (rounds_sized q.steps w n c q (built relaxed q w) (built_sized relaxed q w hw))) room

restricted_there : (q : Campaign) (w z : ℕ) → 0 < w → arcs_need q w ≤ z → (b : List ℕ) → is_path (arcs_in q w (arc_bytes q w z (restricted_arcs q w))) b ≡ is_path (restricted_arcs q w) b
restricted_there q w z hw room =
    paths_there q w z (restricted_arcs q w) (drops_long on_path q (built restricted q w) ∙ built_long restricted q w) (drops_sized q.steps w on_path q (built restricted q w) (built_sized restricted q w hw)) room

-- ---- what a served relaxed call says
pub record Relaxes (q : Campaign) (w : ℕ) (c : ℤ) (d : Done Bound) : Type 0 where
  -- "a plan that keeps every rule and costs no more than the ceiling is always a path of the relaxed diagram"
  pub covers : (b : List ℕ) → lawful q b ≡ true → cost q b ≤ℤ c → is_path (arcs_in q w d.lent.arcs) b ≡ true
  -- "the dual bound is at most the cost of each such plan, and is missing only if there is none"
  pub bounds : (b : List ℕ) → lawful q b ≡ true → cost q b ≤ℤ c → (d.answer.present ≡ true) × (d.answer.bound ≤ℤ cost q b)
  pub none : d.answer.present ≡ false → (d.answer.bound ≡ pos 0) × ((b : List ℕ) → lawful q b ≡ true → cost q b ≤ℤ c → ⊥)

-- ---- what a served restricted call says
-- of the plan in the third buffer, its first n bytes
pub record Shows (q : Campaign) (w : ℕ) (d : Done Bound) (b : List ℕ) : Type 0 where
  pub keeps : lawful q b ≡ true
  -- "the cost of a plan that is shown"
  pub costs : d.answer.bound ≡ cost q b
  pub path : is_path (arcs_in q w d.lent.arcs) b ≡ true
  -- "the cheapest path of the restricted diagram and, of equal ones, the first in dictionary order"
  pub cheapest : (p : List ℕ) → is_path (arcs_in q w d.lent.arcs) p ≡ true → cost q b ≤ℤ cost q p
  pub first : (p : List ℕ) → is_path (arcs_in q w d.lent.arcs) p ≡ true → cost q p ≡ cost q b → (p ≡ b) ⊎ (after b p ≡ true)

pub record Restricts (q : Campaign) (w : ℕ) (d : Done Bound) : Type 0 where
  -- "each path of the restricted one keeps every rule"
  pub sound : (b : List ℕ) → is_path (arcs_in q w d.lent.arcs) b ≡ true → lawful q b ≡ true
  pub shows : d.answer.present ≡ true → Shows q w d (take (slots q) d.lent.plan)
  pub none : d.answer.present ≡ false → ((b : List ℕ) → is_path (arcs_in q w d.lent.arcs) b ≡ true → ⊥) × (d.lent.plan ≡ replicate (length d.lent.plan) 0)

-- what the answer says of a bound that is at most a cost, or of none
at_most_bound : (o : Option ℤ) (t : Bool) (z : ℤ) → AtMost o z → ((bound_of o t).present ≡ true) × ((bound_of o t).bound ≤ℤ z)
at_most_bound none t z h = absurd h
at_most_bound (some y) t z h = (refl, h)

-- a missing bound's room is zero
no_bound_lem : (o : Option ℤ) (t : Bool) → (bound_of o t).present ≡ false → (bound_of o t).bound ≡ pos 0
no_bound_lem none t e = refl
no_bound_lem (some z) t e = absurd (true≢false e)

bound_exact : (o : Option ℤ) (t : Bool) → (bound_of o t).exact ≡ t
bound_exact none t = refl
bound_exact (some z) t = refl

-- a refusal's number is not 0: what is left is the service
was_done : (k : ℕ) (l : Lent) (done : Done Bound) → (unless k (no_bound l) done).answer.number ≡ 0 → unless k (no_bound l) done ≡ done
was_done zero l done h = refl
was_done (suc k) l done h = absurd (omega arith)

was_served : {N S R : Type 0} → Door N S R 0 → N × (S × R)
was_served (served x y z) = (x, (y, z))

-- ---- the restricted plan, as it stands in its buffer
shown_there : (q : Campaign) (w z : ℕ) → slots q ≤ z → (o : Option (List ℕ)) (b : List ℕ) → length b ≡ slots q → o ≡ some b → take (slots q) (plan_bytes z o) ≡ b
shown_there q w z room o b long e = ap (λ x. take (slots q) (plan_bytes z x)) e ∙ ap (λ k. take k (padded z 0 b)) (sym long) ∙ take-padded 0 z b (omega arith)

-- what the primal answer says
module _ (q : Campaign) (w : ℕ) (l : Lent) (hw : 0 < w) (s : 0 < slots q) (room : Enough q w l) (plan : EnoughPlan q l) where
  abbrev done : Done Bound
  done = restricted_done q w l

  there : (b : List ℕ) → is_path (arcs_in q w done.lent.arcs) b ≡ is_path (restricted_arcs q w) b
  there b = restricted_there q w (length l.arcs) hw room.0 b

  shows : (b : List ℕ) → shown q w ≡ some b → Shows q w done (take (slots q) done.lent.plan)
  shows b e =
      let x = plan_shown q w b s e in
      let long : length b ≡ slots q = allowed_length q.steps q.sets b (lawful_allowed q b x.keeps) in
      let cost_is : done.answer.bound ≡ cost q b = ap (λ o. (bound_of o (is_exact restricted q w)).bound) x.costs in
      subst (Shows q w done) (sym (shown_there q w (length l.plan) plan (shown q w) b long e))
      (record {
        keeps = x.keeps;
        costs = cost_is;
        path = there b ∙ x.path;
        cheapest = λ p h. x.least p (sym (there p) ∙ h);
        first = λ p h. x.first p (sym (there p) ∙ h);
      })

  restricts : Restricts q w done
  restricts = go (shown q w) refl
    where
      go : (o : Option (List ℕ)) → shown q w ≡ o → Restricts q w done
      go none e =
          record {
            sound = λ b h. restricted_lawful q w b s (sym (there b) ∙ h);
            shows = λ h. absurd (true≢false (sym h ∙ ap (λ o. (bound_of (map (cost q) o) (is_exact restricted q w)).present) e));
            none = λ h. ((λ b k. none_shown q w b s e (sym (there b) ∙ k)), ap (plan_bytes (length l.plan)) e ∙ padded_none 0 (length l.plan) ∙ ap (λ k. replicate k 0) (sym (ap length (ap (plan_bytes (length l.plan)) e) ∙ length-padded 0 (length l.plan) [])));
          }
      go (some b) e =
          record {
            sound = λ b h. restricted_lawful q w b s (sym (there b) ∙ h);
            shows = λ h. shows b e;
            none = λ h. absurd (true≢false (sym (ap (λ o. (bound_of (map (cost q) o) (is_exact restricted q w)).present) e) ∙ h));
          }

module _ (f : List ℕ) (low : every is_byte f ≡ true) (p : Problem) (rest : List ℕ) (e : read_of f ≡ got p rest) where
  abbrev q : Campaign
  q = campaign p

  -- what a served call gives: the arguments are in range, the buffers long enough, and the answer is what is done
  relaxed_served : (w n : ℕ) (c : ℤ) (l : Lent) → (relaxed_call f w n c l).answer.number ≡ 0 → (RightNumbers w n c × Enough q w l) × (relaxed_call f w n c l ≡ relaxed_done q w n c l)
  relaxed_served w n c l h =
      let door = was_served ((relaxed_exactly f low p rest e w n c l 0).0 h) in
      let is = relaxed_answer f low p rest e w n c l in
      ((door.0, door.1.1), is ∙ was_done (relaxed_fault q w n c l) l (relaxed_done q w n c l) (sym (ap (λ (d : Done Bound). d.answer.number) is) ∙ h))

  restricted_served : (w : ℕ) (l : Lent) → (restricted_call f w l).answer.number ≡ 0 → (RightWidth w × (Enough q w l × EnoughPlan q l)) × (restricted_call f w l ≡ restricted_done q w l)
  restricted_served w l h =
      let door = was_served ((restricted_exactly f low p rest e w l 0).0 h) in
      let is = restricted_answer f low p rest e w l in
      ((door.0, door.1.1), is ∙ was_done (restricted_fault q w l) l (restricted_done q w l) (sym (ap (λ (d : Done Bound). d.answer.number) is) ∙ h))

  slot_there : 0 < slots q
  slot_there = some_slot version1 p (accepted_in_range f p rest low e).0

  -- the dual side of demand 2
  pub relaxed_call_lem : (w n : ℕ) (c : ℤ) (l : Lent) → (relaxed_call f w n c l).answer.number ≡ 0 → Relaxes q w c (relaxed_call f w n c l)
  relaxed_call_lem w n c l h =
      let x = relaxed_served w n c l h in
      let hw : 0 < w = x.0.0.0.0 in
      subst (Relaxes q w c) (sym x.1)
      (record {
        covers = λ b k m. relaxed_there q w n (length l.arcs) c hw x.0.1.0 b ∙ kept q w n c b k m hw;
        bounds = λ b k m. at_most_bound (dual q w n c) (is_exact relaxed q w) (cost q b) (dual_at_most q w n c b k m hw);
        none = λ m. (no_bound_lem (dual q w n c) (is_exact relaxed q w) m, λ b k o. true≢false (sym (at_most_bound (dual q w n c) (is_exact relaxed q w) (cost q b) (dual_at_most q w n c b k o hw)).0 ∙ m));
      })

  -- the primal side
  pub restricted_call_lem : (w : ℕ) (l : Lent) → (restricted_call f w l).answer.number ≡ 0 → Restricts q w (restricted_call f w l)
  restricted_call_lem w l h =
      let x = restricted_served w l h in
      subst (Restricts q w) (sym x.1) (restricts q w l x.0.0.0 slot_there x.0.1.0 x.0.1.1)

  -- what may be claimed: equal bounds, at most the ceiling, whatever the widths: the plan shown is a cheapest lawful plan
  pub equal_call : (w v n : ℕ) (c : ℤ) (k l : Lent) → let d = relaxed_call f w n c k in let r = restricted_call f v l in
      d.answer.number ≡ 0 → r.answer.number ≡ 0 → d.answer.present ≡ true → r.answer.present ≡ true → d.answer.bound ≡ r.answer.bound → d.answer.bound ≤ℤ c
      → (b : List ℕ) → lawful q b ≡ true → cost q (take (slots q) r.lent.plan) ≤ℤ cost q b
  equal_call w v n c k l g h i j m o b t = go (le_z (cost q b) c) refl
    where
      shown_cost : (restricted_call f v l).answer.bound ≡ cost q (take (slots q) (restricted_call f v l).lent.plan)
      shown_cost = ((restricted_call_lem v l h).shows j).costs

      go : (x : Bool) → le_z (cost q b) c ≡ x → cost q (take (slots q) (restricted_call f v l).lent.plan) ≤ℤ cost q b
      go true y = let low : (relaxed_call f w n c k).answer.bound ≤ℤ cost q b = ((relaxed_call_lem w n c k g).bounds b t (omega zarith)).1 in omega (zarith, shown_cost, m)
      go false y = omega (zarith, shown_cost, m)

  -- an exact diagram, and a ceiling that no lawful plan exceeds: both bounds are the least lawful cost
  pub exact_call : (w n : ℕ) (c : ℤ) (k l : Lent) → let d = relaxed_call f w n c k in let r = restricted_call f w l in
      d.answer.number ≡ 0 → r.answer.number ≡ 0 → d.answer.exact ≡ true → ((b : List ℕ) → lawful q b ≡ true → cost q b ≤ℤ c)
      → (d.answer ≡ bound_of (least q) true) × (r.answer ≡ bound_of (least q) true)
  exact_call w n c k l g h i m =
      let x = relaxed_served w n c k g in
      let y = restricted_served w l h in
      let exact : is_exact relaxed q w ≡ true = sym (bound_exact (dual q w n c) (is_exact relaxed q w)) ∙ ap (λ (d : Done Bound). d.answer.exact) (sym x.1) ∙ i in
      let both = exact_bounds q w n c x.0.0.0.0 slot_there exact m in (
        ap (λ (d : Done Bound). d.answer) x.1 ∙ (λ t. bound_of (both.0 t) (exact t)),
        ap (λ (d : Done Bound). d.answer) y.1 ∙ (λ t. bound_of (both.1 t) ((sym (same_word q w) ∙ exact) t)),
      )

-- ---- number 0 says that the file was accepted
pub record Accepted (f : List ℕ) : Type 0 where
  pub problem : Problem
  pub rest : List ℕ
  pub is : read_of f ≡ got problem rest

-- a call that gives a refused file's number gives no 0
accepted : (f : List ℕ) {A : Type 0} (number : A → ℕ) (refusal : ℕ → A) (done : Campaign → A) → ((k : ℕ) → number (refusal k) ≡ k)
    → number (opened (read_of f) refusal done) ≡ 0 → Accepted f
accepted f number refusal done same e = go (read_of f) refl e
  where
    go : (g : Got Problem) → read_of f ≡ g → number (opened g refusal done) ≡ 0 → Accepted f
    go (refused k) h z = absurd (omega (arith, refused_range f k h, same k))
    go (got p rest) h z = record { problem = p; rest = rest; is = h }

pub relaxed_accepted : (f : List ℕ) (w n : ℕ) (c : ℤ) (l : Lent) → (relaxed_call f w n c l).answer.number ≡ 0 → Accepted f
relaxed_accepted f w n c l = accepted f (λ (d : Done Bound). d.answer.number) (no_bound l) (λ q. relaxed_of q w n c l) (λ k. refl)

pub restricted_accepted : (f : List ℕ) (w : ℕ) (l : Lent) → (restricted_call f w l).answer.number ≡ 0 → Accepted f
restricted_accepted f w l = accepted f (λ (d : Done Bound). d.answer.number) (no_bound l) (λ q. restricted_of q w l) (λ k. refl)
