-- Are bytes of the form, where each is at most the width and those of the last slot at most 1?
use mathlib.Core.Path.{◌≡◌, sym, ap, subst, ◌∙◌}
use mathlib.Core.List.{List, map}
use mathlib.Core.Bool.{true}
use Prim.Native.Nat.{ℕ, zero, suc, ◌+◌, ◌*◌, ◌-◌, ◌≤◌}
use native.Mathlib.Nat.{zero-mul, suc-mul, mul_assoc, mul_comm}
use native.Mathlib.Omega.{arith}
use borrow.Author.Tests.{le-leb}
use lib.Dec.{leb}
use lib.ListN.{length, take, drop}
use lib.Seq.{drop-drop}
use Rattle.laws.specs.Lists.{every, parted}
use Rattle.laws.proofs.Lists.{and_both}
use Rattle.laws.proofs.Each.{Each, each_take, each_drop, each_every}
use Rattle.meaning.specs.Plan.{Campaign, slots}
use Rattle.meaning.specs.Buffers.{of_form}
use Rattle.numbers.specs.Whole.{Formed}

-- what holds of every element holds in every part
each_parted : {A : Type 0} (P : A → Type 0) (n k : ℕ) (l : List A) → Each P l → Each (Each P) (parted n k l)
each_parted P zero k l h = tt
each_parted P (suc n) k l h = (each_take P k l h, each_parted P n k (drop k l) (each_drop P k l h))

-- one slot's bytes
slot_true : (c w : ℕ) (l : List ℕ) → Each (λ b. b ≤ c) l → every (every (λ b. leb b c)) (parted w 8 l) ≡ true
slot_true c w l h =
    each_every (every (λ b. leb b c)) (Each (λ b. b ≤ c)) (λ bs e. each_every (λ b. leb b c) (λ b. b ≤ c) (λ b f. le-leb b c f) bs e) (parted w 8 l)
    (each_parted (λ b. b ≤ c) w 8 l h)

-- all slots' bytes; of the last slot they are those behind k slots
slots_true : (w k : ℕ) (b : List ℕ) → Each (λ x. x ≤ w) b → Each (λ x. x ≤ 1) (drop (k * (w * 8)) b) → of_form w (map (parted w 8) (parted (suc k) (w * 8) b)) ≡ true
slots_true w zero b low last = slot_true 1 w (take (w * 8) b) (each_take (λ x. x ≤ 1) (w * 8) b (rw (zero-mul (w * 8)) at last))
slots_true w (suc k) b low last =
    let c = w * 8 in
    let rest = drop c b in
    let more : suc k * c ≡ c + k * c = omega (arith, suc-mul k c) in
    let behind : drop (suc k * c) b ≡ drop (k * c) rest = ap (λ (z : ℕ). drop z b) more ∙ sym (drop-drop (k * c) c b) in
    and_both (every (every (λ x. leb x w)) (parted w 8 (take c b))) (of_form w (map (parted w 8) (parted (suc k) c rest)))
    (slot_true w w (take c b) (each_take (λ x. x ≤ w) c b low)) (slots_true w k rest (each_drop (λ x. x ≤ w) c b low) (subst (Each (λ x. x ≤ 1)) behind last))

-- so are the bytes of n slots
pub formed_of : (q : Campaign) (n w : ℕ) (b : List ℕ) → q.steps ≡ 8 → slots q ≡ n → 1 ≤ n → length b ≡ 8 * n * w → Each (λ x. x ≤ w) b → Each (λ x. x ≤ 1) (drop (8 * (n - 1) * w) b) → Formed q w b
formed_of q zero w b eight is some long low last = absurd (omega arith)
formed_of q (suc k) w b eight is some long low last =
    let less : suc k - 1 ≡ k = omega arith in
    let place : 8 * (suc k - 1) * w ≡ k * (w * 8) = ap (λ (z : ℕ). 8 * z * w) less ∙ mul_assoc 8 k w ∙ mul_comm 8 (k * w) ∙ mul_assoc k w 8 in
    record {
      long = long ∙ sym (λ t. eight t * is t * w);
      form = (λ t. of_form w (map (parted w (eight t)) (parted (is t) (w * eight t) b))) ∙ slots_true w k b low (subst (λ (z : ℕ). Each (λ x. x ≤ 1) (drop z b)) place last);
    }
