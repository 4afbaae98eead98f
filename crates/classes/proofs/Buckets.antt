-- Which class is the newest of a bucket, and what does a walk from the newest to the oldest find?
use mathlib.Core.Path.{◌≡◌, refl, sym}
use mathlib.Core.List.{List, [], ◌∷◌, ◌++◌}
use mathlib.Core.Bool.{Bool, true, false, cond}
use Prim.Native.Nat.{ℕ, zero, suc, ◌-◌, ◌≤◌, ◌<◌}
use native.Mathlib.Decide.{dec_lt}
use native.Mathlib.Omega.{arith}
use borrow.Author.Tests.{eqb-true, eqb-false}
use lib.Dec.{eqb}
use lib.ListN.{length, get_or, get_or-append}
use Rattle.std.specs.Prelude.{Some, None}
use Rattle.laws.proofs.Each.{Each}
use Rattle.laws.proofs.Lists.{no_true}
use Rattle.meaning.specs.Diagram.{State, eq_state, Node}
use Rattle.state.specs.Pairs.{bucket_of}
use Rattle.state.proofs.Keys.{same_bucket}
use Rattle.classes.specs.Classes.{no_node, latest, Found}

-- the bucket of the node at a place
abbrev pub bucket_at : List Node → ℕ → ℕ
bucket_at ts k = bucket_of (get_or ts k no_node).0

-- ---- the newest of the first k in a bucket
module _ (ts : List Node) (s : ℕ) where
  latest_le : (k : ℕ) → latest ts s k ≤ k
  latest_le zero = omega arith
  latest_le (suc k) = go (eqb (bucket_at ts k) s) (latest_le k)
    where
      go : (t : Bool) → latest ts s k ≤ k → cond t (suc k) (latest ts s k) ≤ suc k
      go true h = omega arith
      go false h = omega arith

  -- it is in the bucket
  latest_in : (k j : ℕ) → latest ts s k ≡ suc j → bucket_at ts j ≡ s
  latest_in zero j e = absurd (omega arith)
  latest_in (suc k) j e = go (eqb (bucket_at ts k) s) refl e (latest_in k j)
    where
      go : (t : Bool) → eqb (bucket_at ts k) s ≡ t → cond t (suc k) (latest ts s k) ≡ suc j → (latest ts s k ≡ suc j → bucket_at ts j ≡ s) → bucket_at ts j ≡ s
      go true h e r = let same : j ≡ k = omega arith in rw same (eqb-true (bucket_at ts k) s h)
      go false h e r = r e

  -- those behind it are not
  latest_past : (k j : ℕ) → latest ts s k ≤ j → j < k → bucket_at ts j ≡ s → ⊥
  latest_past zero j h l e = absurd (omega arith)
  latest_past (suc k) j h l e = go (eqb (bucket_at ts k) s) refl h (latest_past k j)
    where
      go : (t : Bool) → eqb (bucket_at ts k) s ≡ t → cond t (suc k) (latest ts s k) ≤ j → (latest ts s k ≤ j → j < k → bucket_at ts j ≡ s → ⊥) → ⊥
      go true q i r = absurd (omega arith)
      go false q i r = elim (dec_lt j k) [
        | yes b ↦ r i b e
        | no b ↦ let same : k ≡ j = omega arith in eqb-false (bucket_at ts k) s q (rw same e)
      ]

-- nodes behind the first k do not count
pub latest_append : (ts us : List Node) (s k : ℕ) → k ≤ length ts → latest (ts ++ us) s k ≡ latest ts s k
latest_append ts us s zero h = refl
latest_append ts us s (suc k) h = rw (get_or-append ts us no_node k h, latest_append ts us s k (omega arith))

-- ---- a walk that is at class c − 1, or at its end where c is 0: no class from c on has the state
pub record Walked (t : State) (ts : List Node) (c : ℕ) : Type 0 where
  pub low : c ≤ length ts
  pub past : (k : ℕ) → c ≤ k → k < length ts → eq_state t (get_or ts k no_node).0 ≡ false
  pub bucket : (j : ℕ) → c ≡ suc j → bucket_at ts j ≡ bucket_of t

each_places : {A : Type 0} (P : A → Type 0) (l : List A) (d : A) → ((k : ℕ) → k < length l → P (get_or l k d)) → Each P l
each_places P [] d f = tt
each_places P (x ∷ l) d f = (f 0 (omega arith), each_places P l d (λ k h. f (suc k) (omega arith)))

module _ (t : State) (ts : List Node) where
  walked_from : (n : ℕ) → n ≤ length ts → ((k : ℕ) → n ≤ k → k < length ts → eq_state t (get_or ts k no_node).0 ≡ false) → Walked t ts (latest ts (bucket_of t) n)
  walked_from n h d = record {
    low = omega (arith, latest_le ts (bucket_of t) n);
    past = λ k l b. elim (dec_lt k n) [
      | yes i ↦ no_true (eq_state t (get_or ts k no_node).0) (λ e. latest_past ts (bucket_of t) n k l i (sym (same_bucket t (get_or ts k no_node).0 e)))
      | no i ↦ d k (omega arith) b
    ];
    bucket = λ j e. latest_in ts (bucket_of t) n j e;
  }

  -- it begins at the newest of the bucket
  pub walked_start : (n c : ℕ) → length ts ≡ n → c ≡ latest ts (bucket_of t) n → Walked t ts c
  walked_start n c l e = rw e (walked_from n (omega arith) (λ k h b. absurd (omega arith)))

  module _ {c : ℕ} (w : Walked t ts c) (h : c ≡ 0 → ⊥) where
    -- and goes on to the next older one
    pub walked_next : (b : ℕ) → eq_state t (get_or ts (c - 1) no_node).0 ≡ false → b ≡ latest ts (bucket_at ts (c - 1)) (c - 1) → Walked t ts b
    walked_next b f e =
        let place : c ≡ suc (c - 1) = omega arith in
        rw (e, w.bucket (c - 1) place)
        (walked_from (c - 1) (omega (arith, w.low))
        (λ k i l. elim (dec_lt k c) [
          | yes j ↦ let same : k ≡ c - 1 = omega arith in rw same f
          | no j ↦ w.past k (omega arith) l
        ]))

    -- c gets smaller
    pub walked_less : (b : ℕ) → b ≡ latest ts (bucket_at ts (c - 1)) (c - 1) → b < c
    walked_less b e = omega (arith, latest_le ts (bucket_at ts (c - 1)) (c - 1))

    pub walked_found : eq_state t (get_or ts (c - 1) no_node).0 ≡ true → Found t ts (Some (c - 1))
    walked_found f = (omega (arith, w.low), f)

  pub walked_end : (c : ℕ) → c ≡ 0 → Walked t ts c → Found t ts None
  walked_end c e w = each_places (λ n. eq_state t n.0 ≡ false) ts no_node (λ k h. w.past k (omega arith) h)
