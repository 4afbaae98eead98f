-- When is each of the refusal numbers 1 to 7 given? The paper's table, its faults in file order, and what an accepted file is.
use mathlib.Core.Path.{◌≡◌}
use mathlib.Core.List.{List, [], ◌∷◌, map}
use Prim.Native.Nat.{ℕ, suc, ◌+◌, ◌*◌, ◌≤◌, ◌<◌}
use lib.ListN.{length, get_or, take, drop}
use lib.IntN.{ℤ}
use Rattle.laws.specs.Z.{Within}
use Rattle.laws.specs.Lists.{parted}
use Rattle.laws.proofs.Lists.{In}
use Rattle.laws.proofs.Each.{Each}
use Rattle.meaning.specs.Problem.{Said, Problem, Format, version1}
use Rattle.meaning.specs.File.{little, signed, among_body, sum_body, mark}
use Rattle.meaning.proofs.Faultless.{HeadRange, RightFields}

-- ---- what stands in a file
-- the file versions of the paper
pub data Known : Format → Type 0 where
  -- "the version, 1"
  known1 : Known version1

-- n and m
abbrev pub slot_count : List ℕ → ℕ
slot_count s = get_or s 5 0

abbrev pub rule_count : List ℕ → ℕ
rule_count s = get_or s 6 0

-- the step sets, what follows them, the weights, and what follows these
module _ (s : List ℕ) (f : Format) where
  abbrev pub sets_in : List ℕ
  sets_in = map little (parted (slot_count s) f.set_bytes (take (slot_count s * f.set_bytes) (drop 7 s)))

  abbrev pub behind_sets : List ℕ
  behind_sets = drop (slot_count s * f.set_bytes) (drop 7 s)

  abbrev pub weights_in : List ℤ
  weights_in = map (signed 4) (parted (slot_count s) 4 (take (slot_count s * 4) behind_sets))

  abbrev pub behind_weights : List ℕ
  behind_weights = drop (slot_count s * 4) behind_sets

  -- the problem with these rules
  abbrev pub problem_in : List Said → Problem
  problem_in rs = record { sets = sets_in; weights = weights_in; rules = rs }

-- ---- no earlier fault stands
-- the head is there and right
pub record HeadRight (s : List ℕ) (f : Format) : Type 0 where
  -- "the 7-byte head" is complete
  pub complete : 7 ≤ length s
  -- "Bytes 0 to 2 are the letters RTP"
  pub marked : take 3 s ≡ mark
  -- f is the format of a version of the paper
  pub known : Known f
  -- "Bytes 3 and 4 are the version"
  pub version : little (take 2 (drop 3 s)) ≡ f.version
  -- n and m within their ranges
  pub range : HeadRange (slot_count s) (rule_count s)

-- the step sets are there and right
pub record SetsRight (s : List ℕ) (f : Format) : Type 0 where
  -- all before them is right
  pub head : HeadRight s f
  -- "all step sets present"
  pub complete : slot_count s * f.set_bytes ≤ length (drop 7 s)
  -- "never zero"
  pub allowing : In 0 (sets_in s f) → ⊥

-- the weights are there and right
pub record WeightsRight (s : List ℕ) (f : Format) : Type 0 where
  -- all before them is right
  pub sets : SetsRight s f
  -- "all weights present"
  pub complete : slot_count s * 4 ≤ length (behind_sets s f)
  -- each within its range: in version 1 "−10,000 to 10,000"
  pub range : Each (Within f.weight) (weights_in s f)

module _ (f : Format) (n : ℕ) where
  -- a kind, the bytes of its body, and what they say
  pub data Kind : ℕ → ℕ → (List ℕ → Said) → Type 0 where
    -- "1, among"
    kind_among : Kind 1 (f.set_bytes + 4 + 8 + f.lead_bytes) (among_body f)
    -- "2, sum"
    kind_sum : Kind 2 (n * 2 + 8 + f.lead_bytes) (sum_body f n)

  -- some rules, complete and right, stand in front of other bytes
  pub data Rules : ℕ → List ℕ → List Said → List ℕ → Type 0 where
    -- none
    no_rules : {t : List ℕ} → Rules 0 t [] t
    -- "its kind byte present, its kind, its body present, its fields"; then the others
    rule_first : {k l j : ℕ} {g : List ℕ → Said} {t u : List ℕ} {rs : List Said}
        → Kind k l g → l ≤ length t → RightFields f n (g (take l t)) → Rules j (drop l t) rs u → Rules (suc j) (k ∷ t) (g (take l t) ∷ rs) u

-- the first j rules are right, and t follows them
pub record RulesRight (s : List ℕ) (f : Format) (j : ℕ) (rs : List Said) (t : List ℕ) : Type 0 where
  -- all before them is right
  pub weights : WeightsRight s f
  -- each complete and right
  pub rules : Rules f (slot_count s) j (behind_weights s f) rs t

-- ---- the table
-- "given exactly when no earlier fault stands and": a fault and its number
pub data Row (s : List ℕ) : ℕ → Type 0 where
  -- "the file ends before the 7-byte head" is complete
  head_ends : length s < 7 → Row s 1
  -- "mark wrong"
  mark_wrong : 7 ≤ length s → (take 3 s ≡ mark → ⊥) → Row s 2
  -- "version not 1"
  version_wrong : 7 ≤ length s → take 3 s ≡ mark → (little (take 2 (drop 3 s)) ≡ 1 → ⊥) → Row s 3
  -- "n or m outside its range"
  head_wrong : {f : Format} → 7 ≤ length s → take 3 s ≡ mark → Known f → little (take 2 (drop 3 s)) ≡ f.version → (HeadRange (slot_count s) (rule_count s) → ⊥) → Row s 4
  -- the file ends before "the n step sets" are complete
  sets_end : {f : Format} → HeadRight s f → length (drop 7 s) < slot_count s * f.set_bytes → Row s 1
  -- "a step set is zero"
  set_zero : {f : Format} → HeadRight s f → slot_count s * f.set_bytes ≤ length (drop 7 s) → In 0 (sets_in s f) → Row s 5
  -- the file ends before "the 4n weight bytes" are complete
  weights_end : {f : Format} → SetsRight s f → length (behind_sets s f) < slot_count s * 4 → Row s 1
  -- "a weight outside its range"
  weight_wrong : {f : Format} {w : ℤ} → SetsRight s f → slot_count s * 4 ≤ length (behind_sets s f) → In w (weights_in s f) → (Within f.weight w → ⊥) → Row s 5
  -- the file ends before "a kind byte" is there
  kind_ends : {f : Format} {j : ℕ} {rs : List Said} → RulesRight s f j rs [] → j < rule_count s → Row s 1
  -- "a rule with another kind"
  kind_wrong : {f : Format} {j k : ℕ} {rs : List Said} {t : List ℕ} → RulesRight s f j rs (k ∷ t) → j < rule_count s → (k ≡ 1 → ⊥) → (k ≡ 2 → ⊥) → Row s 6
  -- the file ends before "a rule's body is complete"
  body_ends : {f : Format} {j k l : ℕ} {g : List ℕ → Said} {rs : List Said} {t : List ℕ}
      → RulesRight s f j rs (k ∷ t) → j < rule_count s → Kind f (slot_count s) k l g → length t < l → Row s 1
  -- "a field outside its range, or lb above ub"
  field_wrong : {f : Format} {j k l : ℕ} {g : List ℕ → Said} {rs : List Said} {t : List ℕ}
      → RulesRight s f j rs (k ∷ t) → j < rule_count s → Kind f (slot_count s) k l g → l ≤ length t → (RightFields f (slot_count s) (g (take l t)) → ⊥) → Row s 6
  -- "bytes after the last rule"
  bytes_left : {f : Format} {rs : List Said} {t : List ℕ} → RulesRight s f (rule_count s) rs t → 0 < length t → Row s 7

-- all parts are right and nothing follows
pub data Accepted (s : List ℕ) : Problem → Type 0 where
  -- m rules, and no "bytes after the last rule"
  accepted : {f : Format} {rs : List Said} → RulesRight s f (rule_count s) rs [] → Accepted s (problem_in s f rs)
