-- Are the bytes of a rule that rule again? For every format whose numbers fit their bytes.
use mathlib.Core.Path.{◌≡◌, refl, sym, ap, ◌∙◌}
use mathlib.Core.List.{List, [], ◌∷◌, ◌++◌, map, append_assoc}
use mathlib.Core.Bool.{true, ◌&&◌}
use Prim.Native.Nat.{ℕ, suc, ◌+◌, ◌*◌, ◌^◌, ◌≤◌, ◌<◌}
use native.Mathlib.Nat.{pow-le-pow_right}
use native.Mathlib.Omega.{arith}
use borrow.Author.Tests.{lt-ltb}
use lib.Dec.{eqb}
use lib.ListN.{length, take, drop, take-append-drop, length-append, length-drop}
use lib.Seq.{take_at, drop_at, drop-drop, take-add, length-take-le}
use lib.IntN.{ℤ}
use Rattle.laws.specs.Z.{Within}
use Rattle.laws.specs.Lists.{every, gather, parted}
use Rattle.laws.proofs.Lists.{and_l, and_r, and_both, every_append}
use Rattle.laws.proofs.Parts.{Code, code_fields, parted_append, parted_take, every_take, every_drop}
use Rattle.laws.proofs.Each.{Each, each_every}
use Rattle.meaning.specs.Problem.{Terms, among, sums, Said, Format, holds_terms}
use Rattle.meaning.specs.File.{little, signed, said_of, bytes, signed_bytes, term_bytes, rule_bytes}
use Rattle.meaning.proofs.Faultless.{rising_within, RightLead, RightFields}
use Rattle.meaning.proofs.Table.{Kind, kind_among, kind_sum, Rules, no_rules, rule_first}
use Rattle.meaning.proofs.Bytes.{is_byte, fits, code_little, code_signed, within_fits}

-- each number of the format fits its bytes
pub record Roomy (f : Format) : Type 0 where
  pub version : f.version < 256 ^ 2
  pub weight : 2 * f.weight < 256 ^ 4
  pub coefficient : 2 * f.coefficient < 256 ^ 2
  pub bound : 2 * f.bound < 256 ^ 4
  pub among_lead : 2 * f.among_lead < 256 ^ f.lead_bytes
  pub sum_lead : 2 * f.sum_lead < 256 ^ f.lead_bytes

right_nested : {A : Type 0} (a b c d : List A) → a ++ b ++ c ++ d ≡ a ++ (b ++ (c ++ d))
right_nested a b c d = append_assoc (a ++ b) c d ∙ append_assoc a b (c ++ d)

module _ (f : Format) where
  -- lb, ub and the lead-in
  abbrev bounds : ℤ → ℤ → ℤ → List ℕ
  bounds l u z = signed_bytes 4 l ++ (signed_bytes 4 u ++ signed_bytes f.lead_bytes z)

  bounds_write : (b : List ℕ) → length b ≡ 8 + f.lead_bytes → every is_byte b ≡ true
      → bounds (signed 4 (take 4 b)) (signed 4 (take 4 (drop 4 b))) (signed f.lead_bytes (drop 8 b)) ≡ b
  bounds_write b l e =
      rw (
        (code_signed 4).writes (take 4 b) (length-take-le 4 b (omega arith)) (every_take is_byte 4 b e),
        (code_signed 4).writes (take 4 (drop 4 b)) (length-take-le 4 (drop 4 b) (omega (arith, length-drop 4 b))) (every_take is_byte 4 (drop 4 b) (every_drop is_byte 4 b e)),
        (code_signed f.lead_bytes).writes (drop 8 b) (omega (arith, length-drop 8 b)) (every_drop is_byte 8 b e),
        ← drop-drop 4 4 b,
        take-append-drop 4 (drop 4 b),
      )
      (take-append-drop 4 b)

  bounds_read : (t : Terms) (l u z : ℤ) → fits 4 l ≡ true → fits 4 u ≡ true → fits f.lead_bytes z ≡ true
      → said_of f t (bounds l u z) ≡ record { terms = t; lb = l; ub = u; lead = z }
  bounds_read t l u z a b c =
      let x = signed_bytes 4 u ++ signed_bytes f.lead_bytes z in
      let m = (code_signed 4).long l a in
      let n = (code_signed 4).long u b in
      rw (
        ← drop-drop 4 4 (bounds l u z),
        take_at (signed_bytes 4 l) x 4 m,
        drop_at (signed_bytes 4 l) x 4 m,
        take_at (signed_bytes 4 u) (signed_bytes f.lead_bytes z) 4 n,
        drop_at (signed_bytes 4 u) (signed_bytes f.lead_bytes z) 4 n,
        (code_signed 4).reads l a,
        (code_signed 4).reads u b,
        (code_signed f.lead_bytes).reads z c,
      )

  -- bytes in front of these, m of them
  body_write : (m : ℕ) (b a : List ℕ) → a ≡ take m b → length b ≡ m + 8 + f.lead_bytes → every is_byte b ≡ true
      → (let c = drop m b in a ++ signed_bytes 4 (signed 4 (take 4 c)) ++ signed_bytes 4 (signed 4 (take 4 (drop 4 c))) ++ signed_bytes f.lead_bytes (signed f.lead_bytes (drop 8 c))) ≡ b
  body_write m b a h l e =
      let c = drop m b in
      right_nested a (signed_bytes 4 (signed 4 (take 4 c))) (signed_bytes 4 (signed 4 (take 4 (drop 4 c)))) (signed_bytes f.lead_bytes (signed f.lead_bytes (drop 8 c)))
      ∙ rw (bounds_write c (omega (arith, length-drop m b)) (every_drop is_byte m b e), h) (take-append-drop m b)

  module _ (n : ℕ) where
    -- ---- a body that was read is written again
    coefficients : Code is_byte (n * 2) (gather (signed_bytes 2)) (λ (b : List ℕ). map (signed 2) (parted n 2 b)) (λ (c : List ℤ). every (fits 2) c && eqb (length c) n)
    coefficients = code_fields (code_signed 2) n

    rule_writes : {k l : ℕ} {g : List ℕ → Said} (b : List ℕ) → Kind f n k l g → length b ≡ l → every is_byte b ≡ true → rule_bytes f (g b) ≡ k ∷ b
    rule_writes b kind_among l e =
        let k = f.set_bytes in
        let c = drop k b in
        ap (λ (x : List ℕ). 1 ∷ x)
        (body_write (k + 4) b (bytes k (little (take k b)) ++ bytes 4 (little (take 4 c)))
        (rw (
          (code_little k).writes (take k b) (length-take-le k b (omega arith)) (every_take is_byte k b e),
          (code_little 4).writes (take 4 c) (length-take-le 4 c (omega (arith, length-drop k b))) (every_take is_byte 4 c (every_drop is_byte k b e)),
        )
        (sym (take-add k 4 b)))
        l e)
    rule_writes b kind_sum l e =
        ap (λ (x : List ℕ). 2 ∷ x)
        (body_write (n * 2) b (gather (signed_bytes 2) (map (signed 2) (parted n 2 b)))
        (rw (parted_take n 2 b (omega arith)) (coefficients.writes (take (n * 2) b) (length-take-le (n * 2) b (omega arith)) (every_take is_byte (n * 2) b e)))
        l e)

    rule_holds : {k l : ℕ} {g : List ℕ → Said} (b : List ℕ) → Kind f n k l g → length b ≡ l → every is_byte b ≡ true → holds_terms f n (g b).terms ≡ true
    rule_holds b kind_among l e = (code_little f.set_bytes).fits (take f.set_bytes b) (length-take-le f.set_bytes b (omega arith)) (every_take is_byte f.set_bytes b e)
    rule_holds b kind_sum l e =
        let c = map (signed 2) (parted n 2 (take (n * 2) b)) in
        rw (parted_take n 2 b (omega arith))
        (and_r (every (fits 2) c) (eqb (length c) n) (coefficients.fits (take (n * 2) b) (length-take-le (n * 2) b (omega arith)) (every_take is_byte (n * 2) b e)))

    -- rules that were read are in range, and the bytes that they were read from are theirs
    pub record RulesWhole (j : ℕ) (t : List ℕ) (rs : List Said) (u : List ℕ) : Type 0 where
      pub count : length rs ≡ j
      pub right : Each (RightFields f n) rs
      pub held : every (λ (r : Said). holds_terms f n r.terms) rs ≡ true
      pub whole : t ≡ gather (rule_bytes f) rs ++ u

    pub rules_write : {j : ℕ} {t u : List ℕ} {rs : List Said} → Rules f n j t rs u → every is_byte t ≡ true → RulesWhole j t rs u
    rules_write no_rules e = record { count = refl; right = tt; held = refl; whole = refl }
    rules_write (rule_first {k = k} {l = l} {g = g} {t = t} {u = u} {rs = rs} d h q r) e =
        let b = take l t in
        let m = length-take-le l t h in
        let i = and_r (is_byte k) (every is_byte t) e in
        let w = every_take is_byte l t i in
        let o = rules_write r (every_drop is_byte l t i) in
        record {
          count = ap suc o.count;
          right = (q, o.right);
          held = and_both (holds_terms f n (g b).terms) (every (λ (x : Said). holds_terms f n x.terms) rs) (rule_holds b d m w) o.held;
          whole =
              let rest = gather (rule_bytes f) rs in
              rw (rule_writes b d m w) (ap (λ (x : List ℕ). k ∷ x) (sym (append_assoc b rest u ∙ ap (λ (x : List ℕ). b ++ x) (sym o.whole) ∙ take-append-drop l t)));
        }

    -- ---- a rule that was written is read again
    data Written (r : Said) : Type 0 where
      written : {k l : ℕ} {g : List ℕ → Said} (b : List ℕ) → Kind f n k l g → length b ≡ l → g b ≡ r → rule_bytes f r ≡ k ∷ b → Written r

    abbrev said : Terms → ℤ → ℤ → ℤ → Said
    said t l u z = record { terms = t; lb = l; ub = u; lead = z }

    bounds_long : (l u z : ℤ) → fits 4 l ≡ true → fits 4 u ≡ true → fits f.lead_bytes z ≡ true → length (bounds l u z) ≡ 8 + f.lead_bytes
    bounds_long l u z a b c =
        omega (
          arith,
          length-append (signed_bytes 4 l) (signed_bytes 4 u ++ signed_bytes f.lead_bytes z),
          length-append (signed_bytes 4 u) (signed_bytes f.lead_bytes z),
          (code_signed 4).long l a,
          (code_signed 4).long u b,
          (code_signed f.lead_bytes).long z c,
        )

    module _ (room : Roomy f) (most : n ≤ 32) where
      lead_fits : (t : Terms) (z : ℤ) → RightLead f t z → fits f.lead_bytes z ≡ true
      lead_fits (among s t) z h = within_fits f.lead_bytes f.among_lead room.among_lead z (rising_within f.among_lead z h)
      lead_fits (sums c) z h = within_fits f.lead_bytes f.sum_lead room.sum_lead z h

      bound_fits : (z : ℤ) → Within f.bound z → fits 4 z ≡ true
      bound_fits z h = within_fits 4 f.bound room.bound z h

      rule_written : (t : Terms) (l u z : ℤ) → RightFields f n (said t l u z) → holds_terms f n t ≡ true → Written (said t l u z)
      rule_written (among s t) l u z q h =
          let low = bound_fits l q.low in
          let high = bound_fits u q.high in
          let lead = lead_fits (among s t) z q.lead in
          let k = f.set_bytes in
          let a = bytes k s in
          let b = bytes 4 t in
          let c = bounds l u z in
          let fit = lt-ltb t (256 ^ 4) (omega (arith, q.terms, pow-le-pow_right {n = 2} (omega arith) most)) in
          let m = (code_little k).long s h in
          written (a ++ (b ++ c)) kind_among
          (omega (arith, length-append a (b ++ c), length-append b c, bounds_long l u z low high lead))
          (rw (
            ← drop-drop 4 k (a ++ (b ++ c)),
            take_at a (b ++ c) k m,
            drop_at a (b ++ c) k m,
            (code_little k).reads s h,
            (code_little 4).reads t fit,
          )
          (bounds_read (among s t) l u z low high lead))
          (ap (λ (x : List ℕ). 1 ∷ x) (right_nested (a ++ b) (signed_bytes 4 l) (signed_bytes 4 u) (signed_bytes f.lead_bytes z) ∙ append_assoc a b c))
      rule_written (sums c) l u z q h =
          let low = bound_fits l q.low in
          let high = bound_fits u q.high in
          let lead = lead_fits (sums c) z q.lead in
          let a = gather (signed_bytes 2) c in
          let b = bounds l u z in
          let fit = and_both (every (fits 2) c) (eqb (length c) n) (each_every (fits 2) (Within f.coefficient) (within_fits 2 f.coefficient room.coefficient) c q.terms) h in
          let m = coefficients.long c fit in
          written (a ++ b) kind_sum
          (omega (arith, length-append a b, bounds_long l u z low high lead))
          (rw (parted_append n 2 a b (omega arith), drop_at a b (n * 2) m, coefficients.reads c fit) (bounds_read (sums c) l u z low high lead))
          (ap (λ (x : List ℕ). 2 ∷ x) (right_nested a (signed_bytes 4 l) (signed_bytes 4 u) (signed_bytes f.lead_bytes z)))

      rule_front : {k l j : ℕ} {g : List ℕ → Said} {u : List ℕ} {rs : List Said} (b t : List ℕ) → Kind f n k l g → length b ≡ l → RightFields f n (g b)
          → Rules f n j t rs u → Rules f n (suc j) (k ∷ (b ++ t)) (g b ∷ rs) u
      rule_front {k} {l} {j} {g} {u} {rs} b t d m e r =
          let x = take_at b t l m in
          let w : Rules f n j (drop l (b ++ t)) rs u = rw (drop_at b t l m) r in
          rw x at (rule_first {t = b ++ t} d (omega (arith, length-append b t)) (rw x e) w)

      -- rules in range, written and read again
      pub rules_read_again : (rs : List Said) (u : List ℕ) → Each (RightFields f n) rs → every (λ (r : Said). holds_terms f n r.terms) rs ≡ true
          → Rules f n (length rs) (gather (rule_bytes f) rs ++ u) rs u
      rules_read_again [] u e h = no_rules
      rules_read_again (r ∷ rs) u e h =
          let b = and_l (holds_terms f n r.terms) (every (λ (x : Said). holds_terms f n x.terms) rs) h in
          go (rule_written r.terms r.lb r.ub r.lead e.0 b)
          e.0
          (rules_read_again rs u e.1 (and_r (holds_terms f n r.terms) (every (λ (x : Said). holds_terms f n x.terms) rs) h))
        where
          go : Written r → RightFields f n r → Rules f n (length rs) (gather (rule_bytes f) rs ++ u) rs u
              → Rules f n (suc (length rs)) (rule_bytes f r ++ gather (rule_bytes f) rs ++ u) (r ∷ rs) u
          go (written b d m q w) a t =
              let rest = gather (rule_bytes f) rs in
              rw (w, append_assoc b rest u) (rw q at (rule_front b (rest ++ u) d m (rw q a) t))

  -- what is written is bytes
  pub rules_low : (rs : List Said) → every is_byte (gather (rule_bytes f) rs) ≡ true
  rules_low [] = refl
  rules_low (r ∷ rs) = every_append is_byte (rule_bytes f r) (gather (rule_bytes f) rs) (low r.terms) (rules_low rs)
    where
      front : (t : Terms) → every is_byte (term_bytes f t) ≡ true
      front (among s t) = every_append is_byte (1 ∷ bytes f.set_bytes s) (bytes 4 t) ((code_little f.set_bytes).low s) ((code_little 4).low t)
      front (sums c) = (code_fields (code_signed 2) 0).low c

      low : (t : Terms) → every is_byte (term_bytes f t ++ signed_bytes 4 r.lb ++ signed_bytes 4 r.ub ++ signed_bytes f.lead_bytes r.lead) ≡ true
      low t =
          let a = term_bytes f t ++ signed_bytes 4 r.lb in
          every_append is_byte (a ++ signed_bytes 4 r.ub) (signed_bytes f.lead_bytes r.lead)
          (every_append is_byte a (signed_bytes 4 r.ub) (every_append is_byte (term_bytes f t) (signed_bytes 4 r.lb) (front t) ((code_signed 4).low r.lb)) ((code_signed 4).low r.ub))
          ((code_signed f.lead_bytes).low r.lead)
