-- Places in a flat buffer: node j of layer i, of width w, has k cells; cell v of it stands at (i * w + j) * k + v.
use Rattle.std.specs.Prelude.{◌≡◌, ℕ, suc, ◌+◌, ◌*◌, ◌≤◌, ◌<◌}
use Rattle.std.proofs.Common.{sym, ap, arith, mul-le-mul_right}
use Rattle.std.proofs.Math.Decide.{dec_lt}

abbrev pub cell : ℕ → ℕ → ℕ → ℕ → ℕ → ℕ
cell k w i j v = (i * w + j) * k + v

-- quotient and rest are settled by the number
not_less : (k a b x y : ℕ) → x < k → a * k + x ≡ b * k + y → a < b → ⊥
not_less k a b x y h e l = omega (arith, mul-le-mul_right k l)

pub pair_inj : (k a b x y : ℕ) → x < k → y < k → a * k + x ≡ b * k + y → (a ≡ b) × (x ≡ y)
pair_inj k a b x y h l e = elim (dec_lt a b) [
  | yes f ↦ absurd (not_less k a b x y h e f)
  | no f ↦ elim (dec_lt b a) [
    | yes g ↦ absurd (not_less k b a y x l (sym e) g)
    | no g ↦ let q : a ≡ b = omega arith in (q, omega (arith, ap (λ (c : ℕ). c * k) q))
  ]
]

pub cell_inj : (k w : ℕ) {i j v i' j' v' : ℕ} → v < k → v' < k → j < w → j' < w → cell k w i j v ≡ cell k w i' j' v' → (i ≡ i') × (j ≡ j') × (v ≡ v')
cell_inj k w {i} {j} {v} {i'} {j'} {v'} h h' l l' e =
    let p = pair_inj k (i * w + j) (i' * w + j') v v' h h' e in
    let q = pair_inj w i i' j j' l l' p.0 in
    (q.0, q.1, p.1)

pub cell_below : (k w n : ℕ) {i j v : ℕ} → v < k → j < w → i < n → cell k w i j v < n * w * k
cell_below k w n {i} {j} {v} h l f =
    let rows : suc i * w ≤ n * w = mul-le-mul_right w f in
    let nodes : suc (i * w + j) ≤ n * w = omega arith in
    omega (arith, mul-le-mul_right k nodes)
