-- Which bounds has a loop over the rules stored after r of them?
use mathlib.Core.Path.{◌≡◌, sym, ap, ◌∙◌}
use mathlib.Core.List.{List, map, map-map}
use Prim.Native.Nat.{ℕ, ◌+◌, ◌≤◌, ◌<◌}
use native.Mathlib.Omega.{arith}
use lib.ListN.{length, get_or, set, replicate, length-map}
use lib.IntN.{ℤ, pos, neg_ℤ, ◌-ℤ◌}
use Rattle.laws.specs.Z.{Within, widen, back, back_is}
use Rattle.laws.specs.Lists.{from, padded}
use Rattle.laws.proofs.Each.{each_map, each_from}
use Rattle.laws.proofs.Lists.{length_from}
use Rattle.laws.proofs.Filled.{length-padded, take-padded, get_or-padded}
use Rattle.meaning.specs.Problem.{version1, rule_of}
use Rattle.meaning.specs.Diagram as paper
use Rattle.problem.specs.declared.Problem.{Problem}
use Rattle.problem.specs.Held.{said_at, campaign_of}
use Rattle.problem.proofs.Faultless.{Right}
use Rattle.numbers.specs.Whole.{Bounding}
use Rattle.numbers.proofs.Limit.{least_is, most_is, least_within, most_within}
use Rattle.slot.specs.Tables.{leasts_in, mosts_in, leasts_of, mosts_of, Tabled}
use Rattle.slot.proofs.Said.{map-from, leasts_at, mosts_at}
use Rattle.lent.proofs.Places.{made_at}
use Rattle.state.specs.declared.Pair.{Pair}
use Rattle.state.specs.Pairs.{pair_of, Inside}
use Rattle.lent.proofs.Lanes.{neg_neg}
use Rattle.rows.proofs.Cells.{turned}
use Rattle.state.proofs.Joined.{no_pair}
use Rattle.state.proofs.Padded.{bounds_of, inside_padded}
use Rattle.state.proofs.Turns.{filled, stored}
use Rattle.building.specs.Layers.{bounds_at}
use Rattle.building.proofs.Lists.{padded_front}

-- the bounds of every rule
abbrev pub bounds_in : Problem → paper.State
bounds_in p = map bounds_of (campaign_of p).rules

pub bounds_said : {p : Problem} {coefs : List ℤ} {values : List ℕ} → Tabled p coefs values → bounds_at p.rules (leasts_in coefs) (mosts_in coefs) ≡ bounds_in p
bounds_said {p} t =
    let ks = from 0 p.rules in
    (λ d. bounds_at p.rules (t.leasts_are d) (t.mosts_are d))
    ∙ map-from (λ k. (get_or (mosts_of p) k (pos 0), get_or (leasts_of p) k (pos 0))) (λ k. ((said_at p k).ub, (said_at p k).lb)) 0 p.rules (λ k l d. (mosts_at p k d, leasts_at p k d))
    ∙ sym (map-map bounds_of rule_of (map (said_at p) ks) ∙ map-map (λ k. (k.ub, k.lb)) (said_at p) ks)

module _ (m : ℕ) (coefs : List ℤ) where
  abbrev lbs : List ℤ
  lbs = leasts_in coefs

  abbrev ubs : List ℤ
  ubs = mosts_in coefs

  abbrev all : paper.State
  all = bounds_at m lbs ubs

  pub record Bounded (l : List Pair) (r : ℕ) : Type 0 where
    pub is : map pair_of l ≡ filled r (padded 8 no_pair all) (replicate 8 no_pair)

  bounds_long : length all ≡ m
  bounds_long = length-map (from 0 m) (λ k. (get_or ubs k (pos 0), get_or lbs k (pos 0))) ∙ length_from 0 m

  module _ (right : Bounding m lbs ubs) {l : List Pair} {r : ℕ} (b : Bounded l r) where
    pub bounded_more : (x : Pair) → r < m → x ≡ record { lo = back (get_or coefs (224 + r) (pos 0)); hi = back (pos 0 -ℤ back (get_or coefs (216 + r) (pos 0))) } → Bounded (set l r x) (r + 1)
    bounded_more x h e =
        let few : r < 8 = omega (arith, right.few) in
        let value = get_or-padded 8 all r no_pair (omega (arith, bounds_long, right.few)) ∙ made_at (λ k. (get_or ubs k (pos 0), get_or lbs k (pos 0))) m r no_pair h in
        let least = least_within coefs right h in
        record {
          is =
              stored pair_of l r x (padded 8 no_pair all) (replicate 8 no_pair) no_pair (omega (arith, length-padded no_pair 8 all, few)) (omega (arith, few)) b.is
              (ap pair_of e ∙ (λ d. ((back_is (most_within coefs right h) tt ∙ most_is coefs right h) d, (ap neg_ℤ (turned least tt) ∙ neg_neg (get_or coefs (216 + r) (pos 0)) ∙ least_is coefs right h) d)) ∙ sym value);
        }

    pub bounded_end : r ≡ m → map pair_of l ≡ padded 8 no_pair all
    bounded_end h =
        let few : length all ≤ 8 = omega (arith, bounds_long, right.few) in
        let whole : r ≡ length all = omega (arith, bounds_long) in
        b.is ∙ rw (whole, take-padded no_pair 8 all few) (padded_front no_pair 8 all few)

-- how large they are
pub bounds_inside : (p : Problem) → Right version1 p → Inside 10000000 (padded 8 no_pair (bounds_in p))
bounds_inside p h =
    inside_padded 10000000 8 (bounds_in p)
    (rw (map-map bounds_of rule_of (map (said_at p) (from 0 p.rules)), map-map {C = paper.Pair} (λ k. (k.ub, k.lb)) (said_at p) (from 0 p.rules))
    (each_map (λ k. k < p.rules) (λ q. Within 10000000 q.0 × Within 10000000 q.1) (λ k. ((said_at p k).ub, (said_at p k).lb)) one (from 0 p.rules) (each_from (λ k. k < p.rules) 0 p.rules (λ k l. omega arith))))
  where
    one : (k : ℕ) → k < p.rules → Within 10000000 (said_at p k).ub × Within 10000000 (said_at p k).lb
    one k l = let f = (h.rule k l).fields in (widen {n = 10000000} tt f.high, widen {n = 10000000} tt f.low)
