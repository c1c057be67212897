-- What units leave at the nodes, arc by arc.
use Rattle.std.proofs.Common.{◌≡◌, ◌≢◌, ◌<◌, ◌+◌, ◌*◌, ◌∙◌, ℕ, zero, suc, List, length, map, set, ap, arith, inl, inr, ℤ, pos, ◌+ℤ◌, ◌-ℤ◌, ◌*ℤ◌, length-set}
use Rattle.std.specs.List.{range_with_len}
use Rattle.std.proofs.lemmas.Int.{ints}
use Rattle.std.proofs.lemmas.Bool.{cases_eq}
use Rattle.std.proofs.lemmas.List.{get_or-set_same, get_or-set_other}
use Rattle.vs_types.proofs.CallerLemmas.{times_more, times_none, times_sub}
use Rattle.vs_instance.proofs.CallerLemmas.{same_totals, total-range_next}
use Rattle.vs_layer.specs.declared.arc.Arc.{Arc}
use Rattle.vs_layer.specs.Ends.{arc_at}
use Rattle.vs_instance.specs.Lagrangian.{total}
use Rattle.vs_path.specs.Residual.{AllWithin, IsWithin, price_at}
use Rattle.vs_ship.specs.Balance.{weighed}
use Rattle.vs_ship.specs.Leaving.{passed_along}
use Rattle.vs_ship.proofs.balance.AtMost.{gained_on}
use Rattle.vs_ship.proofs.balance.Gained.{arc_gain}
use Rattle.vs_ship.proofs.balance.Numbers.{times_suc, total-set}
use Rattle.vs_ship.proofs.balance.Weighed.{weighed-set}

-- a product with so many more
times_plus : (x z : ℤ) (n : ℕ) → x *ℤ (z +ℤ pos n) ≡ x *ℤ z +ℤ x *ℤ pos n
times_plus x z zero =
    let e : z +ℤ pos 0 ≡ z = omega (arith, ints) in
    let same = ap (λ (y : ℤ). x *ℤ y) e in
    let none = times_none x in
    omega (arith, ints, same, none)
times_plus x z (suc n) =
    let rest = times_plus x z n in
    let e : z +ℤ pos (suc n) ≡ (z +ℤ pos n) +ℤ pos 1 = omega (arith, ints) in
    let same = ap (λ (y : ℤ). x *ℤ y) e in
    let more = times_suc x (z +ℤ pos n) in
    let f : pos (suc n) ≡ pos (n + 1) = omega (arith, ints) in
    let product = ap (λ (y : ℤ). x *ℤ y) f in
    let last = times_more x n in
    omega (arith, ints, rest, same, more, product, last)

times_minus : (x z : ℤ) (n : ℕ) → x *ℤ (z -ℤ pos n) ≡ x *ℤ z -ℤ x *ℤ pos n
times_minus x z n =
    let e : (z -ℤ pos n) +ℤ pos n ≡ z = omega (arith, ints) in
    let same = ap (λ (y : ℤ). x *ℤ y) e in
    let sum = times_plus x (z -ℤ pos n) n in
    omega (arith, ints, same, sum)

module _ (surplus : List ℤ) (a : Arc) (n : ℕ) (from : a.from < length surplus) (to : a.to < length surplus) where
  abbrev left : List ℤ
  left = set surplus a.from (price_at surplus a.from -ℤ pos n)

  to-left : a.to < length left
  to-left = omega (arith, length-set surplus a.from (price_at surplus a.from -ℤ pos n))

  -- the weight that the units gain
  pub passed-weighed : (weight : ℕ → ℤ) → weighed weight (passed_along surplus a n)
      ≡ weighed weight surplus +ℤ ((weight a.to -ℤ weight a.from) *ℤ pos n)
  passed-weighed weight =
      let first = weighed-set weight surplus a.from (price_at surplus a.from -ℤ pos n) from in
      let second = weighed-set weight left a.to (price_at left a.to +ℤ pos n) to-left in
      let less = times_minus (weight a.from) (price_at surplus a.from) n in
      let more = times_plus (weight a.to) (price_at left a.to) n in
      let both = times_sub (weight a.to) (weight a.from) n in
      omega (arith, ints, first, second, less, more, both)

  pub passed-total : total (passed_along surplus a n) ≡ total surplus
  passed-total =
      let first = total-set surplus a.from (price_at surplus a.from -ℤ pos n) from in
      let second = total-set left a.to (price_at left a.to +ℤ pos n) to-left in
      omega (arith, ints, first, second)

  pub near_at : (v : ℕ) (bound : ℤ) → IsWithin bound (price_at surplus v) → IsWithin (bound +ℤ pos n) (price_at left v)
  near_at v bound within =
      elim (cases_eq v a.from) [
        | inl same ↦
            let at = ap (price_at left) same in
            let is = get_or-set_same surplus a.from (price_at surplus a.from -ℤ pos n) (pos 0) from in
            let was = ap (price_at surplus) same in
            record {
              low = omega (arith, ints, at, is, was, within.low, within.high);
              high = omega (arith, ints, at, is, was, within.low, within.high);
            }
        | inr other ↦
            let is = get_or-set_other surplus a.from v (price_at surplus a.from -ℤ pos n) (pos 0) (λ e. other e) in
            record {
              low = omega (arith, ints, is, within.low, within.high);
              high = omega (arith, ints, is, within.low, within.high);
            }
      ]

  -- no surplus comes much farther from 0
  pub passed-within : (bound : ℤ) → AllWithin bound surplus
      → AllWithin (bound +ℤ pos (2 * n)) (passed_along surplus a n)
  passed-within bound within v =
      let before = near_at v bound (within v) in
      elim (cases_eq v a.to) [
        | inl same ↦
            let at = ap (price_at (passed_along surplus a n)) same in
            let is = get_or-set_same left a.to (price_at left a.to +ℤ pos n) (pos 0) to-left in
            let was = ap (price_at left) same in
            record {
              low = omega (arith, ints, at, is, was, before.low, before.high);
              high = omega (arith, ints, at, is, was, before.low, before.high);
            }
        | inr other ↦
            let is = get_or-set_other left a.to v (price_at left a.to +ℤ pos n) (pos 0) (λ e. other e) in
            record {
              low = omega (arith, ints, is, before.low, before.high);
              high = omega (arith, ints, is, before.low, before.high);
            }
      ]

-- the numbers that are written are those
pub passed-as : (surplus : List ℤ) (a : Arc) (n : ℕ) (x y : ℤ) → x ≡ price_at surplus a.from -ℤ pos n
    → y ≡ price_at (set surplus a.from (price_at surplus a.from -ℤ pos n)) a.to +ℤ pos n
    → set (set surplus a.from x) a.to y ≡ passed_along surplus a n
passed-as surplus a n x y first second =
    ap (λ (z : ℤ). set (set surplus a.from z) a.to y) first
    ∙ ap (λ (z : ℤ). set (set surplus a.from (price_at surplus a.from -ℤ pos n)) a.to z) second

-- what the first arcs gain, with so many units on the next one
pub gained-set : (weight : ℕ → ℤ) (arcs : List Arc) (units : List ℕ) (k n : ℕ) → k < length units
    → total (map (gained_on weight arcs (set units k n)) (range_with_len 0 (k + 1)))
    ≡ total (map (gained_on weight arcs units) (range_with_len 0 k)) +ℤ (arc_gain weight (arc_at arcs k) *ℤ pos n)
gained-set weight arcs units k n within =
    let more = total-range_next (gained_on weight arcs (set units k n)) k in
    let here =
    ap (λ (m : ℕ). arc_gain weight (arc_at arcs k) *ℤ pos m) (get_or-set_same units k n 0 within) in
    let before =
    same_totals (gained_on weight arcs (set units k n)) (gained_on weight arcs units) 0 k
    (λ j from below.
    let other : j ≢ k = λ e. omega (arith, below) in
    ap (λ (m : ℕ). arc_gain weight (arc_at arcs j) *ℤ pos m) (get_or-set_other units k j n 0 (λ e. other e))) in
    omega (arith, ints, more, here, before)
