-- What the units leave at the nodes once an arc carries another number of them.
use Rattle.std.proofs.Common.{◌≡◌, ◌∙◌, ◌<◌, ◌≤◌, ◌*◌, ℕ, ℤ, List, length, get_or, set, ap, arith, pos, ◌+ℤ◌, ◌-ℤ◌, ◌*ℤ◌, length-set}
use Rattle.std.proofs.lemmas.Int.{ints}
use Rattle.vs_types.proofs.CallerLemmas.{times_sub}
use Rattle.vs_layer.specs.declared.arc.Arc.{Arc}
use Rattle.vs_layer.specs.Graph.{Graph, IsNet, arc_of}
use Rattle.vs_path.specs.Residual.{price_at}
use Rattle.vs_ship.specs.Balance.{gained, weighed}
use Rattle.vs_ship.specs.Leaving.{IsLeftBy, passed_along}
use Rattle.vs_ship.proofs.CallerLemmas.{gained-set, passed-total, passed-weighed, passed-within}
use Rattle.vs_circ.specs.shipping.Refitted.{IsMovedOnce}

passed-length : (surplus : List ℤ) (a : Arc) (n : ℕ) → length (passed_along surplus a n) ≡ length surplus
passed-length surplus a n =
    let left : List ℤ = set surplus a.from (price_at surplus a.from -ℤ pos n) in
    length-set left a.to (price_at left a.to +ℤ pos n) ∙ length-set surplus a.from (price_at surplus a.from -ℤ pos n)

module _ (g : Graph) (net : IsNet g) (units : List ℕ) (surplus : List ℤ) (k n : ℕ) (within : k < length g.arcs)
    (sized : length units ≡ length g.arcs) (left : IsLeftBy g units surplus) (back : Arc)
    (back_from : back.from ≡ (arc_of g k).to) (back_to : back.to ≡ (arc_of g k).from) where
  abbrev a : Arc
  a = arc_of g k

  abbrev before : ℕ
  before = get_or units k 0

  -- once the new units went along the arc, and once the former ones came back
  abbrev there : List ℤ
  there = passed_along surplus a n

  abbrev both : List ℤ
  both = passed_along there back before

  from : a.from < length surplus
  from = omega (arith, left.each_node, (net.each_arc k within).from)

  to : a.to < length surplus
  to = omega (arith, left.each_node, (net.each_arc k within).to)

  from_back : back.from < length there
  from_back = omega (arith, passed-length surplus a n, back_from, to)

  to_back : back.to < length there
  to_back = omega (arith, passed-length surplus a n, back_to, from)

  changed-weighed : (weight : ℕ → ℤ) → weighed weight both ≡ gained weight g.arcs (set units k n)
  changed-weighed weight =
      let forth = passed-weighed surplus a n from to weight in
      let again = passed-weighed there back before from_back to_back weight in
      let change = gained-set weight g.arcs units k n within sized in
      let first = left.balanced weight in
      let ends : (weight back.to -ℤ weight back.from) *ℤ pos before ≡ (weight a.from -ℤ weight a.to) *ℤ pos before =
      ap (λ (v : ℕ). (weight v -ℤ weight back.from) *ℤ pos before) back_to
      ∙ ap (λ (v : ℕ). (weight a.from -ℤ weight v) *ℤ pos before) back_from in
      let less = times_sub (weight a.from) (weight a.to) before in
      let more = times_sub (weight a.to) (weight a.from) before in
      omega (arith, ints, forth, again, change, first, ends, less, more)

  pub changed-left : IsLeftBy g (set units k n) both
  changed-left = record {
    each_node = passed-length there back before ∙ passed-length surplus a n ∙ left.each_node;
    balanced = changed-weighed;
    even = passed-total there back before from_back to_back ∙ passed-total surplus a n from to ∙ left.even;
  }

  pub changed-moved : before ≤ 1 → n ≤ 1 → IsMovedOnce surplus both
  changed-moved one_before one count few v =
      let near =
      passed-within there back before from_back to_back (pos (4 * count) +ℤ pos (2 * n))
      (passed-within surplus a n from to (pos (4 * count)) few) v in
      record {
        low = omega (arith, ints, near.low, one_before, one);
        high = omega (arith, ints, near.high, one_before, one);
      }
