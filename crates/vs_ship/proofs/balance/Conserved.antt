-- A flow that gains nothing, whatever the weights, is a circulation, which no arc carries more of than the last.
use Rattle.std.proofs.Common.{◌≡◌, ◌<◌, ◌≤◌, ◌-◌, ◌==◌, ◌∙◌, ℕ, Bool, true, false, cond, leb, List, length, get_or, refl, ap, arith, inl, inr, ℤ, pos, ◌-ℤ◌, ◌≤ℤ◌}
use Rattle.std.specs.List.{range_with_len}
use Rattle.std.proofs.lemmas.Int.{ints}
use Rattle.std.proofs.lemmas.Bool.{cases_lt, leb-true, leb-false, le-leb, lt-leb}
use Rattle.vs_instance.proofs.CallerLemmas.{total-map_sub}
use Rattle.vs_layer.specs.Graph.{Graph, IsNet, arc_of}
use Rattle.vs_layer.specs.Circulation.{units_in, units_out}
use Rattle.vs_ship.specs.Balance.{gained}
use Rattle.vs_ship.proofs.balance.Numbers.{total-range_same}
use Rattle.vs_ship.proofs.balance.AtMost.{gained_on, gained-two_more}
use Rattle.vs_ship.proofs.balance.InOrder.{gained-in_order, sum-filtered}
use Rattle.vs_ship.proofs.balance.Weights.{one_where, passed, passed-is}

-- what comes to a node less what goes, of the units of one arc
in_less_out : (from to : Bool) (n : ℕ) → passed from to n ≡ cond to (pos n) (pos 0) -ℤ cond from (pos n) (pos 0)
in_less_out true true n = omega (arith, ints)
in_less_out true false n = omega (arith, ints)
in_less_out false true n = omega (arith, ints)
in_less_out false false n = omega (arith, ints)

-- the units of an arc that goes on leave the nodes up to one, or don't
forward_passes : (v from to n : ℕ) → from < to → passed (leb from v) (leb to v) n ≤ℤ pos 0
forward_passes v from to n less = go (leb from v) (leb to v) refl refl
  where
    go : (a b : Bool) → leb from v ≡ a → leb to v ≡ b → passed a b n ≤ℤ pos 0
    go true true e f = omega (arith, ints)
    go true false e f = omega (arith, ints)
    go false true e f = absurd (omega (arith, leb-false from v e, leb-true to v f))
    go false false e f = omega (arith, ints)

passes : (a s b t : Bool) (n : ℕ) → a ≡ s → b ≡ t → passed a b n ≡ passed s t n
passes a s b t n e f = ap (λ (x : Bool). passed x b n) e ∙ ap (λ (x : Bool). passed s x n) f

module _ (g : Graph) (units : List ℕ) (sized : length units ≡ length g.arcs)
    (balanced : (weight : ℕ → ℤ) → gained weight g.arcs units ≡ pos 0) where
  -- as many units reach each node as leave it
  pub conserved : (v : ℕ) → units_in g units v ≡ units_out g units v
  conserved v =
      let at : ℕ → Bool = λ u. u == v in
      let comes : ℕ → ℤ = λ k. cond (at (arc_of g k).to) (pos (get_or units k 0)) (pos 0) in
      let goes : ℕ → ℤ = λ k. cond (at (arc_of g k).from) (pos (get_or units k 0)) (pos 0) in
      let none = balanced (one_where at) in
      let sums = gained-in_order (one_where at) g.arcs units sized in
      let each =
      total-range_same (gained_on (one_where at) g.arcs units) (λ k. comes k -ℤ goes k) 0 (length g.arcs)
      (λ k from within. passed-is (at (arc_of g k).from) (at (arc_of g k).to) (get_or units k 0)
      ∙ in_less_out (at (arc_of g k).from) (at (arc_of g k).to) (get_or units k 0)) in
      let both = total-map_sub comes goes (range_with_len 0 (length g.arcs)) in
      let coming = sum-filtered (λ k. get_or units k 0) (λ k. at (arc_of g k).to) 0 (length g.arcs) in
      let going = sum-filtered (λ k. get_or units k 0) (λ k. at (arc_of g k).from) 0 (length g.arcs) in
      omega (arith, ints, none, sums, each, both, coming, going)

  module _ (net : IsNet g) where
    abbrev last : ℕ
    last = length g.arcs - 1

    -- no arc carries more than the last
    pub last-most : (k : ℕ) → k < length g.arcs → get_or units k 0 ≤ get_or units last 0
    last-most k within =
        elim (cases_lt k last) [
          | inr is_last ↦ let e : k ≡ last = omega arith in let same = ap (λ (j : ℕ). get_or units j 0) e in omega
              (arith, same)
          | inl less ↦
              let v = (arc_of g k).from in
              let up : ℕ → Bool = λ u. leb u v in
              let none = balanced (one_where up) in
              let here = net.each_arc k within in
              let most =
              gained-two_more (one_where up) g.arcs units k last sized less (omega arith)
              (λ j below apart.
              let right = net.each_arc j below in
              let gain = passed-is (up (arc_of g j).from) (up (arc_of g j).to) (get_or units j 0) in
              let none_more =
              forward_passes v (arc_of g j).from (arc_of g j).to (get_or units j 0) (right.goes_on.forward
              (omega arith)) in
              omega (arith, ints, gain, none_more)) in
              let out = passed-is (up (arc_of g k).from) (up (arc_of g k).to) (get_or units k 0) in
              let goes =
              passes (up (arc_of g k).from) true (up (arc_of g k).to) false (get_or units k 0) (le-leb v v
              (omega arith))
              (lt-leb (arc_of g k).to v (here.goes_on.forward (omega arith))) in
              let end = net.each_arc last (omega arith) in
              let to_first = end.goes_on.to_first (omega arith) in
              let from_last = end.goes_on.from_last (omega arith) in
              let back = passed-is (up (arc_of g last).from) (up (arc_of g last).to) (get_or units last 0) in
              let comes =
              passes (up (arc_of g last).from) false (up (arc_of g last).to) true (get_or units last 0)
              (lt-leb (arc_of g last).from v (omega (arith, here.to, here.goes_on.forward (omega arith), from_last)))
              (le-leb (arc_of g last).to v (omega (arith, to_first))) in
              omega (arith, ints, none, most, out, goes, back, comes)
        ]
