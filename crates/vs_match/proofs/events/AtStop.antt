-- The nodes at one stop stand together among those by stops.
use Rattle.std.proofs.Common.{◌≡◌, ℕ, ◌+◌, ◌-◌, ◌<◌, ◌≤◌, true, false, ltb, leb, List, length, get_or, take, drop, inl, inr, arith, sym, ap, ◌∙◌, length-take, length-drop}
use Rattle.std.specs.Prelude.{◌↔◌, Contains, AllPairs}
use Rattle.std.specs.List.Sorted.{IsPartitionPoint, IsNonDecreasingBy}
use Rattle.std.proofs.lemmas.Bool.{cases_lt, cases_eq, ltb-true, ltb-false, leb-true, leb-false}
use Rattle.std.proofs.lemmas.List.{get_or-take, get_or-drop}
use Rattle.vs_types.specs.declared.numbers.StopNo.{StopNo}
use Rattle.vs_match.specs.declared.stop_node.StopNode.{StopNode}
use Rattle.vs_match.specs.StopNodes.{IsStopNodeBefore, IsRising}
use Rattle.vs_match.proofs.walks.WaitingChains.{same_stop}

module _ (stop_nodes : List StopNode) (ordered : AllPairs IsStopNodeBefore stop_nodes) where
  pub stops_rise : IsNonDecreasingBy (λ (s : StopNode). s.stop.0) stop_nodes
  stops_rise i j d le within =
      elim (cases_eq i j) [
        | inl same ↦ omega (arith, ap (λ (k : ℕ). (get_or stop_nodes k d).stop.0) same)
        | inr other ↦
            elim (ordered i j d (omega (arith, le, other)) within) [
              | inl up ↦ omega (arith, up)
              | inr both ↦
                  omega (arith, both.0)
            ]
      ]

  module _ (stop : StopNo) (start finish : ℕ)
      (from : IsPartitionPoint (λ (s : StopNode). ltb s.stop.0 stop.0 ≡ true)
      (λ (s : StopNode). ltb s.stop.0 stop.0 ≡ false) stop_nodes start)
      (to : IsPartitionPoint (λ (s : StopNode). leb s.stop.0 stop.0 ≡ true)
      (λ (s : StopNode). leb s.stop.0 stop.0 ≡ false) stop_nodes finish)
      (within : start ≤ length stop_nodes) (within' : finish ≤ length stop_nodes) (d : StopNode) where
    pub start-≤ : start ≤ finish
    start-≤ = elim (cases_lt finish start) [
      | inl down ↦
          let below = ltb-true _ _ (from.0 finish d (omega arith) down) in
          let above = leb-false _ _ (to.1 finish d (omega arith) (omega arith)) in
          absurd (omega (arith, below, above))
      | inr up ↦ up
    ]

    abbrev here : List StopNode
    here = take (finish - start) (drop start stop_nodes)

    length-here : length here ≡ finish - start
    length-here = omega (arith, length-take (finish - start) (drop start stop_nodes), length-drop start stop_nodes)

    pub few : length here ≤ length stop_nodes
    few = omega (arith, length-here)

    get_or-here : (k : ℕ) (e : StopNode) → k < length here → get_or here k e ≡ get_or stop_nodes (start + k) e
    get_or-here k e inside =
        get_or-take (finish - start) (drop start stop_nodes) k e (omega (arith, inside, length-here))
        ∙ get_or-drop start stop_nodes k e

    at_stop-is : (k : ℕ) (e : StopNode) → k < length here → (get_or stop_nodes (start + k) e).stop ≡ stop
    at_stop-is k e inside =
        let place : start + k < finish = omega (arith, inside, length-here) in
        let above = ltb-false _ _ (from.1 (start + k) e (omega arith) (omega (arith, place))) in
        let below = leb-true _ _ (to.0 (start + k) e (omega arith) place) in
        same_stop _ _ (omega (arith, above, below))

    pub same_stop_nodes : (s : StopNode) → Contains here s ↔ (Contains stop_nodes s × (s.stop ≡ stop))
    same_stop_nodes s = (
      λ (k, inside, is).
          let there = sym (get_or-here k s inside) ∙ is in (
            (start + k, omega (arith, inside, length-here), there),
            ap (λ (x : StopNode). x.stop) (sym there) ∙ at_stop-is k s inside,
          ),
      λ ((k, inside, is), at).
          let number = ap (λ (x : StopNode). x.stop.0) is ∙ ap (λ (x : StopNo). x.0) at in
          let up : start ≤ k = elim (cases_lt k start) [
            | inl before ↦ absurd (omega (arith, number, ltb-true _ _ (from.0 k s (omega arith) before)))
            | inr after ↦ after
          ] in
          let down : k < finish = elim (cases_lt k finish) [
            | inl before ↦ before
            | inr after ↦ absurd (omega (arith, number, leb-false _ _ (to.1 k s after inside)))
          ] in
          let inside' : k - start < length here = omega (arith, length-here, up, down) in
          let place : start + (k - start) ≡ k = omega (arith, up) in
          (k - start, inside', get_or-here (k - start) s inside' ∙ ap (λ (n : ℕ). get_or stop_nodes n s) place ∙ is),
    )

    pub rising : IsRising here
    rising i j e less inside =
        let before = get_or-here i e (omega (arith, less, inside)) in
        let after = get_or-here j e inside in
        let minute = ap (λ (x : StopNode). x.minute) before in
        let minute' = ap (λ (x : StopNode). x.minute) after in
        let stop-is = at_stop-is i e (omega (arith, less, inside)) in
        let stop-is' = at_stop-is j e inside in
        elim (ordered (start + i) (start + j) e (omega (arith, less)) (omega (arith, inside, length-here))) [
          | inl apart ↦
              absurd (omega (arith, apart, ap (λ (x : StopNo). x.0) stop-is, ap (λ (x : StopNo). x.0) stop-is'))
          | inr both ↦ omega (arith, both.1, minute, minute')
        ]
