-- Where nobody gains by the prices of the nodes, a flow costs what its trips pay, less what all vehicles do.
use Rattle.std.proofs.Common.{◌≡◌, ◌≢◌, ℕ, zero, suc, ◌<◌, ◌≤◌, List, length, refl, sym, ap, ◌∙◌, arith, inl, inr, ℤ, pos, ◌+ℤ◌, ◌-ℤ◌, ◌*ℤ◌, ◌≤ℤ◌}
use Rattle.std.specs.Prelude.{slice_index}
use Rattle.std.specs.Int.{int_max}
use Rattle.std.specs.List.{range_with_len}
use Rattle.std.proofs.lemmas.Bool.{cases_lt}
use Rattle.std.proofs.lemmas.Int.{ints, clamps}
use Rattle.vs_types.proofs.CallerLemmas.{none_times, times_none, times_sub}
use Rattle.vs_layer.specs.Circulation.{flow_cost}
use Rattle.vs_types.specs.declared.numbers.LayerNo.{LayerNo}
use Rattle.vs_instance.specs.Problem.{Problem}
use Rattle.vs_instance.specs.Ways.{layer_of}
use Rattle.vs_instance.proofs.CallerLemmas.{total-map_add}
use Rattle.vs_match.specs.declared.arc_kind.ArcKind.{ArcKind}
use Rattle.vs_match.specs.declared.arc_kind.ArcKind.TheVariants.{Trip, Waiting, Deadhead, PullOut, PullIn, RestIn, RestWait, RestOut, Return}
use Rattle.vs_match.specs.Decomposition.{vehicles_of}
use Rattle.vs_match.specs.LawfulNets.{IsLawful}
use Rattle.vs_match.specs.LayerGraph.{LayerGraph, kind_of}
use Rattle.vs_path.specs.Residual.{price_at}
use Rattle.vs_circ.specs.node_prices.NodePrices.{IsEmptyMove}
use Rattle.vs_circ.specs.PricedFlows.{IsPricedFlow, arc_pays, end_node, last_arc, vehicle_price}
use Rattle.vs_circ.proofs.low.ArcTotals.{arc_pays_units, cost_by_arcs}
use Rattle.vs_circ.proofs.low.LawfulArcs.{last_inside, last_kind, other_arc, return_arc, return_from}
use Rattle.vs_circ.proofs.low.Reindexing.{over_range, total-only, total-same}
use Rattle.vs_circ.proofs.low.TripArcs.{on_trip, on_trips}

-- an amount on an arc of no trip, nothing on those of trips
abbrev off_trip : ArcKind → ℤ → ℤ
off_trip (Trip i) x = pos 0
off_trip _ x = x

-- an arc is a trip's or it isn't
on_or_off : (kind : ArcKind) (x : ℤ) → x ≡ on_trip kind x +ℤ off_trip kind x
on_or_off (Trip i) x = omega (arith, ints)
on_or_off Waiting x = omega (arith, ints)
on_or_off Deadhead x = omega (arith, ints)
on_or_off PullOut x = omega (arith, ints)
on_or_off PullIn x = omega (arith, ints)
on_or_off RestIn x = omega (arith, ints)
on_or_off RestWait x = omega (arith, ints)
on_or_off RestOut x = omega (arith, ints)
on_or_off Return x = omega (arith, ints)

-- where empty moves have nothing, no arc off the trips has anything but the way back
off_trip-none : (kind : ArcKind) (x : ℤ) → (IsEmptyMove kind → x ≡ pos 0) → kind ≢ Return → off_trip kind x ≡ pos 0
off_trip-none (Trip i) x empty other = refl
off_trip-none Waiting x empty other = empty tt
off_trip-none Deadhead x empty other = empty tt
off_trip-none PullOut x empty other = empty tt
off_trip-none PullIn x empty other = empty tt
off_trip-none RestIn x empty other = empty tt
off_trip-none RestWait x empty other = empty tt
off_trip-none RestOut x empty other = empty tt
off_trip-none Return x empty other = absurd (other refl)

-- vehicles that are used pay what all do: one that is left pays nothing, and one that is used no less than nothing
all_vehicles_pay : (gap : ℤ) (used room : ℕ) → used ≤ room → (used < room → gap ≤ℤ pos 0) → (0 < used → pos 0 ≤ℤ gap)
    → gap *ℤ pos used ≡ int_max (pos 0) gap *ℤ pos room
all_vehicles_pay gap zero room few left some =
    elim (cases_lt 0 room) [
      | inl more ↦
          let worthless = left more in
          let is : int_max (pos 0) gap ≡ pos 0 = omega (arith, ints, clamps) in
          times_none gap ∙ sym (ap (λ (x : ℤ). x *ℤ pos room) is ∙ none_times room)
      | inr none ↦
          let is : room ≡ 0 = omega arith in
          times_none gap ∙ sym (ap (λ (r : ℕ). int_max (pos 0) gap *ℤ pos r) is ∙ times_none (int_max (pos 0) gap))
    ]
all_vehicles_pay gap (suc used) room few left some =
    let worth = some (omega arith) in
    let most : int_max (pos 0) gap ≡ gap = omega (arith, ints, clamps) in
    elim (cases_lt (suc used) room) [
      | inl more ↦
          let worthless = left more in
          let is : gap ≡ pos 0 = omega (arith, ints) in
          ap (λ (x : ℤ). x *ℤ pos (suc used)) is ∙ none_times (suc used)
          ∙ sym (ap (λ (x : ℤ). x *ℤ pos room) (most ∙ is) ∙ none_times room)
      | inr all ↦
          let is : suc used ≡ room = omega arith in
          ap (λ (r : ℕ). gap *ℤ pos r) is ∙ ap (λ (x : ℤ). x *ℤ pos room) (sym most)
    ]

module _ (p : Problem) (l : LayerNo) (n : LayerGraph) (lawful : IsLawful p l.0 n)
    (units : List ℕ) (prices : List ℤ) (flow : IsPricedFlow n units prices) where
  -- empty moves pay nothing
  empty_move_pays : (k : ℕ) → k < length n.graph.arcs → IsEmptyMove (kind_of n k)
      → arc_pays_units n units prices k ≡ pos 0
  empty_move_pays k within empty =
      elim (cases_lt 0 (slice_index units k)) [
        | inl some ↦
            let tight = flow.tight k within empty some in
            let is : arc_pays n prices k ≡ pos 0 = omega (arith, ints) in
            ap (λ (x : ℤ). x *ℤ pos (slice_index units k)) is ∙ none_times (slice_index units k)
        | inr none ↦
            let is : slice_index units k ≡ 0 = omega arith in
            ap (λ (u : ℕ). arc_pays n prices k *ℤ pos u) is ∙ times_none (arc_pays n prices k)
      ]

  -- the way back pays what all vehicles do, but for the sign
  pub return_pays : arc_pays_units n units prices (last_arc n)
      ≡ pos 0 -ℤ vehicle_price n prices *ℤ pos (layer_of p l.0).fleet
  return_pays =
      let back = return_arc p l n lawful in
      let gap = price_at prices 0 -ℤ price_at prices (end_node n) in
      let begin = ap (price_at prices) back.to in
      let end = ap (price_at prices) (return_from p l n lawful) in
      let free = back.cost in
      let pays : arc_pays n prices (last_arc n) ≡ pos 0 -ℤ gap = omega (arith, ints, begin, end, free) in
      let room = back.room in
      let few = flow.fleet in
      let all = all_vehicles_pay gap (vehicles_of n units) (layer_of p l.0).fleet (omega arith)
      (λ less. let is = flow.left (omega arith) in omega (arith, ints))
      (λ more. let is = flow.used more in omega (arith, ints)) in
      let parts = ap (λ (x : ℤ). x *ℤ pos (vehicles_of n units)) pays
      ∙ times_sub (pos 0) gap (vehicles_of n units) in
      let none = none_times (vehicles_of n units) in
      omega (arith, ints, all, parts, none)

  -- the flow costs what its trips' arcs pay, less what all vehicles do
  pub cost_by_trips : flow_cost n.graph units
      ≡ over_range (on_trips n.kinds (arc_pays_units n units prices)) 0 (length n.kinds)
      -ℤ vehicle_price n prices *ℤ pos (layer_of p l.0).fleet
  cost_by_trips =
      let pays = arc_pays_units n units prices in
      let count = length n.graph.arcs in
      let labelled = ap (over_range (on_trips n.kinds pays) 0) lawful.labelled.each_arc in
      let arcs = cost_by_arcs n units flow.each_arc prices (flow.balanced (price_at prices)) in
      let split = total-same pays (λ k. on_trips n.kinds pays k +ℤ off_trip (kind_of n k) (pays k)) 0 count
      (λ k from within. on_or_off (kind_of n k) (pays k)) in
      let both = total-map_add (on_trips n.kinds pays) (λ k. off_trip (kind_of n k) (pays k))
      (range_with_len 0 count) in
      let last = total-only (λ k. off_trip (kind_of n k) (pays k)) (last_arc n) 0 count (omega arith)
      (omega (arith, last_inside p l n lawful))
      (λ k within other. let inside : k < length n.graph.arcs = omega arith in
      off_trip-none (kind_of n k) (pays k) (empty_move_pays k inside) (other_arc p l n lawful k inside other)) in
      let back = ap (λ (x : ArcKind). off_trip x (pays (last_arc n))) (last_kind p l n lawful) in
      let paid = return_pays in
      omega (arith, ints, arcs, split, both, last, back, paid, labelled)
