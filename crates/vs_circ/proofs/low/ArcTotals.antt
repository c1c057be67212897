-- What a flow costs, what it gains and what its trips are paid, arc by arc.
use Rattle.std.proofs.Common.{◌≡◌, ℕ, List, [], ◌∷◌, length, refl, sym, ap, ◌∙◌, arith, ℤ, pos, ◌+ℤ◌, ◌-ℤ◌, ◌*ℤ◌}
use Rattle.std.specs.Prelude.{slice_index}
use Rattle.std.proofs.lemmas.Int.{ints}
use Rattle.vs_types.proofs.CallerLemmas.{times_add, times_sub}
use Rattle.vs_layer.specs.declared.arc.Arc.{Arc}
use Rattle.vs_layer.specs.Ends.{no_arc}
use Rattle.vs_layer.specs.Graph.{arc_of}
use Rattle.vs_layer.specs.Circulation.{cost_of_units, flow_cost}
use Rattle.vs_match.specs.declared.arc_kind.ArcKind.{ArcKind}
use Rattle.vs_match.specs.declared.arc_kind.ArcKind.TheVariants.{Return}
use Rattle.vs_match.specs.LayerGraph.{LayerGraph, kind_of}
use Rattle.vs_path.specs.Residual.{price_at}
use Rattle.vs_ship.specs.Balance.{gained}
use Rattle.vs_circ.specs.Circulations.{paid_on, paid_by_units}
use Rattle.vs_circ.specs.PricedFlows.{arc_pays}
use Rattle.vs_circ.proofs.low.Reindexing.{for_units, for_units-by_number, over_range}

-- what an arc costs beyond what it brings by weights of the nodes
abbrev pays_on : (ℕ → ℤ) → Arc → ℤ
pays_on weight a = (a.cost +ℤ weight a.from) -ℤ weight a.to

-- what the units cost is what they pay and what they gain
cost_splits : (weight : ℕ → ℤ) (arcs : List Arc) (units : List ℕ)
    → cost_of_units arcs units ≡ for_units (pays_on weight) no_arc arcs units +ℤ gained weight arcs units
cost_splits weight [] units = refl
cost_splits weight (a ∷ arcs) [] = refl
cost_splits weight (a ∷ arcs) (n ∷ units) =
    let rest = cost_splits weight arcs units in
    let is : a.cost ≡ pays_on weight a +ℤ (weight a.to -ℤ weight a.from) = omega (arith, ints) in
    let here = ap (λ (c : ℤ). c *ℤ pos n) is ∙ times_add (pays_on weight a) (weight a.to -ℤ weight a.from) n in
    omega (arith, ints, rest, here)

-- what the units lose is what they gain, but for the sign
lost_for_units : (weight : ℕ → ℤ) (arcs : List Arc) (units : List ℕ)
    → pos 0 -ℤ gained weight arcs units ≡ for_units (λ a. weight a.from -ℤ weight a.to) no_arc arcs units
lost_for_units weight [] units = omega (arith, ints)
lost_for_units weight (a ∷ arcs) [] = omega (arith, ints)
lost_for_units weight (a ∷ arcs) (n ∷ units) =
    let rest = lost_for_units weight arcs units in
    let gain = times_sub (weight a.to) (weight a.from) n in
    let loss = times_sub (weight a.from) (weight a.to) n in
    omega (arith, ints, rest, gain, loss)

-- what the trips of the units are paid
paid_for_units : (multipliers : List ℤ) (kinds : List ArcKind) (units : List ℕ)
    → paid_by_units multipliers kinds units ≡ for_units (paid_on multipliers) Return kinds units
paid_for_units multipliers [] units = refl
paid_for_units multipliers (kind ∷ kinds) [] = refl
paid_for_units multipliers (kind ∷ kinds) (n ∷ units) =
    ap (λ (g : ℤ). (paid_on multipliers kind *ℤ pos n) +ℤ g) (paid_for_units multipliers kinds units)

module _ (n : LayerGraph) (units : List ℕ) where
  -- what the units on an arc cost beyond what they bring by prices of the nodes
  abbrev pub arc_pays_units : List ℤ → ℕ → ℤ
  arc_pays_units prices k = arc_pays n prices k *ℤ pos (slice_index units k)

  -- what they are paid
  abbrev pub paid_on_units : List ℤ → ℕ → ℤ
  paid_on_units multipliers k = paid_on multipliers (kind_of n k) *ℤ pos (slice_index units k)

  -- what the units on an arc lose by prices of the nodes
  abbrev pub lost_on_units : List ℤ → ℕ → ℤ
  lost_on_units prices k =
      (price_at prices (arc_of n.graph k).from -ℤ price_at prices (arc_of n.graph k).to) *ℤ pos (slice_index units k)

  module _ (sized : length units ≡ length n.graph.arcs) where
    -- what the units lose, by their arcs
    pub lost_by_arcs : (prices : List ℤ)
        → pos 0 -ℤ gained (price_at prices) n.graph.arcs units
        ≡ over_range (lost_on_units prices) 0 (length n.graph.arcs)
    lost_by_arcs prices =
        lost_for_units (price_at prices) n.graph.arcs units
        ∙ for_units-by_number (λ a. price_at prices a.from -ℤ price_at prices a.to) no_arc n.graph.arcs units sized

    -- what the flow costs, by its arcs, where it gains nothing
    pub cost_by_arcs : (prices : List ℤ) → gained (price_at prices) n.graph.arcs units ≡ pos 0
        → flow_cost n.graph units ≡ over_range (arc_pays_units prices) 0 (length n.graph.arcs)
    cost_by_arcs prices balanced =
        let split = cost_splits (price_at prices) n.graph.arcs units in
        let arcs = for_units-by_number (pays_on (price_at prices)) no_arc n.graph.arcs units sized in
        omega (arith, ints, split, arcs, balanced)

    -- what its trips are paid, by its arcs
    pub paid_by_arcs : (multipliers : List ℤ) → length n.kinds ≡ length n.graph.arcs
        → paid_by_units multipliers n.kinds units ≡ over_range (paid_on_units multipliers) 0 (length n.kinds)
    paid_by_arcs multipliers labelled =
        paid_for_units multipliers n.kinds units
        ∙ for_units-by_number (paid_on multipliers) Return n.kinds units (sized ∙ sym labelled)
