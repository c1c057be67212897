-- By what a leaf may be split, and whether it may.
use Rattle.std.proofs.Common.{ℕ, ◌<◌, ◌↔◌, List, length, sym, ◌∙◌, arith, refl, Option, None, Some, IsTrue, MatchOption}
use Rattle.std.specs.Option.{is_some}
use Rattle.vs_types.specs.declared.layer_set.LayerSet.{LayerSet}
use Rattle.vs_types.specs.declared.numbers.TripNo.{TripNo}
use Rattle.vs_instance.specs.Problem.{Problem}
use Rattle.vs_match.specs.LayerGraph.{LayerGraph}
use Rattle.vs_multi.specs.Rounds.{IsCase}
use Rattle.vs_bundle.specs.Climbs.{AreSharesFor}
use Rattle.vs_node.specs.declared.leads.Leads.{Leads}
use Rattle.vs_node.specs.SplitRule.{AreLeadsFor, HasChoice, HoldsOfNone, IsLowest}
use Rattle.vs_node.proofs.sets.OneLayer.{layer_inside}

-- leads with a share for each trip and layer of a case are leads for its sets
pub leads_for : (p : Problem) (nets : List LayerGraph) (sets : List LayerSet) (leads : Leads) → IsCase p nets sets
    → AreSharesFor p leads.shares → AreLeadsFor sets leads
leads_for p nets sets leads case shares = record {
  each_trip = shares.each_trip ∙ sym case.restriction.each_trip;
  layers = λ i l stands has.
      let inside : i < length p.trips = omega (arith, stands, case.restriction.each_trip) in
      let few = layer_inside p sets case.nets.instance case.restriction i l inside has in
      omega (arith, few, shares.each_layer);
}

-- where the lowest trip with a choice is found exactly where there is one, it is known whether there is one
pub choice_known : (sets : List LayerSet) (found : Option TripNo)
    → MatchOption found (HoldsOfNone (HasChoice sets) (length sets))
    (λ i. IsLowest (HasChoice sets) (length sets) i.0)
    → IsTrue (is_some found) ↔ ((i : ℕ) × (i < length sets) × HasChoice sets i)
choice_known sets None none = ((λ is. absurd cc), (λ some. absurd (none some.0 some.1 some.2)))
choice_known sets (Some i) lowest = ((λ is. (i.0, lowest.inside, lowest.holds)), (λ some. refl))
