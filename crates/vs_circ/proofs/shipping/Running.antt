-- The units of a settled shipment are a least circulation, whatever prices are made of it.
use Rattle.std.proofs.Common.{◌≡◌, ◌∙◌, ℕ, ◌<◌, ◌^◌, false, true, ◌↔◌, Bool, List, length, get_or, ap, sym, subst, inl, inr, arith, Option, None, ℤ, ◌-ℤ◌}
use Rattle.std.specs.Prelude.{IsSome}
use Rattle.std.proofs.lemmas.Bool.{cases_lt}
use Rattle.std.proofs.lemmas.List.{get_or_past}
use Rattle.vs_types.specs.declared.numbers.LayerNo.{LayerNo}
use Rattle.vs_layer.specs.Circulation.{flow_cost}
use Rattle.vs_instance.specs.Problem.{Problem}
use Rattle.vs_instance.specs.Instance.{IsInstance}
use Rattle.vs_match.specs.LawfulNets.{IsLawful}
use Rattle.vs_match.specs.LayerGraph.{LayerGraph}
use Rattle.vs_ship.specs.declared.shipment.Shipment.{Shipment}
use Rattle.vs_circ.specs.Circulations.{IsLeastFlow, RunLeast, RunTrip, paid_by_units}
use Rattle.vs_circ.specs.Offers.{AreOffers, IsOffered, multipliers_of}
use Rattle.vs_circ.specs.shipping.Settled.{IsSettled}
use Rattle.vs_circ.proofs.low.Least.{least_flow}
use Rattle.vs_circ.proofs.prices.OfNodes.{of_nodes, of_nodes-hold, of_nodes-pay}

-- what is offered is one of the trips
pub offered-inside : (offers : List (Option ℤ)) (i : ℕ) → IsOffered offers i → i < length offers
offered-inside offers i offered =
    elim (cases_lt i (length offers)) [
      | inl inside ↦ inside
      | inr past ↦
          let none = subst (λ (o : Option ℤ). IsSome o) (get_or_past offers i None past) offered in cc
    ]

module _ (p : Problem) (is : IsInstance p) (l : LayerNo) (n : LayerGraph) (lawful : IsLawful p l.0 n)
    (offers : List (Option ℤ)) (are : AreOffers p l.0 offers) (s : Shipment) (settled : IsSettled n offers s) where
  few_trips : length p.trips < 2 ^ 63
  few_trips = omega (arith, is.few_trips)

  settled-least : IsLeastFlow p l n offers s.flow.units.items
      (flow_cost n.graph s.flow.units.items -ℤ paid_by_units (multipliers_of offers) n.kinds s.flow.units.items)
  settled-least =
      let prices = s.prices.items in
      let size = settled.sized.prices in
      let moves = settled.flow.moves in
      least_flow p l n offers prices s.flow.units.items
      (of_nodes p l.0 n lawful false prices size moves s.prices few_trips) is lawful are settled.circulation
      settled.flow settled.keeps
      (of_nodes-hold p l.0 n lawful false prices size moves s.prices few_trips)
      (of_nodes-pay p l.0 n lawful false prices size moves s.prices few_trips)

  -- where exactly the trips are marked that they run, these run in a least circulation, which costs what they do
  pub marked-least : (units : List ℕ) (marked : List Bool) (cost : ℤ) → units ≡ s.flow.units.items
      → length marked ≡ length offers
      → ((i : ℕ) → i < length marked → (get_or marked i false ≡ true) ↔ RunTrip n units i)
      → cost ≡ flow_cost n.graph s.flow.units.items
      → RunLeast p l n offers marked cost
  marked-least units marked cost same size each costs =
      let Least : List ℕ → Type 0 = λ us.
      IsLeastFlow p l n offers us (flow_cost n.graph us -ℤ paid_by_units (multipliers_of offers) n.kinds us) in
      let least = subst Least (sym same) settled-least in
      record {
        units = units;
        value = flow_cost n.graph units -ℤ paid_by_units (multipliers_of offers) n.kinds units;
        least = least;
        cost_is = costs ∙ ap (flow_cost n.graph) (sym same);
        runs = λ i. (
          λ run.
              elim (cases_lt i (length marked)) [
                | inl inside ↦ (each i inside).0 run
                | inr past ↦ let never = get_or_past marked i false past in cc
              ],
          λ run. (each i (omega (arith, size, offered-inside offers i (least.offered i run)))).1 run,
        );
      }
