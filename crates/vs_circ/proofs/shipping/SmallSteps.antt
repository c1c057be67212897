-- With the multipliers taken off, no arc of a lawful net costs more than a step may in a net of so many nodes. It has
-- at most three nodes for each trip and two more, and what an arc costs and a trip is paid falls with the number of
-- trips.
use Rattle.std.proofs.Common.{◌≡◌, ℕ, ◌+◌, ◌*◌, ◌≤◌, List, [], length, max, inl, inr, arith, ℤ, pos, ◌-ℤ◌, ◌≤ℤ◌, Option, Some, None}
use Rattle.std.specs.Prelude.{IfSome, nat_abs}
use Rattle.std.proofs.Math.Nat.{div-mul-le_self, le-div_iff_mul-le, le-max_left, le-max_right}
use Rattle.std.proofs.lemmas.Bool.{cases_lt}
use Rattle.std.proofs.lemmas.Int.{ints}
use Rattle.std.proofs.lemmas.Nat.{mul-le}
use Rattle.vs_types.specs.declared.numbers.LayerNo.{LayerNo}
use Rattle.vs_layer.specs.declared.arc.Arc.{Arc}
use Rattle.vs_layer.specs.Graph.{arc_of}
use Rattle.vs_instance.specs.declared.limits.TheConstants.{MAX_DEAREST_SUM, MAX_MULTIPLIER, MAX_MULTIPLIER_SUM, USUAL_TRIPS}
use Rattle.vs_instance.specs.Dearest.{most_multiplier}
use Rattle.vs_instance.specs.Problem.{Problem}
use Rattle.vs_instance.specs.Instance.{IsInstance}
use Rattle.vs_match.specs.declared.arc_kind.ArcKind.{ArcKind}
use Rattle.vs_match.specs.declared.arc_kind.ArcKind.TheVariants.{Trip, Waiting, Deadhead, PullOut, PullIn, RestIn, RestWait, RestOut, Return}
use Rattle.vs_match.specs.declared.layer_net.TheConstants.{MAX_ARC_COST}
use Rattle.vs_match.specs.LawfulNets.{IsLawful}
use Rattle.vs_match.specs.LayerGraph.{LayerGraph, kind_of}
use Rattle.vs_path.specs.declared.residual.TheConstants.{MAX_PATH_COST, MAX_STEP_COST}
use Rattle.vs_path.specs.StepCosts.{most_step}
use Rattle.vs_path.specs.Residual.{IsWithin}
use Rattle.vs_circ.specs.Offers.{AreOffers, offer_of, paid}
use Rattle.vs_circ.specs.shipping.Prepared.{AreSmallSteps, offered_cost}
use Rattle.vs_circ.proofs.shipping.SmallArcs.{payable_arcs, small_arcs}

-- an amount that is small by itself and as often as there are trips is no more than a step may cost
module _ (trips nodes amount : ℕ) (few : nodes ≤ 3 * trips + 2) (small : amount ≤ nat_abs MAX_STEP_COST)
    (all : trips * amount ≤ 240000000000000000) where
  -- where there are as few trips as in a text of version 1 or 2
  when_few : trips ≤ USUAL_TRIPS → amount * max nodes 6002 ≤ nat_abs MAX_PATH_COST
  when_few usual =
      let nodes_few : max nodes 6002 ≤ 6002 = omega (arith, few, usual) in
      let most = mul-le amount (max nodes 6002) (nat_abs MAX_STEP_COST) 6002 small nodes_few in
      omega (arith, most)

  -- where there are more
  when_many : USUAL_TRIPS ≤ trips → amount * max nodes 6002 ≤ nat_abs MAX_PATH_COST
  when_many many =
      let nodes_few : max nodes 6002 ≤ 3 * trips + 2 = omega (arith, few, many) in
      let most = mul-le amount (max nodes 6002) amount (3 * trips + 2) (omega arith) nodes_few in
      let parts : amount * (3 * trips + 2) ≡ 3 * (trips * amount) + 2 * amount = omega arith in
      omega (arith, most, parts, all, small)

  pub amount-step : amount ≤ most_step nodes
  amount-step =
      let product : amount * max nodes 6002 ≤ nat_abs MAX_PATH_COST =
      elim (cases_lt trips USUAL_TRIPS) [
        | inl less ↦ when_few (omega arith)
        | inr more ↦ when_many more
      ] in
      let some = le-max_right nodes 6002 in
      (le-div_iff_mul-le {k = max nodes 6002} {x = amount} {y = nat_abs MAX_PATH_COST} (omega (arith, some))).1
      product

-- what trips are paid, as often as there are trips
pub paid-all : (trips paid : ℕ) → paid ≤ most_multiplier trips → trips * paid ≤ nat_abs MAX_MULTIPLIER_SUM
paid-all trips paid few =
    let more = mul-le trips paid (max trips USUAL_TRIPS) (most_multiplier trips) (le-max_left trips USUAL_TRIPS) few in
    let whole = div-mul-le_self (nat_abs MAX_MULTIPLIER_SUM) (max trips USUAL_TRIPS) in
    omega (arith, more, whole)

module _ (p : Problem) (is : IsInstance p) (l : LayerNo) (n : LayerGraph) (lawful : IsLawful p l.0 n) where
  -- an arc of which nothing is taken off, and one of which a multiplier is
  step_of : (a : Arc) (paid : ℤ) → pos 0 ≤ℤ a.cost → a.cost ≤ℤ MAX_ARC_COST
      → length p.trips * nat_abs a.cost ≤ 1000 * MAX_DEAREST_SUM → pos 0 ≤ℤ paid → paid ≤ℤ MAX_MULTIPLIER
      → paid ≤ℤ pos (most_multiplier (length p.trips))
      → IsWithin (pos (most_step n.graph.nodes)) (a.cost -ℤ paid)
  step_of a paid no_gain limit payable some most payable' =
      let amount : ℕ = nat_abs a.cost + nat_abs paid in
      let small : amount ≤ nat_abs MAX_STEP_COST = omega (arith, ints, no_gain, limit, some, most) in
      let pays = paid-all (length p.trips) (nat_abs paid) (omega (arith, ints, some, payable')) in
      let all : length p.trips * amount ≤ 240000000000000000 = omega (arith, payable, pays) in
      let step = amount-step (length p.trips) n.graph.nodes amount lawful.few_nodes small all in
      record {
        low = omega (arith, ints, no_gain, some, step);
        high = omega (arith, ints, no_gain, some, step);
      }

  by_offer : (offer : Option ℤ) (a : Arc) → pos 0 ≤ℤ a.cost → a.cost ≤ℤ MAX_ARC_COST
      → length p.trips * nat_abs a.cost ≤ 1000 * MAX_DEAREST_SUM
      → IfSome offer (λ m. (pos 0 ≤ℤ m) × (m ≤ℤ MAX_MULTIPLIER))
      → IfSome offer (λ m. m ≤ℤ pos (most_multiplier (length p.trips)))
      → IsWithin (pos (most_step n.graph.nodes)) (a.cost -ℤ paid offer)
  by_offer None a no_gain limit payable small few =
      step_of a (pos 0) no_gain limit payable (omega (arith, ints)) (omega (arith, ints)) (omega (arith, ints))
  by_offer (Some m) a no_gain limit payable small few = step_of a m no_gain limit payable small.0 small.1 few

  module _ (offers : List (Option ℤ)) (within : (i : ℕ) → IfSome (offer_of offers i) (λ m. (pos 0 ≤ℤ m)
      × (m ≤ℤ MAX_MULTIPLIER)))
      (few : (i : ℕ) → IfSome (offer_of offers i) (λ m. m ≤ℤ pos (most_multiplier (length p.trips)))) where
    bare : (a : Arc) → pos 0 ≤ℤ a.cost → a.cost ≤ℤ MAX_ARC_COST
        → length p.trips * nat_abs a.cost ≤ 1000 * MAX_DEAREST_SUM → IsWithin (pos (most_step n.graph.nodes)) a.cost
    bare a no_gain limit payable =
        let step = by_offer None a no_gain limit payable tt tt in
        record { low = omega (arith, ints, step.low); high = omega (arith, ints, step.high) }

    by_kind : (kind : ArcKind) (a : Arc) → pos 0 ≤ℤ a.cost → a.cost ≤ℤ MAX_ARC_COST
        → length p.trips * nat_abs a.cost ≤ 1000 * MAX_DEAREST_SUM
        → IsWithin (pos (most_step n.graph.nodes)) (offered_cost offers kind a)
    by_kind (Trip i) a no_gain limit payable =
        by_offer (offer_of offers i.0) a no_gain limit payable (within i.0) (few i.0)
    by_kind Waiting a no_gain limit payable = bare a no_gain limit payable
    by_kind Deadhead a no_gain limit payable = bare a no_gain limit payable
    by_kind PullOut a no_gain limit payable = bare a no_gain limit payable
    by_kind PullIn a no_gain limit payable = bare a no_gain limit payable
    by_kind RestIn a no_gain limit payable = bare a no_gain limit payable
    by_kind RestWait a no_gain limit payable = bare a no_gain limit payable
    by_kind RestOut a no_gain limit payable = bare a no_gain limit payable
    by_kind Return a no_gain limit payable = bare a no_gain limit payable

    steps : AreSmallSteps n offers
    steps k inside =
        let arcs = small_arcs p is l.0 n lawful in
        by_kind (kind_of n k) (arc_of n.graph k) (arcs.no_gain k inside) (arcs.cost k inside)
        (payable_arcs p is l.0 n lawful k inside)

  -- where these trips are offered, and where none is
  pub small_steps : (offers : List (Option ℤ)) → AreOffers p l.0 offers → AreSmallSteps n offers
  small_steps offers are = steps offers are.within are.payable

  pub small_steps_of_none : AreSmallSteps n []
  small_steps_of_none = steps [] (λ i. tt) (λ i. tt)
