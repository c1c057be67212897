use Rattle.std.proofs.Common.{◌≡◌, ◌∙◌, ap, arith, rules, of_z, to_z}
use Rattle.std.specs.Int.{w128}
use Rattle.std.proofs.lemmas.Int.{to_z-of_z}
use Rattle.vs_circ.specs.shipping.Costing.{units_pay}
use Rattle.vs_circ.proofs.costing.trip_pays.Goals as goal

pub arc_pays-requires-clause-arc : goal.arc_pays-requires-clause-arc
arc_pays-requires-clause-arc c = omega (arith, c.in-Some.ensures.0, c.requires.labelled.each_arc)

pub returns-in-Some-clause-value : goal.returns-in-Some-clause-value
returns-in-Some-clause-value c =
    let k = c.in-Some.k in
    let is = c.in-Some.ensures in
    let pays = c.arc_pays.result in
    let s = c.args.shipment.now in
    let word : to_z w128 (of_z w128 pays) ≡ pays = to_z-of_z w128 pays (search (rules, c.arc_pays.type_inv)) in
    record {
      with_arc = λ j other.
          word ∙ c.arc_pays.ensures.value
          ∙ ap (units_pay c.args.net.now s.flow.units.items s.prices.items)
          (c.requires.arcs.one_arc c.args.trip.0 k j is other);
      without = λ none. absurd (none k is);
    }
