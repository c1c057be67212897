use Rattle.std.proofs.Common.{◌≡◌, ◌∙◌, to_z, of_z, rules, arith}
use Rattle.std.specs.Int.{w128}
use Rattle.std.proofs.lemmas.Int.{to_z-of_z}
use Rattle.vs_circ.proofs.shipping.Running.{marked-least}
use Rattle.vs_circ.proofs.running.read_run.Goals as goal

pub returns : goal.returns
returns c =
    let cost = c.settled_cost.result in
    let word : to_z w128 (of_z w128 cost) ≡ cost = to_z-of_z w128 cost (search (rules, c.settled_cost.type_inv)) in
    record {
      least = λ p l is lawful are.
          marked-least p is l c.args.net.now lawful c.args.offers.now are c.args.kept.now.shipment
          c.requires.settled c.deref.result.now c.mark.new.answer (to_z w128 (of_z w128 cost))
          c.deref.ensures.value (omega (arith, c.requires.each_trip)) (λ i below. c.mark.ensures i (omega arith))
          (word ∙ c.settled_cost.ensures);
    }
