use Rattle.std.proofs.Common.{◌≡◌, ◌∙◌, ℕ, List, ℤ, sym, ap, subst, to_z, of_z, rules}
use Rattle.std.specs.Int.{w128}
use Rattle.std.proofs.lemmas.Int.{to_z-of_z}
use Rattle.vs_path.specs.declared.residual.TheConstants.{MAX_STEP_COST}
use Rattle.vs_path.specs.Residual.{AllWithin}
use Rattle.vs_path.proofs.CallerLemmas.{step-within}
use Rattle.vs_circ.specs.PricedFlows.{PaysNoLess}
use Rattle.vs_circ.specs.shipping.Values.{worth_of_units}
use Rattle.vs_circ.proofs.shipping.Relaxed.{centred-moves, least-of-settled}
use Rattle.vs_circ.proofs.relaxing.circ_of.Goals as goal

pub layer_prices-requires-clause-of_layer : goal.layer_prices-requires-clause-of_layer
layer_prices-requires-clause-of_layer c =
    let layer = c.requires.of_layer in (layer.0, layer.1.0, layer.2, layer.3, sym layer.4.each_trip)

pub layer_prices-requires-clause-prices : goal.layer_prices-requires-clause-prices
layer_prices-requires-clause-prices c =
    let layer = c.requires.of_layer in
    centred-moves layer.0 layer.2 layer.1 c.args.net.now layer.3 c.args.offers.now c.args.shipment.now
    c.requires.settled c.args.space.now.prices.items c.requires.prices

pub worth_of-value-requires-clause-small : goal.worth_of-value-requires-clause-small
worth_of-value-requires-clause-small c =
    subst (AllWithin MAX_STEP_COST) (sym c.deref-cost.ensures.value)
    (step-within c.args.net.now.graph.nodes c.args.shipment.now.costs.cost.items c.requires.settled.offered.small)

pub returns : goal.returns
returns c = record {
  least = λ p l is lawful are.
      let n = c.args.net.now in
      let s = c.args.shipment.now in
      let offers = c.args.offers.now in
      let prices = c.args.space.now.prices.items in
      let Pays : ℕ → Type 0 = λ trips. PaysNoLess n trips prices c.in_ok-prices.prices in
      let units = c.in_ok-units.ensures.items ∙ c.deref-sent.ensures.value in
      let worth = c.worth_of-value.ensures
      ∙ ap (λ (cost : List ℤ). worth_of_units cost c.deref-sent.result.now) c.deref-cost.ensures.value
      ∙ ap (worth_of_units s.costs.cost.items) (c.deref-sent.ensures.value ∙ sym units) in
      let word : to_z w128 (of_z w128 c.worth_of-value.result) ≡ c.worth_of-value.result =
      to_z-of_z w128 c.worth_of-value.result (search (rules, c.worth_of-value.type_inv)) in
      least-of-settled p is l n lawful offers s c.requires.settled prices c.requires.prices _ are units
      (c.in_ok-prices.ensures.holding p l.0 is lawful (sym are.each_trip))
      (subst Pays are.each_trip c.in_ok-prices.ensures.pays)
      (word ∙ worth);
}
