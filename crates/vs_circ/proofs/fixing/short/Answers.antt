use Rattle.std.proofs.Common.{◌≡◌, ◌∙◌, ℤ, List, length, true, sym, subst}
use Rattle.std.proofs.lemmas.List.{with_items_is}
use Rattle.vs_path.specs.Residual.{AllWithin}
use Rattle.vs_path.specs.Raising.{HasSpan}
use Rattle.vs_ship.specs.declared.gaps.TheConstants.{MAX_NODE_PRICE}
use Rattle.vs_circ.specs.node_prices.NodePrices.{AreMovePrices}
use Rattle.vs_circ.specs.PricedFlows.{PaysNoLess}
use Rattle.vs_circ.proofs.shipping.Fixing.{short-fixed, stuck-by_prices, stuck-span, stuck-within}
use Rattle.vs_circ.proofs.fixing.short.Goals as goal

pub ray_prices-requires-clause-of_layer : goal.ray_prices-requires-clause-of_layer
ray_prices-requires-clause-of_layer c =
    let layer = c.requires.of_layer in (layer.0, layer.1.0, layer.2, layer.3, sym layer.4.each_trip)

pub ray_prices-requires-clause-within : goal.ray_prices-requires-clause-within
ray_prices-requires-clause-within c =
    let prices = c.set_stuck_prices.new.prices in
    let is : c.deref.result.now ≡ prices =
    c.deref.ensures.value
    ∙ with_items_is c.args.space.now.prices prices (c.set_stuck_prices.auto.prices ∙ c.deref_mut.ensures.len) in
    subst (AllWithin MAX_NODE_PRICE) (sym is) (stuck-within c.args.stuck.now prices c.set_stuck_prices.ensures)

pub ray_prices-requires-clause-span : goal.ray_prices-requires-clause-span
ray_prices-requires-clause-span c =
    let prices = c.set_stuck_prices.new.prices in
    let is : c.deref.result.now ≡ prices =
    c.deref.ensures.value
    ∙ with_items_is c.args.space.now.prices prices (c.set_stuck_prices.auto.prices ∙ c.deref_mut.ensures.len) in
    subst (HasSpan MAX_NODE_PRICE) (sym is) (stuck-span c.args.stuck.now prices c.set_stuck_prices.ensures)

pub ray_prices-requires-clause-moves : goal.ray_prices-requires-clause-moves
ray_prices-requires-clause-moves c =
    let layer = c.requires.of_layer in
    let prices = c.set_stuck_prices.new.prices in
    let is : c.deref.result.now ≡ prices =
    c.deref.ensures.value
    ∙ with_items_is c.args.space.now.prices prices (c.set_stuck_prices.auto.prices ∙ c.deref_mut.ensures.len) in
    let stuck =
    stuck-by_prices c.args.net.now c.args.must.now c.args.stuck.now prices c.requires.stuck c.set_stuck_prices.ensures
    layer.0 layer.1 layer.3 in
    subst (AreMovePrices c.args.net.now true) (sym is) stuck.moves

pub returns : goal.returns
returns c =
    let n = c.args.net.now in
    let must = c.args.must.now in
    let given = c.in_ok-prices.prices in
    let prices = c.set_stuck_prices.new.prices in
    let is : c.deref.result.now ≡ prices =
    c.deref.ensures.value
    ∙ with_items_is c.args.space.now.prices prices (c.set_stuck_prices.auto.prices ∙ c.deref_mut.ensures.len) in
    let Pays : List ℤ → Type 0 = λ ps. PaysNoLess n (length must) ps given in
    short-fixed n must c.args.stuck.now prices c.requires.stuck c.set_stuck_prices.ensures given
    (subst Pays is c.in_ok-prices.ensures.pays) c.in_ok-prices.ensures.holding
