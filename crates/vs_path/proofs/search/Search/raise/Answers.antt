use Rattle.std.proofs.Common.{◌∙◌, length, rules, SFits, w64}
use Rattle.std.proofs.lemmas.Int.{to_z-of_z}
use Rattle.vs_path.specs.Labels.{lists_of}
use Rattle.vs_path.proofs.found.LeastCosts.{always-over}
use Rattle.vs_path.proofs.raised.RaisedPrices.{can-raise, is-raised, raised-sign, raised-source}
use Rattle.vs_path.proofs.search.Search.raise.Goals as goal

pub raise_prices-requires-clause-space : goal.raise_prices-requires-clause-space
raise_prices-requires-clause-space c =
    let r = c.args.residual.now in
    let p = c.args.prices.now in
    let l = lists_of c.explore.new.self in
    let over =
    always-over r p c.deref.result.now c.args.source l (length c.self.inside.labels.nodes.settled) c.explore.result
    (c.deref.ensures.value ∙ c.self.invariant.none_lacks) c.explore.ensures.found in
    let fits : SFits w64 c.args.beyond = search rules in
    let fits_too : SFits w64 c.greatest_distance-rise.result = search rules in
    let greatest = simp to_z-of_z at c.greatest_distance-rise.ensures in
    simp to_z-of_z
    (can-raise r p l c.args.beyond c.greatest_distance-rise.result c.requires.small c.requires.span
    over.under_way.labels
    greatest c.requires.some c.requires.beyond c.requires.sign_rule)

pub returns-clause-raised : goal.returns-clause-raised
returns-clause-raised c =
    let r = c.args.residual.now in
    let p = c.args.prices.now in
    let l = lists_of c.explore.new.self in
    let over =
    always-over r p c.deref.result.now c.args.source l (length c.self.inside.labels.nodes.settled) c.explore.result
    (c.deref.ensures.value ∙ c.self.invariant.none_lacks) c.explore.ensures.found in
    let fits : SFits w64 c.args.beyond = search rules in
    let fits_too : SFits w64 c.greatest_distance-rise.result = search rules in
    let greatest = simp to_z-of_z at c.greatest_distance-rise.ensures in
    let raised = simp to_z-of_z at c.raise_prices.ensures in
    is-raised r p c.deref.result.now c.args.source l over c.requires.sign_rule c.explore.ensures.residual c.args.beyond
    c.greatest_distance-rise.result greatest c.raise_prices.new.prices c.requires.small.each_node
    (c.raise_prices.auto.prices ∙ c.requires.small.each_node) raised c.requires.small c.requires.span c.requires.beyond

pub returns-clause-sign_rule : goal.returns-clause-sign_rule
returns-clause-sign_rule c =
    let r = c.args.residual.now in
    let p = c.args.prices.now in
    let l = lists_of c.explore.new.self in
    let over =
    always-over r p c.deref.result.now c.args.source l (length c.self.inside.labels.nodes.settled) c.explore.result
    (c.deref.ensures.value ∙ c.self.invariant.none_lacks) c.explore.ensures.found in
    let fits : SFits w64 c.args.beyond = search rules in
    let fits_too : SFits w64 c.greatest_distance-rise.result = search rules in
    let greatest = simp to_z-of_z at c.greatest_distance-rise.ensures in
    let raised = simp to_z-of_z at c.raise_prices.ensures in
    raised-sign r p c.deref.result.now c.args.source l over c.requires.sign_rule c.explore.ensures.residual
    c.args.beyond
    c.greatest_distance-rise.result greatest c.raise_prices.new.prices c.requires.small.each_node
    (c.raise_prices.auto.prices ∙ c.requires.small.each_node) raised

pub returns-clause-source : goal.returns-clause-source
returns-clause-source c =
    let r = c.args.residual.now in
    let p = c.args.prices.now in
    let l = lists_of c.explore.new.self in
    let over =
    always-over r p c.deref.result.now c.args.source l (length c.self.inside.labels.nodes.settled) c.explore.result
    (c.deref.ensures.value ∙ c.self.invariant.none_lacks) c.explore.ensures.found in
    let fits : SFits w64 c.args.beyond = search rules in
    let fits_too : SFits w64 c.greatest_distance-rise.result = search rules in
    let greatest = simp to_z-of_z at c.greatest_distance-rise.ensures in
    let raised = simp to_z-of_z at c.raise_prices.ensures in
    raised-source r p c.deref.result.now c.args.source l over c.requires.sign_rule c.explore.ensures.residual
    c.args.beyond
    c.greatest_distance-rise.result greatest c.raise_prices.new.prices c.requires.small.each_node
    (c.raise_prices.auto.prices ∙ c.requires.small.each_node) raised
