use Rattle.vs_ship.proofs.prices.Centred.{near-rule, near-settled, turned-rule, low-below, means-within, means-small, means-rule}
use Rattle.vs_ship.proofs.centring.centre.Goals as goal

pub raise-requires-clause-sign_rule : goal.raise-requires-clause-sign_rule
raise-requires-clause-sign_rule c =
    near-rule c.args.residual.now c.requires.residual c.args.prices.now c.begin_near.new.prices c.requires.small
    c.begin_near.ensures.near c.requires.sign_rule

pub lower-requires-clause-sign_rule : goal.lower-requires-clause-sign_rule
lower-requires-clause-sign_rule c =
    turned-rule c.args.residual.now c.requires.residual c.args.prices.now c.begin_near.new.prices c.requires.small
    c.begin_near.ensures.near c.args.mirrored.now c.requires.mirror c.begin_near.new.turned c.begin_near.ensures.turned
    c.requires.sign_rule

pub take_means-requires-clause-below : goal.take_means-requires-clause-below
take_means-requires-clause-below c =
    low-below c.args.residual.now c.requires.residual c.args.prices.now c.begin_near.new.prices c.requires.small
    c.begin_near.ensures.near c.args.mirrored.now c.requires.mirror c.begin_near.new.turned c.begin_near.ensures.turned
    c.lower.ensures.lowered.risen c.lower.new.low c.raise.new.prices c.lower.ensures.lowered.raised
    c.lower.ensures.lowered.back
    c.raise.ensures.raised

pub bring_near-requires-clause-within : goal.bring_near-requires-clause-within
bring_near-requires-clause-within c =
    means-within c.args.residual.now c.requires.residual c.args.prices.now c.begin_near.new.prices c.requires.small
    c.begin_near.ensures.near c.args.mirrored.now c.requires.mirror c.begin_near.new.turned c.begin_near.ensures.turned
    c.lower.ensures.lowered.risen c.lower.new.low c.raise.new.prices c.lower.ensures.lowered.raised
    c.lower.ensures.lowered.back
    c.raise.ensures.raised c.take_means.new.prices c.take_means.ensures

pub returns-clause-settled : goal.returns-clause-settled
returns-clause-settled c =
    let r = c.args.residual.now in
    let prices = c.args.prices.now in
    let near = c.begin_near.new.prices in
    let turned = c.begin_near.new.turned in
    let risen = c.lower.ensures.lowered.risen in
    let low = c.lower.new.low in
    let high = c.raise.new.prices in
    let means = c.take_means.new.prices in
    near-settled r c.requires.residual means c.bring_near.new.prices
    (means-small r c.requires.residual prices near c.requires.small c.begin_near.ensures.near c.args.mirrored.now
    c.requires.mirror turned c.begin_near.ensures.turned risen low high c.lower.ensures.lowered.raised
    c.lower.ensures.lowered.back
    c.raise.ensures.raised means c.take_means.ensures)
    c.bring_near.ensures
    (means-rule r c.requires.residual prices near c.requires.small c.begin_near.ensures.near c.args.mirrored.now
    c.requires.mirror turned c.begin_near.ensures.turned risen low high c.lower.ensures.lowered.raised
    c.lower.ensures.lowered.back
    c.raise.ensures.raised means c.take_means.ensures)
