use Rattle.std.proofs.Common.{◌≡◌, ap, arith}
use Rattle.std.proofs.lemmas.Int.{ints}
use Rattle.vs_path.specs.Labels.{lists_of}
use Rattle.vs_path.specs.Residual.{from_of, to_of, price_at}
use Rattle.vs_path.proofs.labelling.Lowering.{along-fits, parts-fit}
use Rattle.vs_path.proofs.labels.Labels.along.Goals as goal

pub overflow_add-base : goal.overflow_add-base
overflow_add-base c =
    let r = c.args.residual.now in
    let p = c.args.prices.now in
    let l = lists_of c.args.self.now in
    let s = c.args.step in
    let d = c.args.departure.distance in
    let fits = along-fits r p l s d c.requires.small c.requires.labels c.requires.from in
    let parts = parts-fit r p l s d c.requires.small c.requires.labels c.requires.from in
    let from = c.requires.small.each_price (from_of r s) in
    omega (arith, ints, fits.0, parts.0, c.requires.price, from.low, from.high)

pub overflow_add-away : goal.overflow_add-away
overflow_add-away c =
    let r = c.args.residual.now in
    let p = c.args.prices.now in
    let l = lists_of c.args.self.now in
    let s = c.args.step in
    let d = c.args.departure.distance in
    let fits = along-fits r p l s d c.requires.small c.requires.labels c.requires.from in
    let parts = parts-fit r p l s d c.requires.small c.requires.labels c.requires.from in
    let from = c.requires.small.each_price (from_of r s) in
    let few = c.cost.ensures.few in
    omega (
      arith,
      ints,
      fits.0,
      parts.0,
      parts.1,
      c.requires.price,
      from.low,
      from.high,
      c.cost.ensures.cost,
      few.low,
      few.high,
    )

pub overflow_sub-result : goal.overflow_sub-result
overflow_sub-result c =
    let r = c.args.residual.now in
    let p = c.args.prices.now in
    let l = lists_of c.args.self.now in
    let s = c.args.step in
    let d = c.args.departure.distance in
    let fits = along-fits r p l s d c.requires.small c.requires.labels c.requires.from in
    let parts = parts-fit r p l s d c.requires.small c.requires.labels c.requires.from in
    let from = c.requires.small.each_price (from_of r s) in
    let few = c.cost.ensures.few in
    let to : price_at p c.to.result ≡ price_at p (to_of r s) = ap (price_at p) c.to.ensures.node in
    let to_price = c.requires.small.each_price c.to.result in
    omega (
      arith,
      ints,
      fits.0,
      fits.1,
      parts.0,
      parts.1,
      c.requires.price,
      from.low,
      from.high,
      c.cost.ensures.cost,
      few.low,
      few.high,
      to,
      to_price.low,
      to_price.high,
    )

pub returns : goal.returns
returns c =
    let r = c.args.residual.now in
    let p = c.args.prices.now in
    let l = lists_of c.args.self.now in
    let s = c.args.step in
    let d = c.args.departure.distance in
    let fits = along-fits r p l s d c.requires.small c.requires.labels c.requires.from in
    let parts = parts-fit r p l s d c.requires.small c.requires.labels c.requires.from in
    let from = c.requires.small.each_price (from_of r s) in
    let few = c.cost.ensures.few in
    let to : price_at p c.to.result ≡ price_at p (to_of r s) = ap (price_at p) c.to.ensures.node in
    let to_price = c.requires.small.each_price c.to.result in
    omega (
      arith,
      ints,
      fits.0,
      fits.1,
      parts.0,
      parts.1,
      c.requires.price,
      from.low,
      from.high,
      c.cost.ensures.cost,
      few.low,
      few.high,
      to,
      to_price.low,
      to_price.high,
    )
