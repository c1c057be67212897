use Rattle.std.proofs.Common.{◌≡◌, ap, arith}
use Rattle.std.proofs.lemmas.Int.{ints}
use Rattle.vs_path.specs.Residual.{from_of, to_of, price_at}
use Rattle.vs_path.proofs.residual.Residual.reduced.Goals as goal

pub returns : goal.returns
returns c =
    let r = c.args.self.now in
    let s = c.args.step in
    let p = c.args.prices.now in
    let from : price_at p c.from.result ≡ price_at p (from_of r s) = ap (price_at p) c.from.ensures.node in
    let to : price_at p c.to.result ≡ price_at p (to_of r s) = ap (price_at p) c.to.ensures.node in
    omega (arith, ints, c.wide_cost.ensures.cost, from, to, c.above.ensures)
