use Rattle.std.proofs.Common.{arith}
use Rattle.std.proofs.lemmas.Int.{ints}
use Rattle.vs_ship.proofs.fitting.loss_on.Goals as goal

pub returns : goal.returns
returns c =
    let from = c.requires.prices c.args.arc.from in
    let to = c.requires.prices c.args.arc.to in
    omega (arith, ints, from.low, from.high, to.low, to.high)
