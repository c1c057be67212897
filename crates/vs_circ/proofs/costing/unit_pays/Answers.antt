use Rattle.std.proofs.Common.{arith}
use Rattle.std.proofs.lemmas.Int.{ints}
use Rattle.vs_circ.proofs.costing.unit_pays.Goals as goal

pub returns-clause-within : goal.returns-clause-within
returns-clause-within c =
    let from = c.requires.prices c.args.arc.from in
    let to = c.requires.prices c.args.arc.to in
    let low = c.requires.no_gain in
    let high = c.requires.cost in
    record {
      low = omega (arith, ints, from.low, from.high, to.low, to.high, low, high);
      high = omega (arith, ints, from.low, from.high, to.low, to.high, low, high);
    }
