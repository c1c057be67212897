use Rattle.std.proofs.Common.{arith}
use Rattle.std.proofs.lemmas.Int.{ints}
use Rattle.vs_circ.proofs.leeways.spare.Goals as goal

pub overflow_cast-result : goal.overflow_cast-result
overflow_cast-result c =
    let from = c.requires.prices c.args.arc.from in
    let to = c.requires.prices c.args.arc.to in (
      omega (arith, ints, from.low, from.high, to.low, to.high),
      omega (arith, ints, from.low, from.high, to.low, to.high),
    )

pub returns-clause-value : goal.returns-clause-value
returns-clause-value c =
    let from = c.requires.prices c.args.arc.from in
    let to = c.requires.prices c.args.arc.to in
    omega (arith, ints, from.low, from.high, to.low, to.high)

pub returns-clause-few : goal.returns-clause-few
returns-clause-few c =
    let from = c.requires.prices c.args.arc.from in
    let to = c.requires.prices c.args.arc.to in
    omega (arith, ints, from.low, from.high, to.low, to.high)
