use Rattle.std.proofs.Common.{arith}
use Rattle.std.proofs.lemmas.Int.{ints}
use Rattle.test_engine.proofs.circulations.every_way.cost_between.Goals as goal

pub overflow_mul-result : goal.overflow_mul-result
overflow_mul-result c =
    let out = c.minutes-out.ensures.few in
    let back = c.minutes-back.ensures.few in
    omega (arith, ints, out, back, c.from-begins.ensures, c.from-ends.ensures)
