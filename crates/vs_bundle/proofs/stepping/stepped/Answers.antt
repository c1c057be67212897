use Rattle.std.proofs.Common.{arith}
use Rattle.std.proofs.lemmas.Int.{ints, clamps}
use Rattle.vs_bundle.proofs.stepping.stepped.Goals as goal

pub returns : goal.returns
returns c = (
  omega (arith, ints, clamps, c.max.ensures.value, c.min.ensures.value),
  omega (arith, ints, clamps, c.max.ensures.value, c.min.ensures.value, c.most_multiplier.ensures.limit),
  omega (arith, ints, clamps, c.max.ensures.value, c.min.ensures.value, c.most_multiplier.ensures.value),
)
