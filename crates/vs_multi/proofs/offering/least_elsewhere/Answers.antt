use Rattle.std.proofs.Common.{arith, length}
use Rattle.std.proofs.lemmas.Int.{clamps, ints}
use Rattle.vs_instance.proofs.CallerLemmas.{multiplier-most}
use Rattle.vs_multi.proofs.offering.least_elsewhere.Goals as goal

pub returns-clause-within : goal.returns-clause-within
returns-clause-within c =
    let most = multiplier-most (length c.args.instance.now.trips) in (
      omega (arith, ints, clamps, c.max.ensures.value, c.min.ensures.value, c.requires.most),
      omega (arith, ints, clamps, c.max.ensures.value, c.min.ensures.value, c.requires.most, most),
      omega (arith, ints, clamps, c.max.ensures.value, c.min.ensures.value, c.requires.most),
    )
