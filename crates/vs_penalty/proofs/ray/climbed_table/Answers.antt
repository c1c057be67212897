use Rattle.std.proofs.Common.{arith, length}
use Rattle.std.proofs.lemmas.Int.{ints}
use Rattle.vs_penalty.proofs.EvenMultipliers.{little_within}
use Rattle.vs_penalty.proofs.ray.climbed_table.Goals as goal

pub evenly-requires : goal.evenly-requires
evenly-requires g c =
    little_within (length c.args.case.now.instance.now.trips) _ c.requires.case.nets.instance.few_trips
    (omega (arith, ints)) (omega (arith, ints))
