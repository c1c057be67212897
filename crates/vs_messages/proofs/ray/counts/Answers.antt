use Rattle.std.proofs.Common.{subst}
use Rattle.vs_types.specs.LayerSet.{Has}
use Rattle.vs_instance.specs.declared.trip.Trip.{Trip}
use Rattle.vs_instance.proofs.CallerLemmas.{trip_of-IsTrip}
use Rattle.vs_messages.proofs.ray.counts.Goals as goal

pub least_price-requires-clause-set : goal.least_price-requires-clause-set
least_price-requires-clause-set c l has =
    (trip_of-IsTrip c.args.instance.now c.trips.ensures.instance c.args.i.0 c.requires.trip).layers l
    (subst (λ (t : Trip). Has t.layers l) c.trip.ensures has)
