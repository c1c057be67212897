use Rattle.vs_circ.proofs.low.Stuck.{stuck_trips}
use Rattle.vs_circ.proofs.laws.stuck_trips.Goals as goal

pub returns : goal.returns
returns c = stuck_trips
