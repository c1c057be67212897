use Rattle.vs_circ.proofs.low.Least.{least_circulations}
use Rattle.vs_circ.proofs.laws.least_circulations.Goals as goal

pub returns : goal.returns
returns c = least_circulations
