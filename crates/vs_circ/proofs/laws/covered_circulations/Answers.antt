use Rattle.vs_circ.proofs.low.Covered.{covered_circulations}
use Rattle.vs_circ.proofs.laws.covered_circulations.Goals as goal

pub returns : goal.returns
returns c = covered_circulations
