use Rattle.std.proofs.Common.{◌-◌, length}
use Rattle.vs_bundle.proofs.round.Round.+run_from.Given as goal

abbrev pub decreases-run_from : goal.decreases-run_from
decreases-run_from g l = length l.places.now - l.k
