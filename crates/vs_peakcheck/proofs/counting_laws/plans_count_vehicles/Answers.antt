use Rattle.vs_peakcheck.proofs.problem.CountedLists.{counts_vehicles}
use Rattle.vs_peakcheck.proofs.counting_laws.plans_count_vehicles.Goals as goal

pub returns : goal.returns
returns c = counts_vehicles
