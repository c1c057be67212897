use Rattle.vs_peakcheck.proofs.problem.CountedLists.{counts_vehicles, least_costs}
use Rattle.vs_peakcheck.proofs.counting_laws.each_peak_is_a_least_cost.Goals as goal

pub returns : goal.returns
returns c = λ p l instance layer. least_costs p l (counts_vehicles p l instance layer)
