use Rattle.vs_instance.proofs.lagrangian.Values.{starting_values_exist}
use Rattle.vs_instance.proofs.laws.starting_values_exist.Goals as goal

pub returns : goal.returns
returns c = starting_values_exist
