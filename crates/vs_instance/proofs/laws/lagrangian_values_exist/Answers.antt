use Rattle.vs_instance.proofs.lagrangian.Values.{values_exist}
use Rattle.vs_instance.proofs.laws.lagrangian_values_exist.Goals as goal

pub returns : goal.returns
returns c = values_exist
