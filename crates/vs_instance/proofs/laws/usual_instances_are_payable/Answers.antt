use Rattle.vs_instance.proofs.costs.DearestPieces.{usual_payable}
use Rattle.vs_instance.proofs.laws.usual_instances_are_payable.Goals as goal

pub returns : goal.returns
returns c = usual_payable
