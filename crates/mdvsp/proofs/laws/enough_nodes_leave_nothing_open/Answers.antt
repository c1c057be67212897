use Rattle.mdvsp.proofs.once.SolveStatus.{enough_nodes_leave_nothing_open}
use Rattle.mdvsp.proofs.laws.enough_nodes_leave_nothing_open.Goals as goal

pub returns : goal.returns
returns c = enough_nodes_leave_nothing_open
