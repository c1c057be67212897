use Rattle.vs_resume.proofs.documents.EnoughNodes.{enough_nodes_leave_nothing_open}
use Rattle.vs_resume.proofs.laws.enough_nodes_leave_nothing_open.Goals as goal

pub returns : goal.returns
returns c = enough_nodes_leave_nothing_open
