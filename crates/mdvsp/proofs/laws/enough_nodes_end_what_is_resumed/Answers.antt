use Rattle.mdvsp.proofs.once.ResumeStatus.{enough_nodes_end_what_is_resumed}
use Rattle.mdvsp.proofs.laws.enough_nodes_end_what_is_resumed.Goals as goal

pub returns : goal.returns
returns c = enough_nodes_end_what_is_resumed
