use Rattle.vs_tree.proofs.TrueReports.{reports_are_true}
use Rattle.vs_tree.proofs.laws.reports_are_true.Goals as goal

pub returns : goal.returns
returns c = reports_are_true
