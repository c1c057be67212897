use Rattle.vs_cert.proofs.EnoughBudgets.{enough_budgets_leave_nothing_open}
use Rattle.vs_cert.proofs.answer_laws.enough_budgets_leave_nothing_open.Goals as goal

pub returns : goal.returns
returns c = enough_budgets_leave_nothing_open
