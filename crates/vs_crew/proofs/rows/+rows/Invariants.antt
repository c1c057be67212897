use Rattle.std.proofs.Common.{◌+◌, ◌*◌, length}
use Rattle.vs_crew.proofs.rows.+rows.Given as goal

abbrev pub decreases-Rows::run : goal.decreases-Rows::run
decreases-Rows::run g l = 4 * length l.kept.now

abbrev pub decreases-Rows::run_both : goal.decreases-Rows::run_both
decreases-Rows::run_both g l = 4 * length l.others.now + 2

abbrev pub decreases-Rows::run_both-run_others : goal.decreases-Rows::run_both-run_others
decreases-Rows::run_both-run_others g l = 4 * length l.others.now + 1
