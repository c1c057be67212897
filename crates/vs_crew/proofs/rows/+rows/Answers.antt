use Rattle.std.proofs.Common.{◌∙◌}
use Rattle.vs_crew.proofs.RowsRun.{both-run}
use Rattle.vs_crew.proofs.rows.+rows.Goals as goal

pub Rows::run-returns-clause-run : goal.Rows::run-returns-clause-run
Rows::run-returns-clause-run g t c =
    both-run c.args.self.now.nets.now c.args.self.now.offers.now c.args.places.now c.split_at.result.0.now
    c.split_at.result.1.now c.args.self.now.in_a_row c.run_both.new.first c.run_both.new.others
    c.split_at.ensures.front c.split_at.ensures.back
    (c.run_both.ensures.each_first ∙ c.split_at_mut-first.ensures.front_len) c.run_both.ensures.run
    c.run_both.ensures.others_run
