use Rattle.vs_rows.proofs.CallerLemmas.{out_of_order}
use Rattle.vs_document.specs.DocumentRefusals.{documents}
use Rattle.vs_document.proofs.reading.prices.another_row.Goals as goal
use Rattle.vs_document.proofs.reading.prices.another_row.Goals.{in-Ok, in-Err}

pub returns : goal.returns
returns c = λ place going suits none. elim c.match-said_at.branch [
  | in-Ok w ↦
      rw w.result-is
      (rw w.refusal.ensures
      (out_of_order documents c.args.input.now c.args.row w.in-Ok.ensures.within place _ w.in-Ok.ensures.says
      (suits _) going (none _ w.in-Ok.ensures.says)))
  | in-Err w ↦ rw w.result-is (w.in-Err.ensures.refused place going)
]
