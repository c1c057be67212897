use Rattle.vs_reader.proofs.declaring.RuleLemmas.{judged_time}
use Rattle.vs_reader.proofs.records.written_time.Goals as goal

pub returns : goal.returns
returns c = rw (← c.field.ensures) (judged_time c.field.result.now c.time.result c.ok_or.result c.time.ensures
    c.ok_or.ensures.value)
