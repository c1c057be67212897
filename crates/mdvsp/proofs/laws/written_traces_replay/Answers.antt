use Rattle.mdvsp.proofs.LawTraces.{written_traces_answer}
use Rattle.mdvsp.proofs.laws.written_traces_replay.Goals as goal

pub returns : goal.returns
returns c = written_traces_answer
