use Rattle.vs_trace.proofs.MadeTraces.{written_traces_stand}
use Rattle.vs_trace.proofs.laws.written_traces_stand.Goals as goal

pub returns : goal.returns
returns c = written_traces_stand
