use Rattle.vs_replay.proofs.WrittenBack.{written_traces_replay}
use Rattle.vs_replay.proofs.document_laws.written_traces_replay.Goals as goal

pub returns : goal.returns
returns c = written_traces_replay
