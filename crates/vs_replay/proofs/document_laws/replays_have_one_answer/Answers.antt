use Rattle.vs_replay.proofs.OneReplay.{one_of_replay}
use Rattle.vs_replay.proofs.document_laws.replays_have_one_answer.Goals as goal

pub returns : goal.returns
returns c = one_of_replay
