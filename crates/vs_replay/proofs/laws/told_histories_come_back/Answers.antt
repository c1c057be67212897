use Rattle.vs_replay.proofs.ToldSteps.{told_histories_come_back}
use Rattle.vs_replay.proofs.laws.told_histories_come_back.Goals as goal

pub returns : goal.returns
returns c = told_histories_come_back
