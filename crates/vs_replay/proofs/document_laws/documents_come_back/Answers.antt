use Rattle.vs_replay.proofs.ComeBack.{documents_come_back}
use Rattle.vs_replay.proofs.document_laws.documents_come_back.Goals as goal

pub returns : goal.returns
returns c = documents_come_back
