use Rattle.vs_replay.proofs.OneDocument.{one_document}
use Rattle.vs_replay.proofs.document_laws.states_have_one_text.Goals as goal

pub returns : goal.returns
returns c = one_document
