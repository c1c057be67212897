use Rattle.vs_cert.proofs.StateDocuments.{documents_of_states_hold}
use Rattle.vs_cert.proofs.answer_laws.documents_of_states_hold.Goals as goal

pub returns : goal.returns
returns c = documents_of_states_hold
