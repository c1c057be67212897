use Rattle.vs_cert.proofs.states.MadeDocuments.{states_have_documents}
use Rattle.vs_cert.proofs.answer_laws.states_have_documents.Goals as goal

pub returns : goal.returns
returns c = states_have_documents
