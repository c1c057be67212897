use Rattle.vs_document.proofs.back.ReadBack.{read_back}
use Rattle.vs_document.proofs.laws.written_documents_are_read_back.Goals as goal

pub returns : goal.returns
returns c = read_back
