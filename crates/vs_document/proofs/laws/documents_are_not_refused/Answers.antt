use Rattle.vs_document.proofs.rows.RefusedOnce.{document_not_refused}
use Rattle.vs_document.proofs.laws.documents_are_not_refused.Goals as goal

pub returns : goal.returns
returns c = λ p names before rows d at why layers trips text refused.
    document_not_refused p names layers trips before rows d at why text refused
