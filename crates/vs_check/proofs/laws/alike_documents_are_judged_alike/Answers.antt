use Rattle.vs_check.proofs.AlikeDocuments.{judged_alike}
use Rattle.vs_check.proofs.laws.alike_documents_are_judged_alike.Goals as goal

pub returns : goal.returns
returns c = judged_alike
