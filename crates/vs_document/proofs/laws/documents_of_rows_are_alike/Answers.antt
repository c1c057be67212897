use Rattle.vs_document.proofs.alike.AlikeDocuments.{alike}
use Rattle.vs_document.proofs.laws.documents_of_rows_are_alike.Goals as goal

pub returns : goal.returns
returns c = λ p names rows d e layers trips one two. alike p names rows d e layers trips one two
