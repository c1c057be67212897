use Rattle.vs_rows.proofs.written.WrittenForms.{stands}
use Rattle.vs_rows.proofs.laws.written_rows_stand_for_their_document.Goals as goal

pub returns : goal.returns
returns c = λ p names d instance counts text. stands p names instance counts d text
