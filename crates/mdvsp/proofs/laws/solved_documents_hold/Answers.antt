use Rattle.mdvsp.proofs.LawDocuments.{written_holds, written_reads}
use Rattle.mdvsp.proofs.laws.solved_documents_hold.Goals as goal

pub returns : goal.returns
returns c effort bytes read answer rows owed has ends = (
  written_holds bytes read owed.problem owed.names owed.text.before owed.text.rest rows owed.document
      owed.text.instance has ends owed.solves.has_text owed.rows_are owed.solves.answer.holds owed.proves,
  written_reads bytes read owed.problem owed.names owed.text.before owed.text.rest rows owed.document
      owed.text.instance has ends owed.solves.has_text owed.rows_are,
)
