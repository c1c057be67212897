-- What is answered before it is written.
use Rattle.std.specs.Prelude.{◌≡◌, ℕ, List, Result, Ok, Err, ◌⊎◌}
use Rattle.vs_types.specs.declared.memory.Memory.{Memory}
use Rattle.vs_io.specs.Bytes.{Appends, AppendsPrefix}
use Rattle.vs_io.specs.Faults.{Rose}
use Rattle.vs_reply.specs.Answered.{IsTextOf}
use Rattle.vs_reply.specs.Status.{status_of}
use Rattle.vs_reply.specs.declared.answer.Answer.{Answer}
use Rattle.vs_reply.specs.declared.status.Status.{Status}
use Rattle.vs_reply.specs.declared.status.Status.TheVariants.{WriteFault, NoMemory}
use Rattle.vs_words.specs.declared.command.Command.{Command}
use Rattle.mdvsp.specs.Outcome.{Told}
use Rattle.vs_trace.specs.TraceRows.{trace_text}
use Rattle.vs_tree.specs.History.{FullStep, Opening}
use Rattle.vs_tree.specs.declared.calls.Report.{Report}
use Rattle.vs_instance.specs.Problem.{Problem}
use Rattle.vs_rows.specs.declared.document.Document.{Document}
use Rattle.vs_rows.specs.DocumentRows.{document_rows}
use Rattle.vs_rows.specs.DocumentText.{HasText}
use Rattle.vs_check.specs.HoldingDocument.{HoldingDocument}
use Rattle.vs_document.specs.Alike.{AreAlike}
use Rattle.vs_make.specs.Made.{IsWholeText}
use Rattle.vs_reader.specs.Names.{NameLists}
use Rattle.vs_reader.specs.Rows.{lines}
use Rattle.vs_resume.specs.Answers.{ResumeAnswer, StoppedResume}
use Rattle.mdvsp.specs.SolveAnswer.{SolveAnswer, StoppedAnswer, StoppedTrace, TraceAnswer}
use Rattle.mdvsp.specs.Owed.{Owes}

-- the text is the lines of rows that are owed for the bytes, with this answer
abbrev pub IsOwedFor : Command → List ℕ → Answer → Type 0
IsOwedFor command bytes = IsTextOf (Owes command bytes)

-- The text was written, or a first part of it and the sink's faults rose; where there was no memory for an answer,
-- nothing was.
abbrev pub IsSaid : Result Answer Memory → Status → Told → Told → ℕ → ℕ → Type 0
IsSaid (Ok answer) said taken taken_after faults faults_after =
    ((said ≡ answer.status) × Appends taken taken_after answer.text.items)
    ⊎ ((said ≡ WriteFault) × AppendsPrefix taken taken_after answer.text.items × Rose faults faults_after)
IsSaid (Err memory) said taken taken_after faults faults_after = (said ≡ NoMemory) × (taken_after ≡ taken)

-- the text is that of a document that a search with this budget and so many workers answers, and the status that of its
-- claim; where it doesn't end early, the search is over
pub record AnswersDocument (ends : Type 0) (problem : Problem) (names : NameLists) (budget workers : ℕ)
    (answer : Answer) : Type 0 where
  pub document : Document
  pub solves : StoppedAnswer problem budget workers document
  pub whole : ends → SolveAnswer problem budget workers document
  pub status_is : answer.status ≡ status_of document.claim
  pub text_is : answer.text.items ≡ lines (document_rows problem names document)

-- the text is the trace of such a search, and the status that of what it reports
pub record AnswersTrace (ends : Type 0) (problem : Problem) (names : NameLists) (budget workers : ℕ) (answer : Answer)
    : Type 0 where
  pub opening : Opening
  pub steps : List FullStep
  pub report : Report
  pub tells : StoppedTrace problem budget workers opening steps report
  pub whole : ends → TraceAnswer problem budget workers opening steps report
  pub status_is : answer.status ≡ status_of report.claim
  pub text_is : answer.text.items ≡ lines (trace_text names opening steps)

-- one text is an instance text and no more, and the other that of a document for this instance, which holds
pub record AreTextsOf (made written : List ℕ) (p : Problem) (names : NameLists) (d : Document) : Type 0 where
  pub whole : IsWholeText made p names
  pub has_text : HasText p d
  pub holds : HoldingDocument p d
  pub written_is : written ≡ lines (document_rows p names d)

-- the same of some instance and some document
abbrev pub AreWritten : List ℕ → List ℕ → Type 0
AreWritten made written = (p : Problem) × (names : NameLists) × (d : Document) × AreTextsOf made written p names d

-- whatever document was written, this one is alike
abbrev pub IsReadOf : List ℕ → List ℕ → Document → Type 0
IsReadOf made written e =
    (p : Problem) (names : NameLists) (d : Document) → AreTextsOf made written p names d → AreAlike p d e

-- the text is that of a document that answers another one within this budget, and the status that of its claim
pub record IsResumed (ends : Type 0) (problem : Problem) (names : NameLists) (budget : ℕ) (before : Document)
    (answer : Answer) : Type 0 where
  pub document : Document
  pub answers : StoppedResume problem budget before document
  pub whole : ends → ResumeAnswer problem budget before document
  pub status_is : answer.status ≡ status_of document.claim
  pub text_is : answer.text.items ≡ lines (document_rows problem names document)
