-- What `replay` answers before it is written.
use Rattle.std.specs.Prelude.{◌≡◌, ℕ, ◌⊎◌}
use Rattle.vs_cert.specs.StateDocument.{IsDocumentOf}
use Rattle.vs_check.specs.HoldingDocument.{HoldingDocument}
use Rattle.vs_instance.specs.Problem.{Problem}
use Rattle.vs_reader.specs.Names.{NameLists}
use Rattle.vs_reader.specs.Rows.{lines}
use Rattle.vs_replay.specs.Replays.{IsWrongAt, Replays}
use Rattle.vs_replay.specs.ReplayRows.{not_a_step_row}
use Rattle.vs_replay.specs.Room.{HasRoom}
use Rattle.vs_reply.specs.Answered.{TellsRow}
use Rattle.vs_reply.specs.declared.answer.Answer.{Answer}
use Rattle.vs_reply.specs.declared.status.Status.TheVariants.{BadInput, Done, SaysNo}
use Rattle.vs_reply.specs.RefusalRows.{too_large_row}
use Rattle.vs_rows.specs.DocumentRows.{document_rows}
use Rattle.vs_rows.specs.DocumentText.{HasText}
use Rattle.vs_rows.specs.declared.document.Document.{Document}
use Rattle.vs_trace.specs.Traces.{told_opening, told_steps}
use Rattle.vs_trace.specs.declared.trace.Trace.{Trace}
use Rattle.vs_tree.specs.Search.{Search, state}

-- the text is that of a document of a search's state, which holds
pub record HasDocument (t : Search) (names : NameLists) (answer : Answer) : Type 0 where
  pub document : Document
  pub of_state : IsDocumentOf t.opening (state t) document
  pub has_text : HasText t.opening.problem document
  pub holds : HoldingDocument t.opening.problem document
  pub status_is : answer.status ≡ Done
  pub text_is : answer.text.items ≡ lines (document_rows t.opening.problem names document)

-- the same of the search that a trace tells, to which it replays
pub record TellsDocument (p : Problem) (names : NameLists) (t : Trace) (answer : Answer) : Type 0 where
  pub room : HasRoom p t.budget
  pub replays : Replays p t
  pub has : HasDocument (record { opening = told_opening p t; steps = told_steps p t }) names answer

-- a step may not come, and a row tells which
pub record TellsStep (p : Problem) (t : Trace) (answer : Answer) : Type 0 where
  pub room : HasRoom p t.budget
  pub fails : ¬ (Replays p t)
  pub step : ℕ
  pub wrong : IsWrongAt p t step
  pub tells : TellsRow SaysNo (not_a_step_row step) answer

-- the tables could have too many entries, and a row says so
pub record TellsTooLarge (p : Problem) (t : Trace) (answer : Answer) : Type 0 where
  pub no_room : ¬ (HasRoom p t.budget)
  pub tells : TellsRow BadInput too_large_row answer

-- one of them
abbrev pub IsReplayed : Problem → NameLists → Trace → Answer → Type 0
IsReplayed p names t answer =
    TellsTooLarge p t answer ⊎ (TellsDocument p names t answer ⊎ TellsStep p t answer)
