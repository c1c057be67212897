-- What `replay` has to answer, and what it has to write.
use Rattle.std.specs.Prelude.{◌≡◌, ℕ, List, [], ◌∷◌, ◌⊎◌}
use Rattle.vs_instance.specs.Problem.{Problem}
use Rattle.vs_check.specs.HoldingDocument.{HoldingDocument, ProvesItsClaim}
use Rattle.vs_cert.specs.StateDocument.{IsDocumentOf}
use Rattle.vs_reader.specs.Names.{NameLists}
use Rattle.vs_reader.specs.Rows.{Row}
use Rattle.vs_reader.specs.Texts.{StandsFor}
use Rattle.vs_replay.specs.Replays.{IsWrongAt, Replays}
use Rattle.vs_replay.specs.ReplayRows.{not_a_step_row, trace_refusal_row}
use Rattle.vs_replay.specs.Room.{HasRoom}
use Rattle.vs_reply.specs.Owed.{OwesRefusal}
use Rattle.vs_reply.specs.declared.status.Status.{Status}
use Rattle.vs_reply.specs.declared.status.Status.TheVariants as status
use Rattle.vs_reply.specs.RefusalRows.{too_large_row}
use Rattle.vs_rows.specs.DocumentRows.{document_rows}
use Rattle.vs_rows.specs.DocumentText.{HasText}
use Rattle.vs_rows.specs.declared.document.Document.{Document}
use Rattle.vs_trace.specs.TraceRefusals.{AreRefused}
use Rattle.vs_trace.specs.declared.refused.TraceWhy.{TraceWhy}
use Rattle.vs_trace.specs.Traces.{TraceText, told_opening, told_steps}
use Rattle.vs_trace.specs.declared.trace.Trace.{Trace}
use Rattle.vs_tree.specs.History.{State, state_of}

-- the bytes stand for an instance, and from the first `result` record on for a trace
pub record ReplayText (bytes : List ℕ) (p : Problem) (names : NameLists) (t : Trace) : Type 0 where
  pub before : ℕ
  pub rest : List Row
  pub instance : StandsFor bytes p names before rest
  pub trace : TraceText p names rest t

-- they stand for an instance, and what follows it is no trace, first of all at this record and for this reason
pub record LacksTrace (bytes : List ℕ) (at : ℕ) (why : TraceWhy) : Type 0 where
  pub problem : Problem
  pub names : NameLists
  pub before : ℕ
  pub rest : List Row
  pub instance : StandsFor bytes problem names before rest
  pub refused : AreRefused problem names before rest at why

-- the state to which the steps of a trace lead
abbrev pub told_state : Problem → Trace → State
told_state p t = state_of (told_opening p t) (told_steps p t)

-- `replay` is owed the document of the state to which the trace replays, whoever wrote it; the document holds, and
-- proves what it claims
pub record OwesReplayed (bytes : List ℕ) (rows : List Row) : Type 0 where
  pub problem : Problem
  pub names : NameLists
  pub trace : Trace
  pub text : ReplayText bytes problem names trace
  pub room : HasRoom problem trace.budget
  pub replays : Replays problem trace
  pub document : Document
  pub of_state : IsDocumentOf (told_opening problem trace) (told_state problem trace) document
  pub has_text : HasText problem document
  pub holds : HoldingDocument problem document
  pub proves : ProvesItsClaim problem document
  pub rows_are : rows ≡ document_rows problem names document

-- and `no` where it doesn't replay, with the first step that may not come
pub record OwesNotAStep (bytes : List ℕ) (rows : List Row) : Type 0 where
  pub problem : Problem
  pub names : NameLists
  pub trace : Trace
  pub text : ReplayText bytes problem names trace
  pub room : HasRoom problem trace.budget
  pub fails : ¬ (Replays problem trace)
  pub step : ℕ
  pub wrong : IsWrongAt problem trace step
  pub rows_are : rows ≡ not_a_step_row step ∷ []

-- an instance text behind which no trace stands is owed the refusal of what follows its records
pub record OwesTraceRefusal (bytes : List ℕ) (rows : List Row) : Type 0 where
  pub at : ℕ
  pub why : TraceWhy
  pub lacks : LacksTrace bytes at why
  pub rows_are : rows ≡ trace_refusal_row at why ∷ []

-- and a trace whose tables could have too many entries, a refusal
pub record OwesTooLargeTrace (bytes : List ℕ) (rows : List Row) : Type 0 where
  pub problem : Problem
  pub names : NameLists
  pub trace : Trace
  pub text : ReplayText bytes problem names trace
  pub no_room : ¬ (HasRoom problem trace.budget)
  pub rows_are : rows ≡ too_large_row ∷ []

-- a text that is no instance with a trace behind it is refused for its instance first
abbrev pub OwesNoReplay : List ℕ → List Row → Type 0
OwesNoReplay bytes rows = OwesRefusal bytes rows ⊎ (OwesTraceRefusal bytes rows ⊎ OwesTooLargeTrace bytes rows)

-- what `replay` has to answer for these bytes, and which rows it has to write
abbrev pub ReplayOwes : List ℕ → Status → List Row → Type 0
ReplayOwes bytes status.Done rows = OwesReplayed bytes rows
ReplayOwes bytes status.SaysNo rows = OwesNotAStep bytes rows
ReplayOwes bytes status.BadInput rows = OwesNoReplay bytes rows
ReplayOwes bytes _ rows = ⊥
