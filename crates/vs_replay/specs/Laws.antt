-- What holds of every trace that is written, and of every one that replays.
use Rattle.std.specs.Prelude.{◌≡◌, ℕ, ◌<◌, ◌^◌, List, ◌++◌, length, take}
use Rattle.vs_cert.specs.StateDocument.{IsDocumentOf}
use Rattle.vs_cert.specs.TreeText.{IsTextOf}
use Rattle.vs_reader.specs.Names.{NameLists}
use Rattle.vs_reader.specs.Rows.{Row, lines}
use Rattle.vs_reader.specs.Texts.{EndsInLine, HasRows, StandsFor}
use Rattle.vs_replay.specs.Alike.{IsTold}
use Rattle.vs_replay.specs.Owed.{ReplayOwes, told_state}
use Rattle.vs_replay.specs.Room.{HasRoom}
use Rattle.vs_reply.specs.declared.status.Status.{Status}
use Rattle.vs_reply.specs.declared.status.Status.TheVariants.{Done}
use Rattle.vs_rows.specs.DocumentRows.{document_rows}
use Rattle.vs_rows.specs.declared.document.Document.{Document}
use Rattle.vs_trace.specs.TraceRows.{IsOpeningForm, trace_text}
use Rattle.vs_trace.specs.Traces.{told_opening}
use Rattle.vs_trace.specs.declared.trace.Trace.{Trace}
use Rattle.vs_tree.specs.History.{FullStep, IsHistory, Opening, State, state_of}
use Rattle.vs_tree.specs.Sound.{IsOpening}
use Rattle.vs_tree.specs.Takes.{held_leaves}

-- where no leaf of a search is held, a document of the state to which a trace of it replays is written as one of the
-- search's own state
abbrev pub DocumentsComeBack : Type 0
DocumentsComeBack =
    (o : Opening) (steps : List FullStep) (t : Trace) (names : NameLists) (d : Document) → IsOpening o
    → IsHistory o steps → held_leaves (state_of o steps) ≡ 0 → IsTold o steps t
    → IsDocumentOf (told_opening o.problem t) (told_state o.problem t) d
    → (e : Document) × IsDocumentOf o (state_of o steps) e
    × (document_rows o.problem names d ≡ document_rows o.problem names e)

-- behind the records of its instance, the last of which is ended by a line end, the trace text of a search none of
-- whose leaves is held has `replay` answer with a document of the search's state, and with nothing else
abbrev pub WrittenTracesReplay : Type 0
WrittenTracesReplay =
    (bytes read : List ℕ) (o : Opening) (steps : List FullStep) (names : NameLists) (before : ℕ) (rest : List Row)
    (text : StandsFor bytes o.problem names before rest) → HasRows read (take before text.rows) → EndsInLine read
    → IsOpening o → IsHistory o steps → length steps < 2 ^ 63 → IsOpeningForm o.budget o.workers
    → HasRoom o.problem o.budget → held_leaves (state_of o steps) ≡ 0 → (answer : Status) (rows : List Row)
    → ReplayOwes (read ++ lines (trace_text names o steps)) answer rows
    → (answer ≡ Done) × IsTextOf o (state_of o steps) names (lines rows)

-- what `replay` is owed for some bytes is one thing
abbrev pub ReplaysHaveOneAnswer : Type 0
ReplaysHaveOneAnswer =
    (bytes : List ℕ) (a b : Status) (r s : List Row) → ReplayOwes bytes a r → ReplayOwes bytes b s
    → (a ≡ b) × (r ≡ s)

-- the documents of a state are written as the same rows
abbrev pub StatesHaveOneText : Type 0
StatesHaveOneText =
    (o : Opening) (s : State) (names : NameLists) (d e : Document) → IsDocumentOf o s d → IsDocumentOf o s e
    → document_rows o.problem names d ≡ document_rows o.problem names e
