-- What holds of the text of every search.
use Rattle.std.specs.Prelude.{ℕ, List, ◌++◌, take}
use Rattle.vs_reader.specs.Names.{NameLists}
use Rattle.vs_reader.specs.Rows.{Row}
use Rattle.vs_reader.specs.Texts.{EndsInLine, HasRows, StandsFor}
use Rattle.vs_tree.specs.History.{Opening, State}
use Rattle.vs_document.specs.ReadingBack.{ReadsAs}
use Rattle.vs_rows.specs.declared.document.Document.{Document}
use Rattle.vs_cert.specs.StateDocument.{IsDocumentOf}
use Rattle.vs_cert.specs.TreeText.{IsTextOf}

-- behind the records of its instance, the last of which is ended by a line end, the text of a state is read as a
-- document of that state
abbrev pub WrittenSearchesAreReadBack : Type 0
WrittenSearchesAreReadBack =
    (bytes read written : List ℕ) (o : Opening) (s : State) (names : NameLists) (before : ℕ) (rest : List Row)
    (text : StandsFor bytes o.problem names before rest) → HasRows read (take before text.rows) → EndsInLine read
    → IsTextOf o s names written
    → (d : Document) × IsDocumentOf o s d × ReadsAs (read ++ written) o.problem names before d
