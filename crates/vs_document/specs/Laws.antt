-- What holds of the documents that rows stand for.
use Rattle.std.specs.Prelude.{◌≡◌, ℕ, List, ◌++◌, take}
use Rattle.vs_instance.specs.Problem.{Problem}
use Rattle.vs_reader.specs.Names.{NameLists}
use Rattle.vs_reader.specs.NameRules.{AreNames}
use Rattle.vs_reader.specs.Rows.{Row, lines}
use Rattle.vs_reader.specs.Texts.{EndsInLine, HasRows, StandsFor}
use Rattle.vs_document.specs.Alike.{AreAlike}
use Rattle.vs_document.specs.DocumentRefusals.{AreRefused}
use Rattle.vs_document.specs.declared.refused.DocWhy.{DocWhy}
use Rattle.vs_rows.specs.declared.document.Document.{Document}
use Rattle.vs_rows.specs.DocumentRows.{document_rows}
use Rattle.vs_rows.specs.DocumentText.{DocumentText, HasText}
use Rattle.vs_document.specs.ReadingBack.{ReadsAs}

-- rows that stand for a document aren't refused
abbrev pub DocumentsAreNotRefused : Type 0
DocumentsAreNotRefused = (p : Problem) (names : NameLists) (before : ℕ) (rows : List Row) (d : Document) (at : ℕ)
    (why : DocWhy) → AreNames names.layers → AreNames names.trips → DocumentText p names rows d
    → AreRefused p names before rows at why → ⊥

-- rows are refused at one row, and for one reason
abbrev pub RowsAreRefusedOnce : Type 0
RowsAreRefusedOnce = (p : Problem) (names : NameLists) (before : ℕ) (rows : List Row) (at to : ℕ) (why other : DocWhy)
    → AreNames names.layers → AreNames names.trips → AreRefused p names before rows at why
    → AreRefused p names before rows to other → (at ≡ to) × (why ≡ other)

-- documents that the same rows stand for say the same
abbrev pub DocumentsOfRowsAreAlike : Type 0
DocumentsOfRowsAreAlike = (p : Problem) (names : NameLists) (rows : List Row) (d e : Document) → AreNames names.layers
    → AreNames names.trips → DocumentText p names rows d → DocumentText p names rows e → AreAlike p d e

-- behind the records of an instance, the last of which is ended by a line end, the lines of a document's rows are read
-- as that document
abbrev pub WrittenDocumentsAreReadBack : Type 0
WrittenDocumentsAreReadBack =
    (bytes read : List ℕ) (p : Problem) (names : NameLists) (before : ℕ) (rest : List Row) (d : Document)
    (text : StandsFor bytes p names before rest) → HasRows read (take before text.rows) → EndsInLine read
    → HasText p d → ReadsAs (read ++ lines (document_rows p names d)) p names before d
