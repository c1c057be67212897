-- What holds of every document and its rows.
use Rattle.vs_instance.specs.Instance.{IsInstance}
use Rattle.vs_instance.specs.Problem.{Problem}
use Rattle.vs_reader.specs.Names.{HaveCounts, NameLists}
use Rattle.vs_rows.specs.declared.document.Document.{Document}
use Rattle.vs_rows.specs.DocumentRows.{document_rows}
use Rattle.vs_rows.specs.DocumentText.{DocumentText, HasText}

-- the rows as which a document is written stand for it
abbrev pub WrittenRowsStandForTheirDocument : Type 0
WrittenRowsStandForTheirDocument = (p : Problem) (names : NameLists) (d : Document) → IsInstance p
    → HaveCounts p names → HasText p d → DocumentText p names (document_rows p names d) d
