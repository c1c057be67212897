-- What holds of every document that is judged.
use Rattle.std.specs.Prelude.{◌≡◌, ◌↔◌}
use Rattle.vs_instance.specs.Problem.{Problem}
use Rattle.vs_instance.specs.Instance.{IsInstance}
use Rattle.vs_document.specs.Alike.{AreAlike}
use Rattle.vs_document.specs.Form.{Suits}
use Rattle.vs_rows.specs.declared.document.Document.{Document}
use Rattle.vs_check.specs.Flaws.{flaws_of}
use Rattle.vs_check.specs.HoldingDocument.{HoldingDocument, ProvesItsClaim}

-- a document that holds for an instance proves what it claims
abbrev pub HoldingDocumentsProveTheirClaims : Type 0
HoldingDocumentsProveTheirClaims =
    (p : Problem) (d : Document) → IsInstance p → HoldingDocument p d → ProvesItsClaim p d

-- two documents have the same flaws, and hold both or neither
pub record AreJudgedAlike (p : Problem) (d e : Document) : Type 0 where
  pub flaws : flaws_of p d ≡ flaws_of p e
  pub holds : HoldingDocument p d ↔ HoldingDocument p e

-- documents that are alike are judged alike, where both suit the instance
abbrev pub AlikeDocumentsAreJudgedAlike : Type 0
AlikeDocumentsAreJudgedAlike = (p : Problem) (d e : Document) → IsInstance p → Suits p d → Suits p e
    → AreAlike p d e → AreJudgedAlike p d e
