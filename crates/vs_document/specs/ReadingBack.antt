-- What is read of bytes that were written.
use Rattle.std.specs.Prelude.{ℕ, List}
use Rattle.vs_instance.specs.Problem.{Problem}
use Rattle.vs_reader.specs.Names.{NameLists}
use Rattle.vs_reader.specs.Rows.{Row}
use Rattle.vs_reader.specs.Texts.{StandsFor}
use Rattle.vs_rows.specs.declared.document.Document.{Document}
use Rattle.vs_rows.specs.DocumentText.{DocumentText}

-- the bytes stand for the instance with its names, and behind so many records for the document
pub record ReadsAs (bytes : List ℕ) (p : Problem) (names : NameLists) (before : ℕ) (d : Document) : Type 0 where
  pub rest : List Row
  pub instance : StandsFor bytes p names before rest
  pub document : DocumentText p names rest d
