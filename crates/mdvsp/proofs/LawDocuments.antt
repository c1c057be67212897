-- A document that is owed is judged `yes` behind its instance's records.
use Rattle.std.proofs.Common.{ℕ, List, [], ◌∷◌, ◌++◌, take, ◌≡◌, refl, sym, subst}
use Rattle.vs_instance.specs.Problem.{Problem}
use Rattle.vs_reader.specs.Names.{NameLists}
use Rattle.vs_reader.specs.Rows.{Row, lines}
use Rattle.vs_reader.specs.Texts.{HasRows, EndsInLine, StandsFor}
use Rattle.vs_document.proofs.CallerLemmas.{read_back}
use Rattle.vs_document.specs.ReadingBack.{ReadsAs}
use Rattle.vs_check.specs.HoldingDocument.{HoldingDocument, ProvesItsClaim}
use Rattle.vs_rows.specs.DocumentRows.{document_rows}
use Rattle.vs_rows.specs.DocumentText.{HasText}
use Rattle.vs_rows.specs.declared.document.Document.{Document}
use Rattle.vs_reply.specs.Owed.{OwesYes, yes_row}

module _ (bytes read : List ℕ) (p : Problem) (names : NameLists) (before : ℕ) (rest rows : List Row) (d : Document)
    (stands : StandsFor bytes p names before rest) (has : HasRows read (take before stands.rows))
    (ends : EndsInLine read) (text : HasText p d) (rows_are : rows ≡ document_rows p names d) where
  -- behind the records they are one text
  pub written_holds : HoldingDocument p d → ProvesItsClaim p d → OwesYes (read ++ lines rows) (yes_row d ∷ [])
  written_holds holds proves =
      let back = read_back bytes read p names before rest d stands has ends text in
      subst (λ (others : List Row). OwesYes (read ++ lines others) (yes_row d ∷ [])) (sym rows_are) (record {
        problem = p;
        names = names;
        document = d;
        text = record {
          before = before;
          rest = back.rest;
          instance = back.instance;
          document = back.document;
        };
        holds = holds;
        proves = proves;
        rows_are = refl;
      })

  -- and they read as the instance with its names, and behind its records as the document
  pub written_reads : ReadsAs (read ++ lines rows) p names before d
  written_reads =
      subst (λ (others : List Row). ReadsAs (read ++ lines others) p names before d) (sym rows_are)
      (read_back bytes read p names before rest d stands has ends text)
