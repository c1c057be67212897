-- Rows are refused in one way, and rows that stand for a document aren't.
use Rattle.std.proofs.Common.{◌≡◌, ◌≢◌, ℕ, ◌+◌, List, [], ◌∷◌, refl, sym, ap, ◌∙◌, inl, inr, arith, length}
use Rattle.vs_instance.specs.Problem.{Problem}
use Rattle.vs_reader.specs.Rows.{Row}
use Rattle.vs_reader.specs.Names.{NameLists}
use Rattle.vs_reader.specs.NameRules.{AreNames}
use Rattle.vs_rows.specs.declared.document.Document.{Document}
use Rattle.vs_document.specs.declared.refused.DocWhy.{DocWhy}
use Rattle.vs_document.specs.declared.refused.DocError.{DocError}
use Rattle.vs_document.specs.declared.refused.DocError.TheVariants as error
use Rattle.vs_rows.specs.DocumentRows.{DocumentRow, SayAll, rows_of_document}
use Rattle.vs_document.specs.DocumentRefusals.{AreRefused, IsRefusal, IsRefusedError, documents}
use Rattle.vs_rows.specs.DocumentText.{DocumentText}
use Rattle.vs_document.specs.Places.{AtClaim, Place}
use Rattle.vs_document.proofs.rows.AcceptedRows.{leads_document}
use Rattle.vs_rows.proofs.CallerLemmas.{AreClear, not_refused, once_from, says_once}

not_wrong : (place : Place) (said : DocumentRow) (why : DocWhy) → documents.IsRight place said
    → documents.IsWrong place said why → ⊥
not_wrong place said why right (inl (wrong, is)) = wrong right.0
not_wrong place said why right (inr (has, wrong, is)) = wrong right.1

wrong_once : (place : Place) (said : DocumentRow) (why other : DocWhy) → documents.IsWrong place said why
    → documents.IsWrong place said other → why ≡ other
wrong_once place said why other (inl (_, is)) (inl (_, is')) = is ∙ sym is'
wrong_once place said why other (inl (wrong, _)) (inr (has, _, _)) = absurd (wrong has)
wrong_once place said why other (inr (has, _, _)) (inl (wrong, _)) = absurd (wrong has)
wrong_once place said why other (inr (_, _, is)) (inr (_, _, is')) = is ∙ sym is'

module _ (p : Problem) (names : NameLists) (layers : AreNames names.layers) (trips : AreNames names.trips) where
  clear : AreClear documents p names
  clear = record {
    once = λ row a b. says_once names row layers trips a b;
    last = λ said. refl;
    not_wrong = not_wrong;
    one_reason = wrong_once;
  }

  pub refused_once : (before : ℕ) (rows : List Row) (at to : ℕ) (why other : DocWhy)
      → AreRefused p names before rows at why → AreRefused p names before rows to other → (at ≡ to) × (why ≡ other)
  refused_once before [] at to why other a b = (a.0 ∙ sym b.0, a.1 ∙ sym b.1)
  refused_once before (row ∷ rows) at to why other a b =
      once_from documents p names clear (row ∷ rows) (before + 1) AtClaim at to why other a b

  no_rows : (said : List DocumentRow) → SayAll names [] said → said ≢ [] → ⊥
  no_rows [] say some = some refl
  no_rows (row ∷ said) say some = say

  some_rows : (d : Document) → rows_of_document p d ≢ []
  some_rows d e = absurd (omega (arith, ap length e))

  pub document_not_refused : (before : ℕ) (rows : List Row) (d : Document) (at : ℕ) (why : DocWhy)
      → DocumentText p names rows d → AreRefused p names before rows at why → ⊥
  document_not_refused before [] d at why text refused = no_rows (rows_of_document p d) text.rows_say (some_rows d)
  document_not_refused before (row ∷ rows) d at why text refused =
      not_refused documents p names clear (row ∷ rows) (rows_of_document p d) (before + 1) AtClaim at why text.rows_say
      (leads_document p d text.has_text) refused

  -- rows that are refused stand for no document
  pub refusal_leaves_none : (before : ℕ) (rows : List Row) (e : DocError) (d : Document)
      → IsRefusal p names before rows e
      → IsRefusedError e → DocumentText p names rows d → ⊥
  refusal_leaves_none before rows (error.Refused at why) d refused is text =
      document_not_refused before rows d at why text refused
  refusal_leaves_none before rows error.Memory d refused is text = is
