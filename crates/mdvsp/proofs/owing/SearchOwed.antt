-- What `solve` answers is owed, and what it and `trace` refuse.
use Rattle.std.proofs.Common.{◌≡◌, ℕ, List, [], ◌∷◌, Result, Ok, Err, Some, None, inl, inr, refl, IfOk}
use Rattle.vs_types.specs.declared.memory.Memory.{Memory}
use Rattle.vs_instance.specs.Problem.{Problem}
use Rattle.vs_prices.specs.declared.claim.Claim.{Claim}
use Rattle.vs_prices.specs.declared.claim.Claim.TheVariants.{Optimal, Infeasible, StillOpen}
use Rattle.vs_reader.specs.Names.{NameLists}
use Rattle.vs_reader.specs.Rows.{Row}
use Rattle.vs_rows.specs.DocumentRows.{document_rows}
use Rattle.vs_check.proofs.CallerLemmas.{prove_their_claims}
use Rattle.vs_reply.specs.RefusalRows.{refusal_row, too_large_row}
use Rattle.vs_reply.specs.declared.answer.Answer.{Answer}
use Rattle.vs_reply.specs.declared.status.Status.TheVariants as status
use Rattle.vs_reply.specs.Answered.{IsTextOf, RefusesText, TellsRow}
use Rattle.vs_reply.specs.Cases.{SolveText}
use Rattle.vs_reply.specs.Status.{status_of}
use Rattle.vs_reply.proofs.CallerLemmas.{owed_so}
use Rattle.vs_words.specs.Words.{IsUnlimited}
use Rattle.vs_words.specs.declared.command.Effort.{Effort}
use Rattle.mdvsp.specs.Answered.{AnswersDocument}
use Rattle.mdvsp.specs.Budgets.{budget_of}
use Rattle.mdvsp.specs.Owed.{OwesDocument, SolveOwes}
use Rattle.mdvsp.specs.Searching.{IsNoSearch}

module _ (effort : Effort) (bytes : List ℕ) (a : Answer) where
  -- a text that is refused gives nothing to search
  pub refusal_searched : RefusesText bytes a → IsNoSearch effort bytes a
  refusal_searched says = record {
    rows = refusal_row says.refused ∷ [];
    owed = inl (record { refused = says.refused; is_refused = says.is_refused; rows_are = refl });
    status_is = says.status_is;
    text_is = says.text_is;
  }

  -- and neither does an instance for which so many nodes are too many
  pub too_large_searched : (p : Problem) (names : NameLists) → SolveText bytes p names → budget_of p effort.nodes ≡ None
      → TellsRow status.BadInput too_large_row a → IsNoSearch effort bytes a
  too_large_searched p names text none says = record {
    rows = too_large_row ∷ [];
    owed = inr (record { problem = p; names = names; text = text; too_large = none; rows_are = refl });
    status_is = says.0;
    text_is = says.1;
  }

  -- what is answered then is owed by `solve`
  pub no_search_owed : IsNoSearch effort bytes a → IsTextOf (SolveOwes effort bytes) a
  no_search_owed denied =
      owed_so (SolveOwes effort bytes) a status.BadInput denied.rows denied.owed denied.status_is denied.text_is

-- a document with its claim's status is what solve owes
solve_owes : (effort : Effort) (bytes : List ℕ) (claim : Claim) (rows : List Row)
    → OwesDocument effort bytes (status_of claim) rows → SolveOwes effort bytes (status_of claim) rows
solve_owes effort bytes Optimal rows o = o
solve_owes effort bytes Infeasible rows o = o
solve_owes effort bytes StillOpen rows o = o

pub document_owed : (effort : Effort) (bytes : List ℕ) (p : Problem) (names : NameLists) (budget : ℕ)
    (r : Result Answer Memory) → SolveText bytes p names → budget_of p effort.nodes ≡ Some budget
    → IfOk r (AnswersDocument (IsUnlimited effort) p names budget effort.workers)
    → IfOk r (IsTextOf (SolveOwes effort bytes))
document_owed effort bytes p names budget (Ok a) text budget_is d =
    owed_so (SolveOwes effort bytes) a (status_of d.document.claim) (document_rows p names d.document)
    (solve_owes effort bytes d.document.claim (document_rows p names d.document) (record {
      problem = p;
      names = names;
      document = d.document;
      text = text;
      budget = budget;
      budget_is = budget_is;
      solves = d.solves;
      whole = d.whole;
      proves = prove_their_claims p d.document text.instance.text.makes.instance d.solves.answer.holds;
      status_is = refl;
      rows_are = refl;
    })) d.status_is d.text_is
document_owed effort bytes p names budget (Err m) text budget_is d = tt
