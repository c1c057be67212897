-- What `resume` answers is owed.
use Rattle.std.proofs.Common.{◌≡◌, ℕ, List, [], ◌∷◌, Result, Ok, Err, Some, None, inl, inr, refl, IfOk}
use Rattle.vs_types.specs.declared.memory.Memory.{Memory}
use Rattle.vs_instance.specs.Firsts.{first}
use Rattle.vs_instance.specs.Problem.{Problem}
use Rattle.vs_prices.specs.declared.claim.Claim.{Claim}
use Rattle.vs_prices.specs.declared.claim.Claim.TheVariants.{Optimal, Infeasible, StillOpen}
use Rattle.vs_reader.specs.Names.{NameLists}
use Rattle.vs_reader.specs.Rows.{Row}
use Rattle.vs_rows.specs.DocumentRows.{document_rows}
use Rattle.vs_rows.specs.declared.document.Document.{Document}
use Rattle.vs_check.specs.Flaws.{flaws_of}
use Rattle.vs_check.specs.HoldingDocument.{HoldingDocument}
use Rattle.vs_check.specs.declared.flaw.Flaw.{Flaw}
use Rattle.vs_check.proofs.CallerLemmas.{prove_their_claims}
use Rattle.vs_reply.specs.FlawRows.{no_row}
use Rattle.vs_reply.specs.RefusalRows.{too_large_row}
use Rattle.vs_reply.specs.Answered.{IsTextOf, TellsRow}
use Rattle.vs_reply.specs.Cases.{CheckText}
use Rattle.vs_reply.specs.Status.{status_of}
use Rattle.vs_reply.specs.declared.answer.Answer.{Answer}
use Rattle.vs_reply.specs.declared.case.Case.{Case}
use Rattle.vs_reply.specs.declared.status.Status.TheVariants as status
use Rattle.vs_reply.proofs.CallerLemmas.{owed_so}
use Rattle.vs_words.specs.Words.{IsUnlimited}
use Rattle.vs_words.specs.declared.command.Effort.{Effort}
use Rattle.mdvsp.specs.Answered.{IsResumed}
use Rattle.mdvsp.specs.Budgets.{resumed_budget}
use Rattle.mdvsp.specs.Resuming.{BeginsResuming}
use Rattle.mdvsp.specs.declared.resuming.Start.TheVariants.{Not}
use Rattle.mdvsp.specs.Owed.{OwesResumed, ResumeOwes}

module _ (effort : Effort) (bytes : List ℕ) (p : Problem) (names : NameLists) (d : Document)
    (text : CheckText bytes p names d) where
  -- and so are too many leaves and nodes
  pub resume_too_large_owed : (a : Answer) → resumed_budget p d effort.nodes ≡ None
      → TellsRow status.BadInput too_large_row a → IsTextOf (ResumeOwes effort bytes) a
  resume_too_large_owed a none says =
      owed_so (ResumeOwes effort bytes) a status.BadInput (too_large_row ∷ [])
      (inr (record {
        problem = p;
        names = names;
        document = d;
        text = text;
        too_large = none;
        rows_are = refl;
      })) says.0 says.1

  -- a document that doesn't hold is owed its first flaw
  pub resume_denial_owed : (budget : ℕ) (flaw : Flaw) (a : Answer)
      → resumed_budget p d effort.nodes ≡ Some budget → ¬ (HoldingDocument p d)
      → first (flaws_of p d) ≡ Some flaw → TellsRow status.SaysNo (no_row names flaw) a
      → IsTextOf (ResumeOwes effort bytes) a
  resume_denial_owed budget flaw a budget_is fails is_first says =
      owed_so (ResumeOwes effort bytes) a status.SaysNo (no_row names flaw ∷ []) (record {
        denied = record {
          problem = p;
          names = names;
          document = d;
          text = text;
          fails = fails;
          flaw = flaw;
          is_first = is_first;
          rows_are = refl;
        };
        budget = budget;
        budget_is = budget_is;
      }) says.0 says.1

  -- a document with its claim's status is what resume owes
  resume_owes : (claim : Claim) (rows : List Row) → OwesResumed effort bytes (status_of claim) rows
      → ResumeOwes effort bytes (status_of claim) rows
  resume_owes Optimal rows o = o
  resume_owes Infeasible rows o = o
  resume_owes StillOpen rows o = o

  pub resumed_owed : (budget : ℕ) (r : Result Answer Memory) → resumed_budget p d effort.nodes ≡ Some budget
      → HoldingDocument p d → IfOk r (IsResumed (IsUnlimited effort) p names budget d)
      → IfOk r (IsTextOf (ResumeOwes effort bytes))
  resumed_owed budget (Ok a) budget_is held is =
      owed_so (ResumeOwes effort bytes) a (status_of is.document.claim) (document_rows p names is.document)
      (resume_owes is.document.claim (document_rows p names is.document) (record {
        problem = p;
        names = names;
        before = d;
        text = text;
        budget = budget;
        budget_is = budget_is;
        held = held;
        document = is.document;
        answers = is.answers;
        whole = is.whole;
        proves = prove_their_claims p is.document text.instance.text.makes.instance is.answers.holds;
        status_is = refl;
        rows_are = refl;
      })) is.status_is is.text_is
  resumed_owed budget (Err m) budget_is held is = tt

-- what is answered where a search isn't carried on is owed
pub no_start_owed : (effort : Effort) (bytes : List ℕ) (case : Case) (a : Answer)
    → CheckText bytes case.input.instance case.input.names case.document → BeginsResuming effort case (Not a)
    → IsTextOf (ResumeOwes effort bytes) a
no_start_owed effort bytes case a text (inl large) =
    resume_too_large_owed effort bytes case.input.instance case.input.names case.document text a large.too_large
    large.tells
no_start_owed effort bytes case a text (inr denied) =
    resume_denial_owed effort bytes case.input.instance case.input.names case.document text denied.budget
    denied.flaw a denied.is_budget denied.fails denied.is_first denied.tells
