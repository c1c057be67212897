-- What `trace` answers is owed.
use Rattle.std.proofs.Common.{◌≡◌, ℕ, List, Result, Ok, Err, Some, refl, IfOk}
use Rattle.vs_types.specs.declared.memory.Memory.{Memory}
use Rattle.vs_instance.specs.Problem.{Problem}
use Rattle.vs_prices.specs.declared.claim.Claim.{Claim}
use Rattle.vs_prices.specs.declared.claim.Claim.TheVariants.{Optimal, Infeasible, StillOpen}
use Rattle.vs_reader.specs.Names.{NameLists}
use Rattle.vs_reader.specs.Rows.{Row}
use Rattle.vs_reply.specs.Answered.{IsTextOf}
use Rattle.vs_reply.specs.declared.answer.Answer.{Answer}
use Rattle.vs_reply.specs.declared.status.Status.TheVariants.{BadInput}
use Rattle.vs_reply.specs.Cases.{SolveText}
use Rattle.vs_reply.specs.Status.{status_of}
use Rattle.vs_reply.proofs.CallerLemmas.{owed_so}
use Rattle.vs_trace.specs.TraceRows.{trace_text}
use Rattle.vs_words.specs.Words.{IsUnlimited}
use Rattle.vs_words.specs.declared.command.Effort.{Effort}
use Rattle.mdvsp.specs.Answered.{AnswersTrace}
use Rattle.mdvsp.specs.Budgets.{budget_of}
use Rattle.mdvsp.specs.Owed.{OwesTrace, TraceOwes}
use Rattle.mdvsp.specs.Searching.{IsNoSearch}

-- what is answered where nothing can be searched is owed
pub no_trace_owed : (effort : Effort) (bytes : List ℕ) (a : Answer) → IsNoSearch effort bytes a
    → IsTextOf (TraceOwes effort bytes) a
no_trace_owed effort bytes a denied =
    owed_so (TraceOwes effort bytes) a BadInput denied.rows denied.owed denied.status_is denied.text_is

-- a trace with the status of its report is what trace owes
trace_owes : (effort : Effort) (bytes : List ℕ) (claim : Claim) (rows : List Row)
    → OwesTrace effort bytes (status_of claim) rows → TraceOwes effort bytes (status_of claim) rows
trace_owes effort bytes Optimal rows o = o
trace_owes effort bytes Infeasible rows o = o
trace_owes effort bytes StillOpen rows o = o

pub trace_owed : (effort : Effort) (bytes : List ℕ) (p : Problem) (names : NameLists) (budget : ℕ)
    (r : Result Answer Memory) → SolveText bytes p names → budget_of p effort.nodes ≡ Some budget
    → IfOk r (AnswersTrace (IsUnlimited effort) p names budget effort.workers)
    → IfOk r (IsTextOf (TraceOwes effort bytes))
trace_owed effort bytes p names budget (Ok a) text budget_is t =
    owed_so (TraceOwes effort bytes) a (status_of t.report.claim) (trace_text names t.opening t.steps)
    (trace_owes effort bytes t.report.claim (trace_text names t.opening t.steps) (record {
      problem = p;
      names = names;
      text = text;
      budget = budget;
      budget_is = budget_is;
      opening = t.opening;
      steps = t.steps;
      report = t.report;
      tells = t.tells;
      whole = t.whole;
      status_is = refl;
      rows_are = refl;
    })) t.status_is t.text_is
trace_owed effort bytes p names budget (Err m) text budget_is t = tt
