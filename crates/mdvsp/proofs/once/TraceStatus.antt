-- Searches of one instance whose traces are told have one status, but that one may leave open what another settles.
use Rattle.std.proofs.Common.{◌≡◌, ℕ, inl, refl, List, Option, Some, None, IsSomeAnd, sym, ◌∙◌, subst, pos, ◌≤ℤ◌}
use Rattle.vs_instance.specs.Plan.{IsPlan, LayerBlock, plan_cost}
use Rattle.vs_instance.specs.Problem.{Problem}
use Rattle.vs_plan.specs.CheckedPlan.{Checked}
use Rattle.vs_reader.specs.Rows.{Row}
use Rattle.vs_reader.proofs.CallerLemmas.{one_reading}
use Rattle.vs_prices.specs.declared.claim.Claim.{Claim}
use Rattle.vs_prices.specs.declared.claim.Claim.TheVariants.{Optimal, Infeasible}
use Rattle.vs_reply.specs.declared.status.Status.{Status}
use Rattle.vs_reply.specs.declared.status.Status.TheVariants as status
use Rattle.vs_tree.specs.History.{State, incumbent, state_of}
use Rattle.vs_tree.specs.Laws.{IsTrueClaim}
use Rattle.vs_tree.specs.Sound.{IsPlanOf}
use Rattle.vs_tree.specs.declared.calls.Report.{Report}
use Rattle.vs_words.specs.declared.command.Effort.{Effort}
use Rattle.mdvsp.specs.Laws.{MayBothBe}
use Rattle.mdvsp.specs.Owed.{OwesNoSearch, OwesTrace, TraceOwes}
use Rattle.mdvsp.proofs.once.SolveStatus.{claims_agree, searched_or_refused}

-- no report says that a plan is the cheapest where another says that there is none
plan_or_none : (p : Problem) (best : Option Checked) → ((blocks : List LayerBlock) → ¬ (IsPlan p blocks))
    → ¬ (IsSomeAnd best (λ b. IsPlanOf p b
    × ((blocks : List LayerBlock) → IsPlan p blocks → b.cost ≤ℤ pos (plan_cost p blocks))))
plan_or_none p None none is = is
plan_or_none p (Some b) none is =
    none b.blocks (subst (λ (x : Problem). IsPlan x b.blocks) is.0.1 is.0.0.plan)

never_both : (p : Problem) (s t : State) (r q : Report) → IsTrueClaim p s r r.claim → IsTrueClaim p t q q.claim
    → r.claim ≡ Optimal → q.claim ≡ Infeasible → ⊥
never_both p s t r q proves also optimal infeasible =
    plan_or_none p (incumbent s) (subst (λ (c : Claim). IsTrueClaim p t q c) infeasible also)
    (subst (λ (c : Claim). IsTrueClaim p s r c) optimal proves)

module _ (effort : Effort) (bytes : List ℕ) where
  -- what the trace of one is owed for, that of another is
  module _ (a b : Status) (r s : List Row) (owed : OwesTrace effort bytes a r) (also : OwesTrace effort bytes b s) where
    same : also.problem ≡ owed.problem
    same = (one_reading bytes owed.problem also.problem owed.names also.names owed.text.before also.text.before
        owed.text.rest also.text.rest owed.text.instance also.text.instance).0

    proves : IsTrueClaim owed.problem (state_of also.opening also.steps) also.report also.report.claim
    proves = subst (λ (x : Problem). IsTrueClaim x (state_of also.opening also.steps) also.report also.report.claim)
        same also.tells.proves

    written_both : MayBothBe a b
    written_both =
        rw (owed.status_is, also.status_is)
        (claims_agree owed.report.claim also.report.claim
        (never_both owed.problem (state_of owed.opening owed.steps) (state_of also.opening also.steps) owed.report
        also.report owed.tells.proves proves)
        (never_both owed.problem (state_of also.opening also.steps) (state_of owed.opening owed.steps) also.report
        owed.report proves owed.tells.proves))

  -- an instance that is searched isn't refused
  read_or_refused : (answer : Status) (r s : List Row) → OwesTrace effort bytes answer r
      → ¬ (OwesNoSearch effort bytes s)
  read_or_refused answer r s owed none =
      searched_or_refused effort bytes owed.problem owed.names owed.text owed.budget owed.budget_is s none

  -- what `trace` may owe
  data Traced (answer : Status) (rows : List Row) : Type 0 where
    Written : OwesTrace effort bytes answer rows → Traced answer rows
    Refused : answer ≡ status.BadInput → OwesNoSearch effort bytes rows → Traced answer rows

  traced : (answer : Status) (rows : List Row) → TraceOwes effort bytes answer rows → Traced answer rows
  traced status.Done rows owed = Written owed
  traced status.Infeasible rows owed = Written owed
  traced status.StillOpen rows owed = Written owed
  traced status.BadInput rows owed = Refused refl owed
  traced _ rows owed = absurd owed

  one_of_two : (a b : Status) (r s : List Row) → Traced a r → Traced b s → MayBothBe a b
  one_of_two a b r s (Written owed) (Written also) = written_both a b r s owed also
  one_of_two a b r s (Written owed) (Refused is none) = absurd (read_or_refused a r s owed none)
  one_of_two a b r s (Refused is none) (Written owed) = absurd (read_or_refused b s r owed none)
  one_of_two a b r s (Refused is none) (Refused so other) = inl (is ∙ sym so)

  pub trace_status : (a b : Status) (r s : List Row) → TraceOwes effort bytes a r → TraceOwes effort bytes b s
      → MayBothBe a b
  trace_status a b r s owed also = one_of_two a b r s (traced a r owed) (traced b s also)
