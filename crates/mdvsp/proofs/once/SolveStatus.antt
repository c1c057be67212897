-- What two searches of one instance have to do with each other.
use Rattle.std.proofs.Common.{◌≡◌, ◌≢◌, ℕ, ◌+◌, ◌*◌, ◌≤◌, inl, inr, refl, List, Some, None, sym, ◌∙◌, subst}
use Rattle.vs_instance.specs.Problem.{Problem}
use Rattle.vs_instance.specs.Restriction.{permitted_sets}
use Rattle.vs_plan.specs.Blocks.{blocks_of}
use Rattle.vs_reader.specs.Names.{NameLists}
use Rattle.vs_reader.specs.Rows.{Row, lines}
use Rattle.vs_reader.proofs.CallerLemmas.{one_reading, refused_none}
use Rattle.vs_make.specs.Generator.{make_rows}
use Rattle.vs_prices.specs.declared.claim.Claim.{Claim}
use Rattle.vs_prices.specs.declared.claim.Claim.TheVariants.{Optimal, Infeasible, StillOpen}
use Rattle.vs_rows.specs.declared.document.Document.{Document}
use Rattle.vs_cert.specs.Answers.{choices}
use Rattle.vs_check.specs.HoldingDocument.{ProvesItsClaim}
use Rattle.vs_cert.proofs.CallerLemmas.{enough_budgets_leave_nothing_open}
use Rattle.vs_words.specs.declared.command.Effort.{Effort}
use Rattle.vs_words.specs.Words.{IsUnlimited}
use Rattle.vs_reply.specs.Cases.{SolveText}
use Rattle.vs_reply.specs.declared.status.Status.{Status}
use Rattle.vs_reply.specs.declared.status.Status.TheVariants as status
use Rattle.mdvsp.specs.Budgets.{budget_of}
use Rattle.mdvsp.specs.Laws.{MayBothBe}
use Rattle.mdvsp.specs.Owed.{OwesDocument, OwesNoSearch, OwesTrial, SolveOwes, TrialOwes}
use Rattle.vs_reply.specs.Status.{status_of}

-- no document proves that a plan is optimal where another proves that there is none
pub never_both : (p : Problem) (d e : Document) → ProvesItsClaim p d → ProvesItsClaim p e → d.claim ≡ Optimal
    → e.claim ≡ Infeasible → ⊥
never_both p d e proves also optimal infeasible =
    also.infeasible infeasible (blocks_of d.plan) (proves.has_plan optimal)

module _ (bytes : List ℕ) (m n : Effort) (a b : Status) (r s : List Row) (owed : OwesDocument m bytes a r)
    (also : OwesDocument n bytes b s) where
  same : also.problem ≡ owed.problem
  same = (one_reading bytes owed.problem also.problem owed.names also.names owed.text.before also.text.before
      owed.text.rest also.text.rest owed.text.instance also.text.instance).0

  proves : ProvesItsClaim owed.problem also.document
  proves = subst (λ (x : Problem). ProvesItsClaim x also.document) same also.proves

  -- none is optimal where the other shows that there is no plan
  not_both : owed.document.claim ≡ Optimal → also.document.claim ≡ Infeasible → ⊥
  not_both = never_both owed.problem owed.document also.document owed.proves proves

-- the statuses of two claims
pub claims_agree : (c d : Claim) → (c ≡ Optimal → d ≡ Infeasible → ⊥) → (d ≡ Optimal → c ≡ Infeasible → ⊥)
    → MayBothBe (status_of c) (status_of d)
claims_agree Optimal Optimal never nor = inl refl
claims_agree Optimal Infeasible never nor = absurd (never refl refl)
claims_agree Optimal StillOpen never nor = inr (inr (refl, tt))
claims_agree Infeasible Optimal never nor = absurd (nor refl refl)
claims_agree Infeasible Infeasible never nor = inl refl
claims_agree Infeasible StillOpen never nor = inr (inr (refl, tt))
claims_agree StillOpen Optimal never nor = inr (inl (refl, tt))
claims_agree StillOpen Infeasible never nor = inr (inl (refl, tt))
claims_agree StillOpen StillOpen never nor = inl refl

written_both : (bytes : List ℕ) (n : Effort) (a b : Status) (r s : List Row) → OwesDocument n bytes a r
    → OwesDocument n bytes b s → MayBothBe a b
written_both bytes n a b r s owed also =
    rw (owed.status_is, also.status_is)
    (claims_agree owed.document.claim also.document.claim (not_both bytes n n a b r s owed also)
    (not_both bytes n n b a s r also owed))

-- what `solve` may owe
data Solved (effort : Effort) (bytes : List ℕ) (answer : Status) (rows : List Row) : Type 0 where
  Written : OwesDocument effort bytes answer rows → Solved effort bytes answer rows
  Refused : answer ≡ status.BadInput → OwesNoSearch effort bytes rows → Solved effort bytes answer rows

solved : (effort : Effort) (bytes : List ℕ) (answer : Status) (rows : List Row) → SolveOwes effort bytes answer rows
    → Solved effort bytes answer rows
solved effort bytes status.Done rows owed = Written owed
solved effort bytes status.Infeasible rows owed = Written owed
solved effort bytes status.StillOpen rows owed = Written owed
solved effort bytes status.BadInput rows owed = Refused refl owed
solved effort bytes _ rows owed = absurd owed

-- an instance that is searched isn't refused
pub searched_or_refused : (effort : Effort) (bytes : List ℕ) (p : Problem) (names : NameLists)
    → SolveText bytes p names → (budget : ℕ) → budget_of p effort.nodes ≡ Some budget → (rows : List Row)
    → ¬ (OwesNoSearch effort bytes rows)
searched_or_refused effort bytes p names text budget some rows (inl refusal) =
    refused_none bytes refusal.refused p names text.before text.rest refusal.is_refused text.instance
searched_or_refused effort bytes p names text budget some rows (inr large) =
    let same = (one_reading bytes p large.problem names large.names text.before large.text.before text.rest
    large.text.rest text.instance large.text.instance).0 in
    let none : budget_of p effort.nodes ≡ None =
    subst (λ (x : Problem). budget_of x effort.nodes ≡ None) same large.too_large in
    cc

read_or_refused : (effort : Effort) (bytes : List ℕ) (answer : Status) (r s : List Row)
    → OwesDocument effort bytes answer r → ¬ (OwesNoSearch effort bytes s)
read_or_refused effort bytes answer r s owed none =
    searched_or_refused effort bytes owed.problem owed.names owed.text owed.budget owed.budget_is s none

one_of_two : (effort : Effort) (bytes : List ℕ) (a b : Status) (r s : List Row) → Solved effort bytes a r
    → Solved effort bytes b s → MayBothBe a b
one_of_two effort bytes a b r s (Written owed) (Written also) = written_both bytes effort a b r s owed also
one_of_two effort bytes a b r s (Written owed) (Refused is none) =
    absurd (read_or_refused effort bytes a r s owed none)
one_of_two effort bytes a b r s (Refused is none) (Written owed) =
    absurd (read_or_refused effort bytes b s r owed none)
one_of_two effort bytes a b r s (Refused is none) (Refused so other) = inl (is ∙ sym so)

pub solve_status : (effort : Effort) (bytes : List ℕ) (a b : Status) (r s : List Row) → SolveOwes effort bytes a r
    → SolveOwes effort bytes b s → MayBothBe a b
solve_status effort bytes a b r s owed also =
    one_of_two effort bytes a b r s (solved effort bytes a r owed) (solved effort bytes b s also)

-- what `trial` may owe
trial_owed : (n : ℕ) (answer : Status) (rows : List Row) → TrialOwes n answer rows → OwesTrial n answer rows
trial_owed n status.Done rows owed = owed
trial_owed n status.Infeasible rows owed = owed
trial_owed n status.StillOpen rows owed = owed
trial_owed n _ rows owed = absurd owed

tried_both : (n : ℕ) (a b : Status) (r s : List Row) → OwesTrial n a r → OwesTrial n b s → MayBothBe a b
tried_both n a b r s owed also =
    let bytes : List ℕ = lines (make_rows n) in
    let same =
    (one_reading bytes owed.problem also.problem owed.names also.names owed.text.before also.text.before
    owed.text.rest also.text.rest owed.text.instance also.text.instance).0 in
    let proves : ProvesItsClaim owed.problem also.document =
    subst (λ (x : Problem). ProvesItsClaim x also.document) same also.proves in
    rw (owed.status_is, also.status_is)
    (claims_agree owed.document.claim also.document.claim
    (never_both owed.problem owed.document also.document owed.proves proves)
    (never_both owed.problem also.document owed.document proves owed.proves))

pub trial_status : (n : ℕ) (a b : Status) (r s : List Row) → TrialOwes n a r → TrialOwes n b s → MayBothBe a b
trial_status n a b r s owed also = tried_both n a b r s (trial_owed n a r owed) (trial_owed n b s also)

-- enough nodes leave nothing open
pub open_claim : (claim : Claim) → status_of claim ≡ status.StillOpen → claim ≡ StillOpen
open_claim Optimal e = cc
open_claim Infeasible e = cc
open_claim StillOpen e = refl

pub enough_nodes_leave_nothing_open : (effort : Effort) (bytes : List ℕ) (answer : Status) (rows : List Row)
    (owed : OwesDocument effort bytes answer rows) → IsUnlimited effort
    → 2 * choices (permitted_sets owed.problem) ≤ owed.budget + 1 → answer ≢ status.StillOpen
enough_nodes_leave_nothing_open effort bytes answer rows owed unlimited enough still =
    let by = (owed.whole unlimited).searched in
    let of_state = by.of_state in
    let made = by.made in
    enough_budgets_leave_nothing_open by.opening by.steps owed.document made.is_opening made.history made.over of_state
    (rw (made.begins.problem, made.begins.budget) enough)
    (open_claim owed.document.claim (sym owed.status_is ∙ still))
