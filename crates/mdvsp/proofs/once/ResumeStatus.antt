-- Searches that are carried on from one document have one status, but that one may leave open what another settles.
use Rattle.std.proofs.Common.{◌≡◌, ◌≢◌, ℕ, ◌+◌, ◌*◌, ◌≤◌, inl, inr, refl, sym, ap, ◌∙◌, subst, List, Some, None}
use Rattle.std.specs.Prelude.{count_by}
use Rattle.vs_instance.specs.Problem.{Problem}
use Rattle.vs_instance.specs.Restriction.{permitted_sets}
use Rattle.vs_reader.specs.Names.{NameLists}
use Rattle.vs_reader.specs.Rows.{Row}
use Rattle.vs_check.specs.HoldingDocument.{HoldingDocument, ProvesItsClaim}
use Rattle.vs_rows.specs.declared.document.Document.{Document}
use Rattle.vs_rows.specs.declared.document.Shape.{Shape}
use Rattle.vs_reply.specs.Cases.{CheckText}
use Rattle.vs_reply.specs.declared.status.Status.{Status}
use Rattle.vs_reply.specs.declared.status.Status.TheVariants as status
use Rattle.vs_reply.proofs.CallerLemmas.{case_refused, same_case}
use Rattle.vs_cert.specs.Answers.{choices}
use Rattle.vs_resume.specs.Answers.{is_leaf}
use Rattle.vs_resume.proofs.CallerLemmas.{enough_nodes_leave_nothing_open}
use Rattle.vs_words.specs.declared.command.Effort.{Effort}
use Rattle.vs_words.specs.Words.{IsUnlimited}
use Rattle.mdvsp.specs.Budgets.{resumed_budget, resumed_nodes, room_for}
use Rattle.mdvsp.specs.Laws.{MayBothBe}
use Rattle.mdvsp.specs.Owed.{OwesNoResuming, OwesNoTurn, OwesResumed, ResumeOwes}
use Rattle.mdvsp.proofs.once.SolveStatus.{claims_agree, never_both, open_claim}

module _ (effort : Effort) (bytes : List ℕ) where
  -- a budget within the limit is none past it, whichever of its readings a text has
  one_budget : (p q : Problem) (names others : NameLists) (d e : Document) (budget : ℕ) → CheckText bytes p names d
      → CheckText bytes q others e → resumed_budget p d effort.nodes ≡ Some budget
      → resumed_budget q e effort.nodes ≡ None → ⊥
  one_budget p q names others d e budget text also some none =
      let same = same_case bytes p q names others d e text also in
      let here : resumed_budget p e effort.nodes ≡ None =
      subst (λ (x : Problem). resumed_budget x e effort.nodes ≡ None) same.same_problem none in
      let leaves = ap (λ (rows : List Shape). room_for p (count_by is_leaf rows)
      (resumed_nodes p (count_by is_leaf rows) effort.nodes)) same.alike.shape in
      let both : None ≡ Some budget = sym here ∙ sym leaves ∙ some in
      cc

  -- a document that is read within the limit isn't refused
  read_or_refused : (p : Problem) (names : NameLists) (d : Document) (budget : ℕ) (rows : List Row)
      → CheckText bytes p names d → resumed_budget p d effort.nodes ≡ Some budget → ¬ (OwesNoTurn effort bytes rows)
  read_or_refused p names d budget rows text some (inl none) = case_refused bytes p names d rows text none
  read_or_refused p names d budget rows text some (inr large) =
      one_budget p large.problem names large.names d large.document budget text large.text some large.too_large

  -- and one that holds isn't denied
  held_or_denied : (a : Status) (r s : List Row) → OwesResumed effort bytes a r → ¬ (OwesNoResuming effort bytes s)
  held_or_denied a r s owed none =
      let denied = none.denied in
      let same = same_case bytes owed.problem denied.problem owed.names denied.names owed.before denied.document
      owed.text denied.text in
      denied.fails
      (subst (λ (x : Problem). HoldingDocument x denied.document) (sym same.same_problem)
      (same.judged.holds.0 owed.held))

  written_both : (a b : Status) (r s : List Row) → OwesResumed effort bytes a r → OwesResumed effort bytes b s
      → MayBothBe a b
  written_both a b r s owed also =
      let same = same_case bytes owed.problem also.problem owed.names also.names owed.before also.before owed.text
      also.text in
      let proves : ProvesItsClaim owed.problem also.document =
      subst (λ (x : Problem). ProvesItsClaim x also.document) same.same_problem also.proves in
      rw (owed.status_is, also.status_is)
      (claims_agree owed.document.claim also.document.claim
      (never_both owed.problem owed.document also.document owed.proves proves)
      (never_both owed.problem also.document owed.document proves owed.proves))

  -- what `resume` may owe
  data Resumed (answer : Status) (rows : List Row) : Type 0 where
    Written : OwesResumed effort bytes answer rows → Resumed answer rows
    Denied : answer ≡ status.SaysNo → OwesNoResuming effort bytes rows → Resumed answer rows
    Refused : answer ≡ status.BadInput → OwesNoTurn effort bytes rows → Resumed answer rows

  resumed : (answer : Status) (rows : List Row) → ResumeOwes effort bytes answer rows → Resumed answer rows
  resumed status.Done rows owed = Written owed
  resumed status.Infeasible rows owed = Written owed
  resumed status.StillOpen rows owed = Written owed
  resumed status.SaysNo rows owed = Denied refl owed
  resumed status.BadInput rows owed = Refused refl owed
  resumed _ rows owed = absurd owed

  read_written : (a : Status) (r s : List Row) → OwesResumed effort bytes a r → ¬ (OwesNoTurn effort bytes s)
  read_written a r s owed =
      read_or_refused owed.problem owed.names owed.before owed.budget s owed.text owed.budget_is

  read_denied : (r s : List Row) → OwesNoResuming effort bytes r → ¬ (OwesNoTurn effort bytes s)
  read_denied r s owed =
      let denied = owed.denied in
      read_or_refused denied.problem denied.names denied.document owed.budget s denied.text owed.budget_is

  one_of_two : (a b : Status) (r s : List Row) → Resumed a r → Resumed b s → MayBothBe a b
  one_of_two a b r s (Written owed) (Written also) = written_both a b r s owed also
  one_of_two a b r s (Written owed) (Denied is denied) = absurd (held_or_denied a r s owed denied)
  one_of_two a b r s (Written owed) (Refused is none) = absurd (read_written a r s owed none)
  one_of_two a b r s (Denied is denied) (Written owed) = absurd (held_or_denied b s r owed denied)
  one_of_two a b r s (Denied is denied) (Denied so other) = inl (is ∙ sym so)
  one_of_two a b r s (Denied is denied) (Refused so none) = absurd (read_denied r s denied none)
  one_of_two a b r s (Refused is none) (Written owed) = absurd (read_written b s r owed none)
  one_of_two a b r s (Refused is none) (Denied so denied) = absurd (read_denied s r denied none)
  one_of_two a b r s (Refused is none) (Refused so other) = inl (is ∙ sym so)

  pub resume_status : (a b : Status) (r s : List Row) → ResumeOwes effort bytes a r → ResumeOwes effort bytes b s
      → MayBothBe a b
  resume_status a b r s owed also = one_of_two a b r s (resumed a r owed) (resumed b s also)

-- enough nodes leave nothing open
pub enough_nodes_end_what_is_resumed : (effort : Effort) (bytes : List ℕ) (answer : Status) (rows : List Row)
    (owed : OwesResumed effort bytes answer rows) → IsUnlimited effort
    → 2 * choices (permitted_sets owed.problem) ≤ owed.budget + 1 → answer ≢ status.StillOpen
enough_nodes_end_what_is_resumed effort bytes answer rows owed unlimited enough still =
    (enough_nodes_leave_nothing_open owed.problem owed.budget owed.before owed.document (owed.whole unlimited)
    owed.text.instance.text.makes.instance enough).claim
    (open_claim owed.document.claim (sym owed.status_is ∙ still))
