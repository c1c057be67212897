-- What `trial` answers is owed: its instance is read, its document is read behind it, and holds.
use Rattle.std.proofs.Common.{◌≡◌, ℕ, ◌≤◌, List, [], ◌∷◌, ◌++◌, take, Option, ℤ, refl, sym, ap, ◌∙◌, subst, append-nil, arith}
use Rattle.std.specs.Prelude.{codes, decimal}
use Rattle.std.proofs.lemmas.List.{take-append-drop}
use Rattle.vs_instance.specs.Problem.{Problem}
use Rattle.vs_reader.specs.Names.{NameLists}
use Rattle.vs_reader.specs.Rows.{Row, lines}
use Rattle.vs_reader.specs.Texts.{HasRows, StandsFor, StandsForInstance}
use Rattle.vs_reader.proofs.CallerLemmas.{one_reading}
use Rattle.vs_make.specs.Generator.{make_rows}
use Rattle.vs_make.specs.Made.{IsWholeText, made_names, made_problem}
use Rattle.vs_make.proofs.CallerLemmas.{made_text}
use Rattle.vs_prices.specs.declared.claim.Claim.{Claim}
use Rattle.vs_prices.specs.declared.claim.Claim.TheVariants.{Optimal, Infeasible, StillOpen}
use Rattle.vs_rows.specs.DocumentRows.{claim_field, document_rows, number_field}
use Rattle.vs_rows.specs.declared.document.Document.{Document}
use Rattle.vs_document.specs.Alike.{AreAlike}
use Rattle.vs_document.proofs.CallerLemmas.{read_back}
use Rattle.vs_check.specs.HoldingDocument.{HoldingDocument}
use Rattle.vs_check.proofs.CallerLemmas.{prove_their_claims}
use Rattle.vs_reply.specs.declared.answer.Answer.{Answer}
use Rattle.vs_reply.specs.Answered.{IsNoCase, IsTextOf}
use Rattle.vs_reply.specs.Status.{status_of}
use Rattle.vs_reply.proofs.CallerLemmas.{case_refused, owed_so, same_case}
use Rattle.mdvsp.specs.Answered.{AreWritten, AnswersDocument, IsReadOf, AreTextsOf}
use Rattle.vs_reply.specs.Cases.{CheckText}
use Rattle.mdvsp.specs.Owed.{OwesTrial, TrialOwes, trial_row}
use Rattle.mdvsp.specs.SolveAnswer.{SolveAnswer}

-- a text that was made isn't refused
pub made_stands : (n : ℕ) (made : List ℕ) → n ≤ 2000 → made ≡ lines (make_rows n)
    → IsWholeText made (made_problem n) (made_names n)
made_stands n made few is =
    subst (λ (bytes : List ℕ). IsWholeText bytes (made_problem n) (made_names n)) (sym is)
    (made_text n (omega (arith, few)))

-- and stands for the instance that is read from it
pub whole_as_read : (made : List ℕ) (p q : Problem) (names others : NameLists) → IsWholeText made p names
    → StandsForInstance made q others → IsWholeText made q others
whole_as_read made p q names others whole (before, rest, stands) =
    let same = one_reading made p q names others whole.before before [] rest whole.stands stands in
    record {
      before = before;
      stands = subst (λ (rows : List Row). StandsFor made q others before rows) same.3 stands;
      ends = whole.ends;
    }

-- all records of such a text come before what follows them
all_before : (made : List ℕ) (p : Problem) (names : NameLists) (whole : IsWholeText made p names)
    → HasRows made (take whole.before whole.stands.rows)
all_before made p names whole =
    let rows : List Row = whole.stands.rows in
    let all : take whole.before rows ≡ rows =
    sym (append-nil (take whole.before rows))
    ∙ ap (λ (rest : List Row). take whole.before rows ++ rest) whole.stands.text.rest_is
    ∙ take-append-drop whole.before rows in
    subst (HasRows made) (sym all) whole.stands.has_rows

module _ (made written : List ℕ) (p : Problem) (names : NameLists) (d : Document)
    (is : AreTextsOf made written p names d) where
  -- behind it the document is read
  pub written_case : CheckText (made ++ written) p names d
  written_case =
      let whole = is.whole in
      let back = read_back made made p names whole.before [] d whole.stands (all_before made p names whole) whole.ends
      is.has_text in
      let here : CheckText (made ++ lines (document_rows p names d)) p names d =
      record { before = whole.before; rest = back.rest; instance = back.instance; document = back.document } in
      subst (λ (text : List ℕ). CheckText (made ++ text) p names d) (sym is.written_is) here

  pub read_alike : (q : Problem) (others : NameLists) (e : Document) → CheckText (made ++ written) q others e
      → AreAlike p d e
  read_alike q others e text = (same_case (made ++ written) p q names others d e written_case text).alike

  -- and judged as it is
  pub read_holds : (q : Problem) (others : NameLists) (e : Document) → CheckText (made ++ written) q others e
      → HoldingDocument q e
  read_holds q others e text =
      let same = same_case (made ++ written) p q names others d e written_case text in
      subst (λ (x : Problem). HoldingDocument x e) (sym same.same_problem) (same.judged.holds.0 is.holds)

  pub not_refused : (answer : Answer) → ¬ (IsNoCase (made ++ written) answer)
  not_refused answer none = case_refused (made ++ written) p names d none.rows written_case none.owed

-- the document that was planned was written
written_so : (ends : Type 0) (workers : ℕ) (made : List ℕ) (p : Problem) (names : NameLists) (answer : Answer)
    → IsWholeText made p names → (planned : AnswersDocument ends p names 20 workers answer)
    → AreTextsOf made answer.text.items p names planned.document
written_so ends workers made p names answer whole planned = record {
  whole = whole;
  has_text = planned.solves.has_text;
  holds = planned.solves.answer.holds;
  written_is = planned.text_is;
}

pub planned_written : (ends : Type 0) (workers : ℕ) (made : List ℕ) (p : Problem) (names : NameLists) (answer : Answer)
    → IsWholeText made p names → AnswersDocument ends p names 20 workers answer → AreWritten made answer.text.items
planned_written ends workers made p names answer whole planned =
    (p, names, planned.document, written_so ends workers made p names answer whole planned)

-- rows that tell the same figures
abbrev told : ℕ → Claim → Option ℤ → Option ℤ → ℕ → Row
told n claim cost bound nodes = codes "trial" ∷ decimal n ∷ claim_field claim ∷ number_field cost ∷ number_field bound
    ∷ decimal nodes ∷ codes "yes" ∷ []

same_row : (n : ℕ) (p : Problem) (d e : Document) → AreAlike p d e → trial_row n e ≡ trial_row n d
same_row n p d e alike =
    ap (λ (c : Claim). told n c e.cost e.bound e.nodes) (sym alike.claim)
    ∙ ap (λ (c : Option ℤ). told n d.claim c e.bound e.nodes) (sym alike.cost)
    ∙ ap (λ (b : Option ℤ). told n d.claim d.cost b e.nodes) (sym alike.bound)
    ∙ ap (λ (k : ℕ). told n d.claim d.cost d.bound k) (sym alike.nodes)

trial_owes : (n : ℕ) (claim : Claim) (rows : List Row) → OwesTrial n (status_of claim) rows
    → TrialOwes n (status_of claim) rows
trial_owes n Optimal rows owed = owed
trial_owes n Infeasible rows owed = owed
trial_owes n StillOpen rows owed = owed

-- the row of the document that was read is owed
pub trial_owed : (ends : Type 0) (workers n : ℕ) (made : List ℕ) (p : Problem) (names : NameLists)
    (planned answer : Answer) (e : Document) → ends → workers ≡ 1 → made ≡ lines (make_rows n)
    → IsWholeText made p names → AnswersDocument ends p names 20 workers planned → IsReadOf made planned.text.items e
    → answer.status ≡ planned.status → answer.text.items ≡ lines (trial_row n e ∷ [])
    → IsTextOf (TrialOwes n) answer
trial_owed ends workers n made p names planned answer e unlimited one made_is whole by read status_is text_is =
    let d = by.document in
    let alike = read p names d (written_so ends workers made p names planned whole by) in
    let stands = subst (λ (text : List ℕ). StandsFor text p names whole.before []) made_is whole.stands in
    owed_so (TrialOwes n) answer (status_of d.claim) (trial_row n d ∷ [])
    (trial_owes n d.claim (trial_row n d ∷ []) (record {
      problem = p;
      names = names;
      document = d;
      text = record { before = whole.before; rest = []; instance = stands };
      solves = subst (λ (w : ℕ). SolveAnswer p 20 w d) one (by.whole unlimited);
      proves = prove_their_claims p d whole.stands.text.makes.instance by.solves.answer.holds;
      status_is = refl;
      rows_are = refl;
    }))
    (status_is ∙ by.status_is) (text_is ∙ ap (λ (row : Row). lines (row ∷ [])) (same_row n p d e alike))
