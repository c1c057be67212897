-- Whether a search is carried on from a document that was read, and what is answered where it isn't.
use Rattle.std.specs.Prelude.{◌≡◌, ◌≤◌, ℕ, Some, ◌⊎◌, None}
use Rattle.vs_instance.specs.declared.limits.TheConstants.{MAX_BUDGET}
use Rattle.vs_instance.specs.Firsts.{first}
use Rattle.vs_check.specs.Flaws.{flaws_of}
use Rattle.vs_check.specs.HoldingDocument.{HoldingDocument}
use Rattle.vs_check.specs.declared.flaw.Flaw.{Flaw}
use Rattle.vs_reply.specs.FlawRows.{no_row}
use Rattle.vs_reply.specs.RefusalRows.{too_large_row}
use Rattle.vs_reply.specs.Answered.{TellsRow}
use Rattle.vs_reply.specs.declared.answer.Answer.{Answer}
use Rattle.vs_reply.specs.declared.case.Case.{Case}
use Rattle.vs_reply.specs.declared.status.Status.TheVariants.{BadInput, SaysNo}
use Rattle.vs_resume.specs.Answers.{HasRoom}
use Rattle.vs_words.specs.declared.command.Effort.{Effort}
use Rattle.mdvsp.specs.Budgets.{resumed_budget}
use Rattle.mdvsp.specs.declared.resuming.Start.{Start}
use Rattle.mdvsp.specs.declared.resuming.Start.TheVariants.{With, Not}

-- with this effort the budget is so many nodes
abbrev pub IsBudgetFor : Effort → Case → ℕ → Type 0
IsBudgetFor effort case budget = resumed_budget case.input.instance case.document effort.nodes ≡ Some budget

-- leaves and nodes are too many, and a row says so
pub record TellsTooMany (effort : Effort) (case : Case) (answer : Answer) : Type 0 where
  pub too_large : resumed_budget case.input.instance case.document effort.nodes ≡ None
  pub tells : TellsRow BadInput too_large_row answer

-- they aren't; the document doesn't hold, and a row has its first flaw
pub record TellsFirstFlaw (effort : Effort) (case : Case) (answer : Answer) : Type 0 where
  pub budget : ℕ
  pub is_budget : IsBudgetFor effort case budget
  pub fails : ¬ (HoldingDocument case.input.instance case.document)
  pub flaw : Flaw
  pub is_first : first (flaws_of case.input.instance case.document) ≡ Some flaw
  pub tells : TellsRow SaysNo (no_row case.input.names flaw) answer

-- they aren't, and it does
pub record MayGoOn (effort : Effort) (case : Case) (budget : ℕ) : Type 0 where
  pub is_budget : IsBudgetFor effort case budget
  pub few : budget ≤ MAX_BUDGET
  pub room : HasRoom case.input.instance case.document budget
  pub holds : HoldingDocument case.input.instance case.document

abbrev pub BeginsResuming : Effort → Case → Start → Type 0
BeginsResuming effort case (With budget) = MayGoOn effort case budget
BeginsResuming effort case (Not answer) = TellsTooMany effort case answer ⊎ TellsFirstFlaw effort case answer
