-- What the bytes of an instance give to search, and what is answered where they give nothing.
use Rattle.std.specs.Prelude.{◌≡◌, ℕ, ◌≤◌, List, Some}
use Rattle.vs_instance.specs.declared.limits.TheConstants.{MAX_BUDGET}
use Rattle.vs_reader.specs.Names.{HaveCounts}
use Rattle.vs_reader.specs.Rows.{Row, lines}
use Rattle.vs_reader.specs.declared.input.Timetable.{Timetable}
use Rattle.vs_reply.specs.Cases.{SolveText}
use Rattle.vs_reply.specs.declared.answer.Answer.{Answer}
use Rattle.vs_reply.specs.declared.status.Status.TheVariants.{BadInput}
use Rattle.vs_words.specs.declared.command.Effort.{Effort}
use Rattle.mdvsp.specs.Budgets.{budget_of}
use Rattle.mdvsp.specs.Owed.{OwesNoSearch}
use Rattle.mdvsp.specs.declared.searchable.Searchable.{Searchable}
use Rattle.mdvsp.specs.declared.searchable.Searchable.TheVariants.{With, Not}

-- they are those of the instance with its names, and the budget is what the effort comes to there
pub record IsReadToSearch (effort : Effort) (bytes : List ℕ) (timetable : Timetable) (budget : ℕ) : Type 0 where
  pub text : SolveText bytes timetable.instance timetable.names
  pub counts : HaveCounts timetable.instance timetable.names
  pub budget_is : budget_of timetable.instance effort.nodes ≡ Some budget
  pub few : budget ≤ MAX_BUDGET

-- the rows that refuse a search
pub record IsNoSearch (effort : Effort) (bytes : List ℕ) (answer : Answer) : Type 0 where
  pub rows : List Row
  pub owed : OwesNoSearch effort bytes rows
  pub status_is : answer.status ≡ BadInput
  pub text_is : answer.text.items ≡ lines rows

abbrev pub IsSearchable : Effort → List ℕ → Searchable → Type 0
IsSearchable effort bytes (With timetable budget) = IsReadToSearch effort bytes timetable budget
IsSearchable effort bytes (Not answer) = IsNoSearch effort bytes answer
