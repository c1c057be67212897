-- What holds of every answer of a search that is carried on.
use Rattle.std.specs.Prelude.{◌≢◌, ℕ, ◌+◌, ◌*◌, ◌≤◌, All}
use Rattle.vs_instance.specs.Instance.{IsInstance}
use Rattle.vs_instance.specs.Problem.{Problem}
use Rattle.vs_instance.specs.Restriction.{permitted_sets}
use Rattle.vs_prices.specs.Bounds.{IsBelow}
use Rattle.vs_prices.specs.declared.claim.Claim.TheVariants.{StillOpen}
use Rattle.vs_rows.specs.declared.document.Document.{Document}
use Rattle.vs_cert.specs.Answers.{choices}
use Rattle.vs_resume.specs.Answers.{ResumeAnswer}

-- no leaf of an answer is below its cost, and its claim isn't open
pub record LeavesNothingOpen (p : Problem) (budget : ℕ) (d e : Document) (answers : ResumeAnswer p budget d e) : Type 0
  where
    pub leaves : All (λ worth. ¬ (IsBelow worth e.cost)) answers.worths
    pub claim : e.claim ≢ StillOpen

-- so it is of every answer within a budget of at least twice as many nodes, less one, as there are choices of a
-- permitted layer for each trip
abbrev pub EnoughNodesLeaveNothingOpen : Type 0
EnoughNodesLeaveNothingOpen = (p : Problem) (budget : ℕ) (d e : Document) (answers : ResumeAnswer p budget d e)
    → IsInstance p → 2 * choices (permitted_sets p) ≤ budget + 1 → LeavesNothingOpen p budget d e answers
