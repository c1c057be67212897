-- What holds of the document of every search.
use Rattle.std.specs.Prelude.{◌≢◌, ℕ, ◌+◌, ◌*◌, ◌≤◌, List, IfSome, ℤ}
use Rattle.vs_instance.specs.Restriction.{permitted_sets}
use Rattle.vs_instance.specs.Lagrangian.{IsStartingValue}
use Rattle.vs_instance.specs.declared.limits.TheConstants.{MAX_BUDGET}
use Rattle.vs_prices.specs.Bounds.{ReachesValue}
use Rattle.vs_prices.specs.declared.bound.Bound.{Bound}
use Rattle.vs_prices.specs.declared.claim.Claim.TheVariants.{StillOpen}
use Rattle.vs_tree.specs.History.{FullStep, IsHistory, IsLeaf, IsLeafWorth, Opening, State, state_of}
use Rattle.vs_tree.specs.Sound.{IsOpening}
use Rattle.vs_tree.specs.Takes.{IsOver}
use Rattle.vs_rows.specs.DocumentText.{HasText}
use Rattle.vs_rows.specs.declared.document.Document.{Document}
use Rattle.vs_cert.specs.StateDocument.{IsDocumentOf}
use Rattle.vs_check.specs.HoldingDocument.{HoldingDocument}
use Rattle.vs_cert.specs.Answers.{IsAnswer, IsAnswerSoFar, ReachesStart, choices}

-- the document of any state that a search comes to holds
abbrev pub DocumentsOfStatesHold : Type 0
DocumentsOfStatesHold = (o : Opening) (steps : List FullStep) (d : Document) → IsOpening o → IsHistory o steps
    → IsDocumentOf o (state_of o steps) d → HoldingDocument o.problem d

-- each state that a search comes to has a document, and that has a text
abbrev pub StatesHaveDocuments : Type 0
StatesHaveDocuments = (o : Opening) (steps : List FullStep) → IsOpening o → IsHistory o steps → o.budget ≤ MAX_BUDGET
    → (d : Document) × IsDocumentOf o (state_of o steps) d × HasText o.problem d

-- the document of any state that a search comes to is an answer so far
abbrev pub SearchesAnswerSoFar : Type 0
SearchesAnswerSoFar = (o : Opening) (steps : List FullStep) (d : Document) → IsOpening o → IsHistory o steps
    → IsDocumentOf o (state_of o steps) d → IsAnswerSoFar o.problem o.budget d

-- the document of a state that a search comes to, where the search is over, is an answer
abbrev pub FinishedSearchesAnswer : Type 0
FinishedSearchesAnswer = (o : Opening) (steps : List FullStep) (d : Document) → IsOpening o → IsHistory o steps
    → IsOver o (state_of o steps) → IsDocumentOf o (state_of o steps) d → IsAnswer o.problem o.budget d

-- every leaf is worth no less than the value at the starting multipliers
abbrev pub EachReachesTheStart : Opening → State → Type 0
EachReachesTheStart o s = (value : ℤ) → IsStartingValue o.problem value → (k : ℕ) (worth : Bound) → IsLeaf s k
    → IsLeafWorth o.problem s k worth → ReachesValue worth value

-- where the leaves of a state are, the bound of its document is no less than that value, or than the cost
abbrev pub BoundsReachTheStart : Type 0
BoundsReachTheStart = (o : Opening) (steps : List FullStep) (d : Document) → IsOpening o → IsHistory o steps
    → IsDocumentOf o (state_of o steps) d → EachReachesTheStart o (state_of o steps)
    → IfSome d.bound (ReachesStart o.problem d)

-- a search leaves nothing open whose budget is at least twice as many, less one, as there are choices of a permitted
-- layer for each trip
abbrev pub EnoughBudgetsLeaveNothingOpen : Type 0
EnoughBudgetsLeaveNothingOpen = (o : Opening) (steps : List FullStep) (d : Document) → IsOpening o → IsHistory o steps
    → IsOver o (state_of o steps) → IsDocumentOf o (state_of o steps) d
    → 2 * choices (permitted_sets o.problem) ≤ o.budget + 1 → d.claim ≢ StillOpen
