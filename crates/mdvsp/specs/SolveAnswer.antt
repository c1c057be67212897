-- What a document has to be that a search answers.
use Rattle.std.specs.Prelude.{◌≡◌, ℕ, ◌<◌, ◌≤◌, ◌^◌, List, length, IfSome, MatchOption, Option}
use Rattle.vs_instance.specs.Problem.{Problem}
use Rattle.vs_plan.specs.CheckedPlan.{Checked}
use Rattle.vs_plan.specs.Greedy.{GreedyGetsStuck, GreedyGives}
use Rattle.vs_tree.specs.History.{FullStep, IsHistory, Opening, state_of}
use Rattle.vs_tree.specs.Laws.{IsTrueClaim}
use Rattle.vs_tree.specs.Report.{IsReport}
use Rattle.vs_tree.specs.Sound.{IsOpening, IsPlanOf}
use Rattle.vs_tree.specs.Takes.{IsOver, held_leaves}
use Rattle.vs_tree.specs.declared.calls.Report.{Report}
use Rattle.vs_node.specs.WorkedHistory.{AreWorked}
use Rattle.vs_rows.specs.DocumentText.{HasText}
use Rattle.vs_cert.specs.StateDocument.{IsDocumentOf}
use Rattle.vs_rows.specs.declared.document.Document.{Document}
use Rattle.vs_cert.specs.Answers.{IsAnswer, IsAnswerSoFar, ReachesStart}

-- the greedy rule's plan, where it gives one
abbrev pub IsGreedyPlan : Problem → Option Checked → Type 0
IsGreedyPlan p first = MatchOption first (GreedyGetsStuck p) (λ plan. GreedyGives p plan.blocks × IsPlanOf p plan)

-- a search of the instance begins with so many nodes as its budget, so many workers, and the greedy rule's plan
pub record BeginsFor (p : Problem) (nodes crew : ℕ) (opening : Opening) : Type 0 where
  pub problem : opening.problem ≡ p
  pub budget : opening.budget ≡ nodes
  pub workers : opening.workers ≡ crew
  pub first : IsGreedyPlan p opening.first

-- The steps are those of such a search, however far it came; no worker holds a leaf. Each leaf that they split or
-- closed was worked on.
pub record IsSearchSoFar (p : Problem) (budget workers : ℕ) (opening : Opening) (steps : List FullStep) : Type 0 where
  pub begins : BeginsFor p budget workers opening
  pub is_opening : IsOpening opening
  pub history : IsHistory opening steps
  pub worked : AreWorked opening steps
  pub none_held : held_leaves (state_of opening steps) ≡ 0

-- the document is that of the state that such a search came to
pub record IsSearchedSoFar (p : Problem) (budget workers : ℕ) (d : Document) : Type 0 where
  pub opening : Opening
  pub steps : List FullStep
  pub made : IsSearchSoFar p budget workers opening steps
  pub of_state : IsDocumentOf opening (state_of opening steps) d

-- A document that a search with this budget and so many workers may answer where it ends early: it has a text, holds,
-- and says what the search came to; once a leaf was worked on, its bound is no less than what the starting multipliers
-- show.
pub record StoppedAnswer (p : Problem) (budget workers : ℕ) (d : Document) : Type 0 where
  pub has_text : HasText p d
  pub answer : IsAnswerSoFar p budget d
  pub start : 1 ≤ d.nodes → IfSome d.bound (ReachesStart p d)
  pub searched : IsSearchedSoFar p budget workers d

-- The steps are those of such a search, which is over; no worker holds a leaf. Each leaf that they split or closed was
-- worked on.
pub record IsSearchOf (p : Problem) (budget workers : ℕ) (opening : Opening) (steps : List FullStep) : Type 0 where
  pub begins : BeginsFor p budget workers opening
  pub is_opening : IsOpening opening
  pub history : IsHistory opening steps
  pub worked : AreWorked opening steps
  pub over : IsOver opening (state_of opening steps)

-- the document is that of the state that such a search came to
pub record IsSearched (p : Problem) (budget workers : ℕ) (d : Document) : Type 0 where
  pub opening : Opening
  pub steps : List FullStep
  pub made : IsSearchOf p budget workers opening steps
  pub of_state : IsDocumentOf opening (state_of opening steps) d

-- A document that a search with this budget and so many workers may answer: it has a text, holds, and says what the
-- search came to; once a leaf was worked on, its bound is no less than what the starting multipliers show.
pub record SolveAnswer (p : Problem) (budget workers : ℕ) (d : Document) : Type 0 where
  pub has_text : HasText p d
  pub answer : IsAnswer p budget d
  pub start : 1 ≤ d.nodes → IfSome d.bound (ReachesStart p d)
  pub searched : IsSearched p budget workers d

-- A search that may end early, of no more steps than a list may have, and what it reports of the state that it came to:
-- that is true of all plans of the instance. The state has a document, and that is one that such a search may answer.
pub record StoppedTrace (p : Problem) (budget workers : ℕ) (opening : Opening) (steps : List FullStep) (report : Report)
    : Type 0 where
  pub made : IsSearchSoFar p budget workers opening steps
  pub few_steps : length steps < 2 ^ 63
  pub is_report : IsReport p (state_of opening steps) report
  pub proves : IsTrueClaim p (state_of opening steps) report report.claim
  pub document : Document
  pub of_state : IsDocumentOf opening (state_of opening steps) document
  pub solves : StoppedAnswer p budget workers document

-- A search that is over, of no more steps than a list may have, and what it reports of the state that it came to: that
-- is true of all plans of the instance. The state has a document, and that is one that a search may answer.
pub record TraceAnswer (p : Problem) (budget workers : ℕ) (opening : Opening) (steps : List FullStep) (report : Report)
    : Type 0 where
  pub made : IsSearchOf p budget workers opening steps
  pub few_steps : length steps < 2 ^ 63
  pub is_report : IsReport p (state_of opening steps) report
  pub proves : IsTrueClaim p (state_of opening steps) report report.claim
  pub document : Document
  pub of_state : IsDocumentOf opening (state_of opening steps) document
  pub solves : SolveAnswer p budget workers document
