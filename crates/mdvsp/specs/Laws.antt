-- What the answers of `solve` have to do with each other, and which commands owe one thing.
use Rattle.std.specs.Prelude.{◌≡◌, ◌≢◌, ◌⊎◌, ℕ, false, List, [], ◌∷◌, MatchOption, IfSome, IsSomeAnd, None, Option, ℤ, ◌≤ℤ◌}
use Rattle.vs_instance.specs.Problem.{Problem}
use Rattle.vs_instance.specs.Restriction.{permitted_sets}
use Rattle.vs_plan.specs.Blocks.{blocks_of}
use Rattle.vs_plan.specs.Greedy.{GreedyGetsStuck, GreedyGives}
use Rattle.vs_prices.specs.declared.bound.Bound.TheVariants.{AtLeast}
use Rattle.vs_prices.specs.declared.table.Table.{Table}
use Rattle.vs_prices.specs.Table.{AreZeros, Fits}
use Rattle.vs_prices.specs.Worth.{IsWorth}
use Rattle.vs_rows.specs.declared.document.Document.{Document}
use Rattle.vs_reader.specs.Names.{NameLists}
use Rattle.vs_reader.specs.Rows.{Row, lines}
use Rattle.vs_rows.specs.DocumentRows.{document_rows}
use Rattle.vs_cert.specs.StateDocument.{IsDocumentOf}
use Rattle.vs_tree.specs.History.{FullStep, Opening, state_of}
use Rattle.vs_tree.specs.declared.calls.Report.{Report}
use Rattle.mdvsp.specs.SolveAnswer.{SolveAnswer, StoppedAnswer}
use Rattle.vs_words.specs.declared.command.Command.{Command}
use Rattle.vs_words.specs.declared.command.Command.TheVariants as commands
use Rattle.vs_words.specs.declared.command.Effort.{Effort}
use Rattle.vs_words.specs.declared.command.Search.{Search}
use Rattle.vs_words.specs.declared.command.Search.TheVariants.{Solve, Trial, Resume, Trace}
use Rattle.vs_words.specs.declared.command.Plain.TheVariants.{Peak}
use Rattle.vs_reply.specs.declared.status.Status.{Status}
use Rattle.vs_reply.specs.declared.status.Status.TheVariants as status
use Rattle.mdvsp.specs.Owed.{OwesDocument, OwesResumed, OwesTrace, OwesTrial}

-- the document's plan is the greedy rule's, and it has none where that rule gets stuck
abbrev pub HasGreedyPlan : Problem → Document → Type 0
HasGreedyPlan p d = MatchOption d.cost (GreedyGetsStuck p) (λ _. GreedyGives p (blocks_of d.plan))

-- a cost table of the instance in which every price is 0
pub record IsZeroTable (p : Problem) (table : Table) : Type 0 where
  pub cost : table.ray ≡ false
  pub fits : Fits p table
  pub zeros : AreZeros table

-- Without a node the document has the greedy rule's plan and no table but that of zeros, which is worth a number. The
-- answer is done exactly where there is a plan that costs no more than it, and else open.
pub record IsDoneWhereShown (effort : Effort) (bytes : List ℕ) (answer : Status) (rows : List Row)
    (owed : OwesDocument effort bytes answer rows) : Type 0 where
  pub plan : HasGreedyPlan owed.problem owed.document
  pub table : Table
  pub only : owed.document.tables.items ≡ table ∷ []
  pub zero : IsZeroTable owed.problem table
  pub n : ℤ
  pub worth : IsWorth owed.problem (permitted_sets owed.problem) table (AtLeast n)
  pub done_only : answer ≡ status.Done → IsSomeAnd owed.document.cost (λ cost. cost ≤ℤ n)
  pub done_there : IsSomeAnd owed.document.cost (λ cost. cost ≤ℤ n) → answer ≡ status.Done
  pub or_open : (answer ≡ status.Done) ⊎ (answer ≡ status.StillOpen)

-- what the command owes is one thing; of `solve`, `trial`, `resume` and `trace` the definition leaves open which of
-- several searches is made, and of `peak` which of several blocks and prices show a peak
abbrev pub IsDetermined : Command → Type 0
IsDetermined (commands.Search search) = ⊥
IsDetermined (commands.Plain Peak) = ⊥
IsDetermined (commands.Plain _) = Unit {0}

-- the answer settles what plans there are
abbrev pub IsSettled : Status → Type 0
IsSettled status.Done = Unit {0}
IsSettled status.Infeasible = Unit {0}
IsSettled _ = ⊥

-- two answers to the same words and bytes may both be right: they are the same, or one leaves open what the other
-- settles
abbrev pub MayBothBe : Status → Status → Type 0
MayBothBe a b = (a ≡ b) ⊎ ((a ≡ status.StillOpen) × IsSettled b) ⊎ ((b ≡ status.StillOpen) × IsSettled a)

-- the rows are written as those of a document of the state that a search came to, which the search may answer
pub record WritesAnswer (ends : Type 0) (p : Problem) (names : NameLists) (budget workers : ℕ) (opening : Opening)
    (steps : List FullStep) (rows : List Row) : Type 0 where
  pub document : Document
  pub of_state : IsDocumentOf opening (state_of opening steps) document
  pub solves : StoppedAnswer p budget workers document
  pub whole : ends → SolveAnswer p budget workers document
  pub lines_are : lines rows ≡ lines (document_rows p names document)

-- what a search shows of an instance: what its plan costs, where it has one, and what no plan costs less than, where
-- there is one
pub record Shown : Type 0 where
  pub cost : Option ℤ
  pub bound : Option ℤ

-- what a document prints, and what a search reports whose trace is written
abbrev pub printed : Document → Shown
printed d = record { cost = d.cost; bound = d.bound }

abbrev pub reported : Report → Shown
reported r = record { cost = r.cost; bound = r.bound }

-- what is owed with this answer for these bytes shows so much of this instance
abbrev pub Shows : Search → List ℕ → Status → List Row → Problem → Shown → Type 0
Shows (Solve effort) bytes answer rows p shown =
    (owed : OwesDocument effort bytes answer rows) × (owed.problem ≡ p) × (printed owed.document ≡ shown)
Shows (Trial n) bytes answer rows p shown =
    (owed : OwesTrial n answer rows) × (owed.problem ≡ p) × (printed owed.document ≡ shown)
Shows (Resume effort) bytes answer rows p shown =
    (owed : OwesResumed effort bytes answer rows) × (owed.problem ≡ p) × (printed owed.document ≡ shown)
Shows (Trace effort) bytes answer rows p shown =
    (owed : OwesTrace effort bytes answer rows) × (owed.problem ≡ p) × (reported owed.report ≡ shown)

-- the bound of one search isn't above the cost of the other
abbrev pub NeverPasses : Shown → Shown → Type 0
NeverPasses x y = IfSome x.bound (λ bound. IfSome y.cost (λ cost. bound ≤ℤ cost))

-- the second document's bound is no lower than the first one's, and its cost no higher: where the first one has no
-- bound the second one has none, and where the first one has a cost the second one has one
pub record NeverFalls (d e : Document) : Type 0 where
  pub bound : MatchOption d.bound (e.bound ≡ None) (λ was. IfSome e.bound (λ bound. was ≤ℤ bound))
  pub cost : IfSome d.cost (λ was. IsSomeAnd e.cost (λ cost. cost ≤ℤ was))

-- where one answer shows that its plan is optimal, the other doesn't show that there is none, and a plan that it shows
-- to be optimal costs the same
pub record NeverDisagree (a b : Status) (x y : Shown) : Type 0 where
  pub never_both : a ≡ status.Done → b ≢ status.Infeasible
  pub one_cost : a ≡ status.Done → b ≡ status.Done → x.cost ≡ y.cost
