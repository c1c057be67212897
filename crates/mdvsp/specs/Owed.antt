-- What a call has to answer, and what it has to write.
use Rattle.std.specs.Prelude.{◌≡◌, ℕ, List, [], ◌∷◌, codes, decimal, Some, None, ◌⊎◌}
use Rattle.vs_instance.specs.Problem.{Problem}
use Rattle.vs_rows.specs.declared.document.Document.{Document}
use Rattle.vs_check.specs.HoldingDocument.{HoldingDocument, ProvesItsClaim}
use Rattle.vs_reader.specs.Rows.{Row, lines}
use Rattle.vs_reader.specs.Names.{NameLists}
use Rattle.vs_rows.specs.DocumentRows.{claim_field, number_field, document_rows}
use Rattle.vs_reply.specs.declared.status.Status.{Status}
use Rattle.vs_reply.specs.declared.status.Status.TheVariants as status
use Rattle.vs_reply.specs.Cases.{CheckText, SolveText}
use Rattle.vs_reply.specs.Owed.{BlocksOwes, CheckOwes, MakeOwes, NetworkOwes, OwesNo, OwesNoCase, OwesRefusal, PeakCheckOwes}
use Rattle.vs_peak.specs.Owed.{PeakOwes}
use Rattle.vs_replay.specs.Owed.{ReplayOwes}
use Rattle.vs_reply.specs.Status.{status_of}
use Rattle.vs_reply.specs.RefusalRows.{too_large_row}
use Rattle.vs_words.specs.declared.command.Command.{Command}
use Rattle.vs_words.specs.declared.command.Command.TheVariants as commands
use Rattle.vs_words.specs.declared.command.Effort.{Effort}
use Rattle.vs_words.specs.declared.command.Plain.{Plain}
use Rattle.vs_words.specs.declared.command.Plain.TheVariants.{Check, Network, Blocks, Make, Peak, PeakCheck, Replay}
use Rattle.vs_words.specs.declared.command.Search.{Search}
use Rattle.vs_words.specs.declared.command.Search.TheVariants.{Solve, Trial, Resume, Trace}
use Rattle.vs_make.specs.Generator.{make_rows}
use Rattle.vs_resume.specs.Answers.{ResumeAnswer, StoppedResume}
use Rattle.vs_trace.specs.TraceRows.{trace_text}
use Rattle.vs_tree.specs.History.{FullStep, Opening}
use Rattle.vs_tree.specs.declared.calls.Report.{Report}
use Rattle.mdvsp.specs.Budgets.{budget_of, resumed_budget}
use Rattle.vs_words.specs.Words.{IsUnlimited}
use Rattle.mdvsp.specs.SolveAnswer.{SolveAnswer, StoppedAnswer, StoppedTrace, TraceAnswer}

-- `solve` is owed a document that a search of the instance answers, made by as many workers as are asked for within the
-- budget, and that proves what it claims, with the status of its claim; where no limit of time or of the gap is given,
-- the search is over
pub record OwesDocument (effort : Effort) (bytes : List ℕ) (answer : Status) (rows : List Row) : Type 0 where
  pub problem : Problem
  pub names : NameLists
  pub document : Document
  pub text : SolveText bytes problem names
  pub budget : ℕ
  pub budget_is : budget_of problem effort.nodes ≡ Some budget
  pub solves : StoppedAnswer problem budget effort.workers document
  pub whole : IsUnlimited effort → SolveAnswer problem budget effort.workers document
  pub proves : ProvesItsClaim problem document
  pub status_is : answer ≡ status_of document.claim
  pub rows_are : rows ≡ document_rows problem names document

-- and where so many nodes are too many for the instance, a refusal
pub record OwesTooLarge (effort : Effort) (bytes : List ℕ) (rows : List Row) : Type 0 where
  pub problem : Problem
  pub names : NameLists
  pub text : SolveText bytes problem names
  pub too_large : budget_of problem effort.nodes ≡ None
  pub rows_are : rows ≡ too_large_row ∷ []

-- a text that is no instance text is refused first
abbrev pub OwesNoSearch : Effort → List ℕ → List Row → Type 0
OwesNoSearch effort bytes rows = OwesRefusal bytes rows ⊎ OwesTooLarge effort bytes rows

-- what `solve` with this effort has to answer for these bytes, and which rows it has to write
abbrev pub SolveOwes : Effort → List ℕ → Status → List Row → Type 0
SolveOwes effort bytes status.Done rows = OwesDocument effort bytes status.Done rows
SolveOwes effort bytes status.Infeasible rows = OwesDocument effort bytes status.Infeasible rows
SolveOwes effort bytes status.StillOpen rows = OwesDocument effort bytes status.StillOpen rows
SolveOwes effort bytes status.BadInput rows = OwesNoSearch effort bytes rows
SolveOwes effort bytes _ rows = ⊥

-- `trial`, N, CLAIM, COST, BOUND, NODES, `yes`
abbrev pub trial_row : ℕ → Document → Row
trial_row n d = codes "trial" ∷ decimal n ∷ claim_field d.claim ∷ number_field d.cost ∷ number_field d.bound
    ∷ decimal d.nodes ∷ codes "yes" ∷ []

-- `trial n` is owed the row of a document that a search by one worker within 20 nodes answers for the instance for
-- which the text of `make n` stands, with the status of its claim; such a document holds and proves what it claims
pub record OwesTrial (n : ℕ) (answer : Status) (rows : List Row) : Type 0 where
  pub problem : Problem
  pub names : NameLists
  pub document : Document
  pub text : SolveText (lines (make_rows n)) problem names
  pub solves : SolveAnswer problem 20 1 document
  pub proves : ProvesItsClaim problem document
  pub status_is : answer ≡ status_of document.claim
  pub rows_are : rows ≡ trial_row n document ∷ []

-- the same of `trial n`, whatever the input, which is never refused
abbrev pub TrialOwes : ℕ → Status → List Row → Type 0
TrialOwes n status.Done rows = OwesTrial n status.Done rows
TrialOwes n status.Infeasible rows = OwesTrial n status.Infeasible rows
TrialOwes n status.StillOpen rows = OwesTrial n status.StillOpen rows
TrialOwes n _ rows = ⊥

-- `resume` is owed a document that answers the one behind the instance, which holds, within the budget, and that proves
-- what it claims, with the status of its claim; where no limit of time or of the gap is given, it didn't end early
pub record OwesResumed (effort : Effort) (bytes : List ℕ) (answer : Status) (rows : List Row) : Type 0 where
  pub problem : Problem
  pub names : NameLists
  pub before : Document
  pub text : CheckText bytes problem names before
  pub budget : ℕ
  pub budget_is : resumed_budget problem before effort.nodes ≡ Some budget
  pub held : HoldingDocument problem before
  pub document : Document
  pub answers : StoppedResume problem budget before document
  pub whole : IsUnlimited effort → ResumeAnswer problem budget before document
  pub proves : ProvesItsClaim problem document
  pub status_is : answer ≡ status_of document.claim
  pub rows_are : rows ≡ document_rows problem names document

-- where the one behind the instance doesn't hold, what `check` is owed for it
pub record OwesNoResuming (effort : Effort) (bytes : List ℕ) (rows : List Row) : Type 0 where
  pub denied : OwesNo bytes rows
  pub budget : ℕ
  pub budget_is : resumed_budget denied.problem denied.document effort.nodes ≡ Some budget

-- and where its leaves and so many nodes are too many for the instance, a refusal
pub record OwesTooLargeBeside (effort : Effort) (bytes : List ℕ) (rows : List Row) : Type 0 where
  pub problem : Problem
  pub names : NameLists
  pub document : Document
  pub text : CheckText bytes problem names document
  pub too_large : resumed_budget problem document effort.nodes ≡ None
  pub rows_are : rows ≡ too_large_row ∷ []

-- a text that is no instance with a document behind it is refused first
abbrev pub OwesNoTurn : Effort → List ℕ → List Row → Type 0
OwesNoTurn effort bytes rows = OwesNoCase bytes rows ⊎ OwesTooLargeBeside effort bytes rows

-- what `resume` with this effort has to answer for these bytes, and which rows it has to write
abbrev pub ResumeOwes : Effort → List ℕ → Status → List Row → Type 0
ResumeOwes effort bytes status.Done rows = OwesResumed effort bytes status.Done rows
ResumeOwes effort bytes status.Infeasible rows = OwesResumed effort bytes status.Infeasible rows
ResumeOwes effort bytes status.StillOpen rows = OwesResumed effort bytes status.StillOpen rows
ResumeOwes effort bytes status.SaysNo rows = OwesNoResuming effort bytes rows
ResumeOwes effort bytes status.BadInput rows = OwesNoTurn effort bytes rows
ResumeOwes effort bytes _ rows = ⊥

-- `trace` is owed the trace of a search of the instance, made by as many workers as are asked for within the budget,
-- whose document `solve` may be owed, with the status of what it reports; where no limit of time or of the gap is
-- given, the search is over
pub record OwesTrace (effort : Effort) (bytes : List ℕ) (answer : Status) (rows : List Row) : Type 0 where
  pub problem : Problem
  pub names : NameLists
  pub text : SolveText bytes problem names
  pub budget : ℕ
  pub budget_is : budget_of problem effort.nodes ≡ Some budget
  pub opening : Opening
  pub steps : List FullStep
  pub report : Report
  pub tells : StoppedTrace problem budget effort.workers opening steps report
  pub whole : IsUnlimited effort → TraceAnswer problem budget effort.workers opening steps report
  pub status_is : answer ≡ status_of report.claim
  pub rows_are : rows ≡ trace_text names opening steps

-- what `trace` with this effort has to answer for these bytes, and which rows it has to write; what `solve` refuses, it
-- refuses in the same way
abbrev pub TraceOwes : Effort → List ℕ → Status → List Row → Type 0
TraceOwes effort bytes status.Done rows = OwesTrace effort bytes status.Done rows
TraceOwes effort bytes status.Infeasible rows = OwesTrace effort bytes status.Infeasible rows
TraceOwes effort bytes status.StillOpen rows = OwesTrace effort bytes status.StillOpen rows
TraceOwes effort bytes status.BadInput rows = OwesNoSearch effort bytes rows
TraceOwes effort bytes _ rows = ⊥

-- what a command that searches has to answer for the bytes that it read, and which rows it has to write
abbrev pub SearchOwes : Search → List ℕ → Status → List Row → Type 0
SearchOwes (Solve effort) bytes = SolveOwes effort bytes
SearchOwes (Trial n) bytes = TrialOwes n
SearchOwes (Resume effort) bytes = ResumeOwes effort bytes
SearchOwes (Trace effort) bytes = TraceOwes effort bytes

-- and what another one has to
abbrev pub PlainOwes : Plain → List ℕ → Status → List Row → Type 0
PlainOwes Check bytes = CheckOwes bytes
PlainOwes Network bytes = NetworkOwes bytes
PlainOwes Blocks bytes = BlocksOwes bytes
PlainOwes (Make n) bytes = MakeOwes n
PlainOwes Peak bytes = PeakOwes bytes
PlainOwes PeakCheck bytes = PeakCheckOwes bytes
PlainOwes Replay bytes = ReplayOwes bytes

abbrev pub Owes : Command → List ℕ → Status → List Row → Type 0
Owes (commands.Search search) bytes = SearchOwes search bytes
Owes (commands.Plain plain) bytes = PlainOwes plain bytes
