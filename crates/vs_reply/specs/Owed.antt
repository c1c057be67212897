-- What a call that doesn't search has to answer, and what it has to write.
use Rattle.std.specs.Prelude.{◌≡◌, ℕ, List, [], ◌∷◌, map, codes, Some, IsSome, IfSome, ◌⊎◌}
use Rattle.vs_instance.specs.Problem.{Problem}
use Rattle.vs_rows.specs.declared.document.Document.{Document}
use Rattle.vs_plan.specs.Blocks.{blocks_of}
use Rattle.vs_check.specs.HoldingDocument.{HoldingDocument, ProvesItsClaim}
use Rattle.vs_check.specs.Flaws.{flaws_of}
use Rattle.vs_check.specs.declared.flaw.Flaw.{Flaw}
use Rattle.vs_instance.specs.Firsts.{first}
use Rattle.vs_reply.specs.declared.status.Status.{Status}
use Rattle.vs_reply.specs.declared.status.Status.TheVariants as status
use Rattle.vs_reader.specs.Rows.{Row}
use Rattle.vs_reader.specs.Names.{NameLists}
use Rattle.vs_rows.specs.DocumentRows.{claim_field, number_field}
use Rattle.vs_document.specs.declared.refused.DocWhy.{DocWhy}
use Rattle.vs_reader.specs.Texts.{IsRefused}
use Rattle.vs_reader.specs.declared.refused.Refused.{Refused}
use Rattle.vs_peakcheck.specs.Counting.{numbered, permitted_trips}
use Rattle.vs_peakcheck.specs.Flaws.{flaws_of as peak_flaws_of}
use Rattle.vs_peakcheck.specs.HoldingClaims.{HoldingClaims, ProvePeaks}
use Rattle.vs_peakcheck.specs.declared.claimed.Claimed.{Claimed}
use Rattle.vs_peakcheck.specs.declared.flaw.PeakFlaw.{PeakFlaw}
use Rattle.vs_peakcheck.specs.declared.refused.PeakWhy.{PeakWhy}
use Rattle.vs_types.specs.declared.numbers.LayerNo.{LayerNo}
use Rattle.vs_reply.specs.Cases.{CheckText, LacksClaims, LacksDocument, PeakCheckText, SolveText}
use Rattle.vs_reply.specs.RefusalRows.{document_refusal_row, peak_refusal_row, refusal_row}
use Rattle.vs_reply.specs.PeakFlawRows.{no_peak_row}
use Rattle.vs_reply.specs.FlawRows.{no_row}
use Rattle.vs_make.specs.Generator.{make_rows}
use Rattle.vs_reply.specs.Network.{AreNetworkRows}
use Rattle.vs_reply.specs.Timetable.{timetable_of}
use Rattle.vs_instance.specs.Plan.{IsPlan}
use Rattle.vs_plan.specs.PlanFaults.{faults_of}
use Rattle.vs_plan.specs.declared.plan_fault.PlanFault.{PlanFault}
use Rattle.vs_check.specs.declared.flaw.Flaw.TheVariants.{Plan}

-- `yes`, CLAIM, COST, BOUND
abbrev pub yes_row : Document → Row
yes_row d = codes "yes" ∷ claim_field d.claim ∷ number_field d.cost ∷ number_field d.bound ∷ []

-- `yes` alone, and the row of a flaw of what is claimed of layer l
abbrev pub peaks_yes_row : Row
peaks_yes_row = codes "yes" ∷ []

abbrev pub peaks_no_row : Problem → NameLists → LayerNo → PeakFlaw → Row
peaks_no_row p names l flaw = no_peak_row names l (map numbered (permitted_trips p l.0)) flaw

-- `check` is owed `yes` where the document holds; it then proves what it claims, whoever wrote it
pub record OwesYes (bytes : List ℕ) (rows : List Row) : Type 0 where
  pub problem : Problem
  pub names : NameLists
  pub document : Document
  pub text : CheckText bytes problem names document
  pub holds : HoldingDocument problem document
  pub proves : ProvesItsClaim problem document
  pub rows_are : rows ≡ yes_row document ∷ []

-- and `no` where it doesn't, with the first of its flaws
pub record OwesNo (bytes : List ℕ) (rows : List Row) : Type 0 where
  pub problem : Problem
  pub names : NameLists
  pub document : Document
  pub text : CheckText bytes problem names document
  pub fails : ¬ (HoldingDocument problem document)
  pub flaw : Flaw
  pub is_first : first (flaws_of problem document) ≡ Some flaw
  pub rows_are : rows ≡ no_row names flaw ∷ []

-- a text that is no instance text is owed its refusal
pub record OwesRefusal (bytes : List ℕ) (rows : List Row) : Type 0 where
  pub refused : Refused
  pub is_refused : IsRefused bytes refused
  pub rows_are : rows ≡ refusal_row refused ∷ []

-- and an instance text behind which no document stands, that of what follows its records
pub record OwesDocumentRefusal (bytes : List ℕ) (rows : List Row) : Type 0 where
  pub at : ℕ
  pub why : DocWhy
  pub lacks : LacksDocument bytes at why
  pub rows_are : rows ≡ document_refusal_row at why ∷ []

-- a text that is no instance with a document behind it is refused for its instance first
abbrev pub OwesNoCase : List ℕ → List Row → Type 0
OwesNoCase bytes rows = OwesRefusal bytes rows ⊎ OwesDocumentRefusal bytes rows

-- `network` is owed the sizes of the nets of each layer
pub record OwesNetwork (bytes : List ℕ) (rows : List Row) : Type 0 where
  pub problem : Problem
  pub names : NameLists
  pub text : SolveText bytes problem names
  pub rows_are : AreNetworkRows problem names rows

-- `blocks` is owed the timetable of the document's blocks, which are a plan where a cost is printed
pub record OwesTimetable (bytes : List ℕ) (rows : List Row) : Type 0 where
  pub problem : Problem
  pub names : NameLists
  pub document : Document
  pub text : CheckText bytes problem names document
  pub plan : IfSome document.cost (λ _. IsPlan problem (blocks_of document.plan))
  pub rows_are : rows ≡ timetable_of problem names document

-- and else the first fault of the blocks
pub record OwesNoTimetable (bytes : List ℕ) (rows : List Row) : Type 0 where
  pub problem : Problem
  pub names : NameLists
  pub document : Document
  pub text : CheckText bytes problem names document
  pub printed : IsSome document.cost
  pub no_plan : ¬ (IsPlan problem (blocks_of document.plan))
  pub fault : PlanFault
  pub is_first : first (faults_of problem (blocks_of document.plan)) ≡ Some fault
  pub rows_are : rows ≡ no_row names (Plan fault) ∷ []

-- `peakcheck` is owed `yes` where all that is claimed holds; each count then is its layer's peak, and where there is
-- none no blocks run all that the layer may run, whoever wrote the text
pub record OwesPeaksYes (bytes : List ℕ) (rows : List Row) : Type 0 where
  pub problem : Problem
  pub names : NameLists
  pub claimed : List Claimed
  pub text : PeakCheckText bytes problem names claimed
  pub holds : HoldingClaims problem claimed
  pub proves : ProvePeaks problem claimed
  pub rows_are : rows ≡ peaks_yes_row ∷ []

-- and `no` where it doesn't, with the first flaw of the first layer that has one
pub record OwesPeaksNo (bytes : List ℕ) (rows : List Row) : Type 0 where
  pub problem : Problem
  pub names : NameLists
  pub claimed : List Claimed
  pub text : PeakCheckText bytes problem names claimed
  pub fails : ¬ (HoldingClaims problem claimed)
  pub layer : LayerNo
  pub flaw : PeakFlaw
  pub is_first : first (peak_flaws_of problem claimed) ≡ Some (layer, flaw)
  pub rows_are : rows ≡ peaks_no_row problem names layer flaw ∷ []

-- an instance text behind which nothing is claimed is owed the refusal of what follows its records
pub record OwesClaimsRefusal (bytes : List ℕ) (rows : List Row) : Type 0 where
  pub at : ℕ
  pub why : PeakWhy
  pub lacks : LacksClaims bytes at why
  pub rows_are : rows ≡ peak_refusal_row at why ∷ []

-- a text that is no instance with claims behind it is refused for its instance first
abbrev pub OwesNoClaims : List ℕ → List Row → Type 0
OwesNoClaims bytes rows = OwesRefusal bytes rows ⊎ OwesClaimsRefusal bytes rows

-- what `check` has to answer for these bytes, and which rows it has to write
abbrev pub CheckOwes : List ℕ → Status → List Row → Type 0
CheckOwes bytes status.Done rows = OwesYes bytes rows
CheckOwes bytes status.SaysNo rows = OwesNo bytes rows
CheckOwes bytes status.BadInput rows = OwesNoCase bytes rows
CheckOwes bytes _ rows = ⊥

-- of `network`
abbrev pub NetworkOwes : List ℕ → Status → List Row → Type 0
NetworkOwes bytes status.Done rows = OwesNetwork bytes rows
NetworkOwes bytes status.BadInput rows = OwesRefusal bytes rows
NetworkOwes bytes _ rows = ⊥

-- of `blocks`
abbrev pub BlocksOwes : List ℕ → Status → List Row → Type 0
BlocksOwes bytes status.Done rows = OwesTimetable bytes rows
BlocksOwes bytes status.SaysNo rows = OwesNoTimetable bytes rows
BlocksOwes bytes status.BadInput rows = OwesNoCase bytes rows
BlocksOwes bytes _ rows = ⊥

-- of `peakcheck`
abbrev pub PeakCheckOwes : List ℕ → Status → List Row → Type 0
PeakCheckOwes bytes status.Done rows = OwesPeaksYes bytes rows
PeakCheckOwes bytes status.SaysNo rows = OwesPeaksNo bytes rows
PeakCheckOwes bytes status.BadInput rows = OwesNoClaims bytes rows
PeakCheckOwes bytes _ rows = ⊥

-- and of `make n`, whatever the input
abbrev pub MakeOwes : ℕ → Status → List Row → Type 0
MakeOwes n status.Done rows = rows ≡ make_rows n
MakeOwes n _ rows = ⊥
