-- What is answered before it is written.
use Rattle.std.specs.Prelude.{◌≡◌, ℕ, List, [], ◌∷◌, Result, Ok, Err, Some, ◌⊎◌}
use Rattle.vs_types.specs.declared.memory.Memory.{Memory}
use Rattle.vs_instance.specs.Problem.{Problem}
use Rattle.vs_reader.specs.Names.{NameLists}
use Rattle.vs_reader.specs.Rows.{Row, lines}
use Rattle.vs_reader.specs.Texts.{IsRefused}
use Rattle.vs_reader.specs.declared.refused.Refused.{Refused}
use Rattle.vs_reply.specs.Network.{AreNetworkRows}
use Rattle.vs_reply.specs.RefusalRows.{refusal_row}
use Rattle.vs_instance.specs.Firsts.{first}
use Rattle.vs_peakcheck.specs.Flaws.{flaws_of}
use Rattle.vs_peakcheck.specs.HoldingClaims.{HoldingClaims, ProvePeaks}
use Rattle.vs_peakcheck.specs.declared.claimed.Claimed.{Claimed}
use Rattle.vs_peakcheck.specs.declared.flaw.PeakFlaw.{PeakFlaw}
use Rattle.vs_types.specs.declared.numbers.LayerNo.{LayerNo}
use Rattle.vs_reply.specs.Owed.{OwesNoCase, peaks_no_row, peaks_yes_row}
use Rattle.vs_reply.specs.declared.answer.Answer.{Answer}
use Rattle.vs_reply.specs.declared.case.CaseError.{CaseError}
use Rattle.vs_reply.specs.declared.case.CaseError.TheVariants as error
use Rattle.vs_reply.specs.declared.status.Status.{Status}
use Rattle.vs_reply.specs.declared.status.Status.TheVariants.{Done, BadInput, SaysNo}

-- the text is the lines of rows that are owed with this status
pub record IsTextOf (owes : Status → List Row → Type 0) (answer : Answer) : Type 0 where
  pub rows : List Row
  pub owed : owes answer.status rows
  pub text_is : answer.text.items ≡ lines rows

-- the text is this row alone, with this status
abbrev pub TellsRow : Status → Row → Answer → Type 0
TellsRow wanted row answer = (answer.status ≡ wanted) × (answer.text.items ≡ lines (row ∷ []))

-- the row that refuses a text which is no instance
pub record RefusesText (bytes : List ℕ) (answer : Answer) : Type 0 where
  pub refused : Refused
  pub is_refused : IsRefused bytes refused
  pub status_is : answer.status ≡ BadInput
  pub text_is : answer.text.items ≡ lines (refusal_row refused ∷ [])

-- the rows that refuse a text which is no instance with a document behind it
pub record IsNoCase (bytes : List ℕ) (answer : Answer) : Type 0 where
  pub rows : List Row
  pub owed : OwesNoCase bytes rows
  pub status_is : answer.status ≡ BadInput
  pub text_is : answer.text.items ≡ lines rows

-- an error that isn't want of memory has them
abbrev pub RefusesCase : List ℕ → CaseError → Type 0
RefusesCase bytes (error.Refused answer) = IsNoCase bytes answer
RefusesCase bytes error.Memory = Unit {0}

-- an answer as an error, and want of memory for one
abbrev pub case_error : Result Answer Memory → CaseError
case_error (Ok answer) = error.Refused answer
case_error (Err memory) = error.Memory

-- the text has the sizes of the nets of each layer
pub record HasSizes (problem : Problem) (names : NameLists) (answer : Answer) : Type 0 where
  pub rows : List Row
  pub rows_are : AreNetworkRows problem names rows
  pub status_is : answer.status ≡ Done
  pub text_is : answer.text.items ≡ lines rows

-- `yes`: what is claimed holds, and proves the peaks
pub record SaysYes (p : Problem) (claimed : List Claimed) (answer : Answer) : Type 0 where
  pub holds : HoldingClaims p claimed
  pub proves : ProvePeaks p claimed
  pub tells : TellsRow Done peaks_yes_row answer

-- `no`: it doesn't, first of all for the flaw that is told
pub record TellsFlaw (p : Problem) (names : NameLists) (claimed : List Claimed) (answer : Answer) : Type 0 where
  pub fails : ¬ (HoldingClaims p claimed)
  pub layer : LayerNo
  pub flaw : PeakFlaw
  pub is_first : first (flaws_of p claimed) ≡ Some (layer, flaw)
  pub tells : TellsRow SaysNo (peaks_no_row p names layer flaw) answer

-- one of them
abbrev pub HasVerdict : Problem → NameLists → List Claimed → Answer → Type 0
HasVerdict p names claimed answer = SaysYes p claimed answer ⊎ TellsFlaw p names claimed answer
