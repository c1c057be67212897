-- What `peak` has to answer, and what it has to write.
use Rattle.std.specs.Prelude.{◌≡◌, ℕ, List}
use Rattle.vs_instance.specs.Problem.{Problem}
use Rattle.vs_peakcheck.specs.Claims.{PeakText}
use Rattle.vs_peakcheck.specs.HoldingClaims.{HoldingClaims, ProvePeaks}
use Rattle.vs_peakcheck.specs.PeakRows.{peak_text}
use Rattle.vs_peakcheck.specs.declared.claimed.Claimed.{Claimed}
use Rattle.vs_reader.specs.Names.{NameLists}
use Rattle.vs_reader.specs.Rows.{Row}
use Rattle.vs_reply.specs.Cases.{SolveText}
use Rattle.vs_reply.specs.Owed.{OwesRefusal}
use Rattle.vs_reply.specs.declared.status.Status.{Status}
use Rattle.vs_reply.specs.declared.status.Status.TheVariants as status

-- the text of claims that hold, for which its rows stand: each count is its layer's peak, and where there is none no
-- blocks run all that the layer may run
pub record OwesPeaks (bytes : List ℕ) (rows : List Row) : Type 0 where
  pub problem : Problem
  pub names : NameLists
  pub claimed : List Claimed
  pub text : SolveText bytes problem names
  pub stand : PeakText problem names rows claimed
  pub holds : HoldingClaims problem claimed
  pub proves : ProvePeaks problem claimed
  pub rows_are : rows ≡ peak_text problem names claimed

-- what `peak` has to answer for these bytes, and which rows it has to write
abbrev pub PeakOwes : List ℕ → Status → List Row → Type 0
PeakOwes bytes status.Done rows = OwesPeaks bytes rows
PeakOwes bytes status.BadInput rows = OwesRefusal bytes rows
PeakOwes bytes _ rows = ⊥
