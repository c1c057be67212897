-- What `peak` answers before it is written.
use Rattle.std.specs.Prelude.{◌≡◌, List}
use Rattle.vs_instance.specs.Problem.{Problem}
use Rattle.vs_peakcheck.specs.Claims.{AreClaimed}
use Rattle.vs_peakcheck.specs.HoldingClaims.{HoldingClaims, ProvePeaks}
use Rattle.vs_peakcheck.specs.PeakRows.{peak_text}
use Rattle.vs_peakcheck.specs.declared.claimed.Claimed.{Claimed}
use Rattle.vs_reader.specs.Names.{NameLists}
use Rattle.vs_reader.specs.Rows.{lines}
use Rattle.vs_reply.specs.declared.answer.Answer.{Answer}
use Rattle.vs_reply.specs.declared.status.Status.TheVariants.{Done}

-- the text is that of claims that hold
pub record HasPeaks (p : Problem) (names : NameLists) (answer : Answer) : Type 0 where
  pub claimed : List Claimed
  pub claims : AreClaimed p claimed
  pub holds : HoldingClaims p claimed
  pub proves : ProvePeaks p claimed
  pub status_is : answer.status ≡ Done
  pub text_is : answer.text.items ≡ lines (peak_text p names claimed)
