-- What the bytes of an input stand for: an instance, and what stands behind it.
use Rattle.std.specs.Prelude.{ℕ, List}
use Rattle.vs_instance.specs.Problem.{Problem}
use Rattle.vs_reader.specs.declared.limits.TheConstants.{MAX_BYTES}
use Rattle.vs_reader.specs.Names.{NameLists}
use Rattle.vs_reader.specs.Rows.{Row}
use Rattle.vs_reader.specs.Texts.{StandsFor}
use Rattle.vs_document.specs.DocumentRefusals.{AreRefused}
use Rattle.vs_rows.specs.DocumentText.{DocumentText}
use Rattle.vs_rows.specs.declared.document.Document.{Document}
use Rattle.vs_document.specs.declared.refused.DocWhy.{DocWhy}
use Rattle.vs_peakcheck.specs.Claims.{PeakText}
use Rattle.vs_peakcheck.specs.PeakRefusals.{AreRefused as ClaimNothing}
use Rattle.vs_peakcheck.specs.declared.claimed.Claimed.{Claimed}
use Rattle.vs_peakcheck.specs.declared.refused.PeakWhy.{PeakWhy}

-- how many bytes an input may have
abbrev pub input_limit : ℕ
input_limit = MAX_BYTES

-- the bytes stand for an instance, whatever follows its records
pub record SolveText (bytes : List ℕ) (p : Problem) (names : NameLists) : Type 0 where
  pub before : ℕ
  pub rest : List Row
  pub instance : StandsFor bytes p names before rest

-- they do, and from the first `result` record on for a document
pub record CheckText (bytes : List ℕ) (p : Problem) (names : NameLists) (d : Document) : Type 0 where
  pub before : ℕ
  pub rest : List Row
  pub instance : StandsFor bytes p names before rest
  pub document : DocumentText p names rest d

-- they stand for an instance, and what follows it is no document, first of all at this record and for this reason
pub record LacksDocument (bytes : List ℕ) (at : ℕ) (why : DocWhy) : Type 0 where
  pub problem : Problem
  pub names : NameLists
  pub before : ℕ
  pub rest : List Row
  pub instance : StandsFor bytes problem names before rest
  pub refused : AreRefused problem names before rest at why

-- they stand for an instance, and from the first `result` record on for what is claimed of the peaks of its layers
pub record PeakCheckText (bytes : List ℕ) (p : Problem) (names : NameLists) (claimed : List Claimed) : Type 0 where
  pub before : ℕ
  pub rest : List Row
  pub instance : StandsFor bytes p names before rest
  pub claims : PeakText p names rest claimed

-- they stand for an instance, and what follows it claims nothing, first of all at this record and for this reason
pub record LacksClaims (bytes : List ℕ) (at : ℕ) (why : PeakWhy) : Type 0 where
  pub problem : Problem
  pub names : NameLists
  pub before : ℕ
  pub rest : List Row
  pub instance : StandsFor bytes problem names before rest
  pub refused : ClaimNothing problem names before rest at why
