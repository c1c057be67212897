-- What holds of every text of peaks that is written.
use Rattle.std.specs.Prelude.{ℕ, List, ◌++◌, take}
use Rattle.vs_instance.specs.Problem.{Problem}
use Rattle.vs_reader.specs.Names.{HaveCounts, NameLists}
use Rattle.vs_reader.specs.NameRules.{AreNames}
use Rattle.vs_reader.specs.Rows.{Row, lines}
use Rattle.vs_reader.specs.Texts.{EndsInLine, HasRows, StandsFor}
use Rattle.vs_peakcheck.specs.Claims.{AreClaimed, PeakText}
use Rattle.vs_peakcheck.specs.PeakRows.{peak_text}
use Rattle.vs_peakcheck.specs.declared.claimed.Claimed.{Claimed}

-- the rows of claims stand for them
abbrev pub WrittenRowsStandForTheirClaims : Type 0
WrittenRowsStandForTheirClaims = (p : Problem) (names : NameLists) (claimed : List Claimed) → HaveCounts p names
    → AreClaimed p claimed → PeakText p names (peak_text p names claimed) claimed

-- the bytes stand for the instance with its names, and behind so many records for the claims
pub record ReadsAs (bytes : List ℕ) (p : Problem) (names : NameLists) (before : ℕ)
    (claimed : List Claimed) : Type 0 where
  pub rest : List Row
  pub instance : StandsFor bytes p names before rest
  pub claims : PeakText p names rest claimed

-- behind the records of an instance, the last of which is ended by a line end, the lines of the rows of claims are read
-- as these claims
abbrev pub WrittenPeaksAreReadBack : Type 0
WrittenPeaksAreReadBack =
    (bytes read : List ℕ) (p : Problem) (names : NameLists) (before : ℕ) (rest : List Row) (claimed : List Claimed)
    (text : StandsFor bytes p names before rest) → HasRows read (take before text.rows) → EndsInLine read
    → AreNames names.layers → AreNames names.trips → AreClaimed p claimed
    → ReadsAs (read ++ lines (peak_text p names claimed)) p names before claimed
