-- What holds of all claims of peaks.
use Rattle.std.specs.Prelude.{◌≡◌, ◌↔◌, ℕ, List}
use Rattle.vs_instance.specs.Problem.{Problem}
use Rattle.vs_instance.specs.Instance.{IsInstance}
use Rattle.vs_reader.specs.Names.{NameLists}
use Rattle.vs_reader.specs.NameRules.{AreNames}
use Rattle.vs_reader.specs.Rows.{Row}
use Rattle.vs_peakcheck.specs.Alike.{AreAlike}
use Rattle.vs_peakcheck.specs.Claims.{AreClaimed, PeakText}
use Rattle.vs_peakcheck.specs.Flaws.{flaws_of}
use Rattle.vs_peakcheck.specs.HoldingClaims.{HoldingClaims, ProvePeaks}
use Rattle.vs_peakcheck.specs.PeakRefusals.{AreRefused}
use Rattle.vs_peakcheck.specs.declared.claimed.Claimed.{Claimed}
use Rattle.vs_peakcheck.specs.declared.refused.PeakWhy.{PeakWhy}

-- claims that the same rows stand for say the same
abbrev pub ClaimsOfRowsAreAlike : Type 0
ClaimsOfRowsAreAlike = (p : Problem) (names : NameLists) (rows : List Row) (claimed others : List Claimed)
    → AreNames names.layers → AreNames names.trips → PeakText p names rows claimed → PeakText p names rows others
    → AreAlike claimed others

-- two lists of claims have the same flaws, and hold both or neither
pub record AreJudgedAlike (p : Problem) (claimed others : List Claimed) : Type 0 where
  pub flaws : flaws_of p claimed ≡ flaws_of p others
  pub holds : HoldingClaims p claimed ↔ HoldingClaims p others

-- claims that say the same are judged alike
abbrev pub AlikeClaimsAreJudgedAlike : Type 0
AlikeClaimsAreJudgedAlike = (p : Problem) (claimed others : List Claimed) → AreClaimed p claimed → AreClaimed p others
    → AreAlike claimed others → AreJudgedAlike p claimed others

-- and so are those that the same rows stand for
abbrev pub ClaimsOfRowsAreJudgedAlike : Type 0
ClaimsOfRowsAreJudgedAlike = (p : Problem) (names : NameLists) (rows : List Row) (claimed others : List Claimed)
    → AreNames names.layers → AreNames names.trips → PeakText p names rows claimed → PeakText p names rows others
    → AreJudgedAlike p claimed others

-- claims that hold prove the peaks
abbrev pub HoldingClaimsProvePeaks : Type 0
HoldingClaimsProvePeaks = (p : Problem) (claimed : List Claimed) → IsInstance p → AreClaimed p claimed
    → HoldingClaims p claimed → ProvePeaks p claimed

-- rows that stand for claims aren't refused
abbrev pub ClaimsAreNotRefused : Type 0
ClaimsAreNotRefused = (p : Problem) (names : NameLists) (before : ℕ) (rows : List Row) (claimed : List Claimed)
    (at : ℕ) (why : PeakWhy) → AreNames names.layers → AreNames names.trips → PeakText p names rows claimed
    → AreRefused p names before rows at why → ⊥

-- rows are refused at one row, and for one reason
abbrev pub RowsAreRefusedOnce : Type 0
RowsAreRefusedOnce = (p : Problem) (names : NameLists) (before : ℕ) (rows : List Row) (at to : ℕ) (why other : PeakWhy)
    → AreNames names.layers → AreNames names.trips → AreRefused p names before rows at why
    → AreRefused p names before rows to other → (at ≡ to) × (why ≡ other)
