-- What holds of every residual net.
use Rattle.std.specs.Prelude.{List, ℤ}
use Rattle.vs_path.specs.Residual.{ResidualNet, HasSignRule}
use Rattle.vs_path.specs.PathTree.{HasNoNegativeCycle}

abbrev pub SignRuleLeavesNoNegativeCycle : Type 0
SignRuleLeavesNoNegativeCycle = (r : ResidualNet) (prices : List ℤ) → HasSignRule r prices → HasNoNegativeCycle r
