-- What the work on a leaf has done for its table.
use Rattle.std.specs.Prelude.{Bool, true, false, List, ℤ}
use Rattle.vs_types.specs.declared.layer_set.LayerSet.{LayerSet}
use Rattle.vs_instance.specs.Problem.{Problem}
use Rattle.vs_instance.specs.Lagrangian.{IsStartingValue}
use Rattle.vs_prices.specs.declared.bound.Bound.{Bound}
use Rattle.vs_prices.specs.declared.table.Table.{Table}
use Rattle.vs_prices.specs.Bounds.{ReachesLagrangian, ReachesValue}
use Rattle.vs_prices.specs.Worth.{IsWorth}
use Rattle.vs_multi.specs.Multipliers.{AreOfTable, AreStarts}

-- the multipliers from which a leaf is worked on: the starting ones at the root, else those that its table stands for
abbrev pub AreBegunWith : Problem → Bool → List LayerSet → Table → List ℤ → Type 0
AreBegunWith p true sets table multipliers = AreStarts p multipliers
AreBegunWith p false sets table multipliers = AreOfTable p sets table multipliers

-- within the leaf's sets the new table is worth no less than the Lagrangian value at these
abbrev pub IsWorked : Problem → Bool → List LayerSet → Table → Table → Type 0
IsWorked p root sets old new =
    (multipliers : List ℤ) → AreBegunWith p root sets old multipliers → ReachesLagrangian p sets multipliers new

-- within these sets the table is worth no less than the Lagrangian value at the starting multipliers
abbrev pub IsBegun : Problem → List LayerSet → Table → Type 0
IsBegun p sets table = (multipliers : List ℤ) → AreStarts p multipliers → ReachesLagrangian p sets multipliers table

-- within these sets the table is worth no less than the value at the starting multipliers, where each trip may be run
-- in every layer that permits it
abbrev pub ReachesStart : Problem → List LayerSet → Table → Type 0
ReachesStart p sets table =
    (worth : Bound) (value : ℤ) → IsWorth p sets table worth → IsStartingValue p value → ReachesValue worth value
