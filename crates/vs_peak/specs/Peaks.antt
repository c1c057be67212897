-- What is found of how few vehicles a layer needs.
use Rattle.std.specs.Prelude.{◌≡◌, true, false, length, pos, MatchOption}
use Rattle.vs_types.specs.declared.numbers.LayerNo.{LayerNo}
use Rattle.vs_instance.specs.Problem.{Problem}
use Rattle.vs_instance.specs.Restriction.{permitted_sets}
use Rattle.vs_plan.specs.CheckedPlan.{Checked, IsChecked}
use Rattle.vs_prices.specs.declared.bound.Bound.TheVariants.{AtLeast, NoPlan}
use Rattle.vs_prices.specs.declared.table.Table.{Table}
use Rattle.vs_prices.specs.Table.{AreZeros, Fits, HoldingTable}
use Rattle.vs_prices.specs.Worth.{IsWorth}
use Rattle.vs_peakcheck.specs.Counting.{counting}
use Rattle.vs_peakcheck.specs.Peak.{HasNoPeak, IsPeak}
use Rattle.vs_peakcheck.specs.declared.claimed.Claimed.{Claimed}
use Rattle.vs_peakcheck.specs.Claims.{IsClaimed, IsShort}
use Rattle.vs_peakcheck.specs.HoldingClaims.{HoldingClaim}
use Rattle.vs_peak.specs.declared.layer_peak.LayerPeak.{LayerPeak}
use Rattle.vs_peak.specs.declared.layer_peak.LayerPeak.TheVariants.{Least, NoList}

-- a plan of the problem that counts the layer's vehicles, which has as many blocks as the layer's peak, and a cost
-- table that holds and is worth as much
pub record IsLeast (p : Problem) (l : LayerNo) (plan : Checked) (table : Table) : Type 0 where
  pub problem : plan.problem ≡ counting p l.0
  pub checked : IsChecked plan
  pub count : plan.cost ≡ pos (length plan.blocks)
  pub peak : IsPeak p l (length plan.blocks)
  pub costs : table.ray ≡ false
  pub fits : Fits (counting p l.0) table
  pub holds : HoldingTable (counting p l.0) table
  pub worth : IsWorth (counting p l.0) (permitted_sets (counting p l.0)) table (AtLeast plan.cost)

-- no blocks of the layer run all that it may run, as a ray that holds shows
pub record ShowsNone (p : Problem) (l : LayerNo) (table : Table) : Type 0 where
  pub none : HasNoPeak p l
  pub ray : table.ray ≡ true
  pub fits : Fits (counting p l.0) table
  pub holds : HoldingTable (counting p l.0) table
  pub worth : IsWorth (counting p l.0) (permitted_sets (counting p l.0)) table NoPlan

abbrev pub IsPeakOf : Problem → LayerNo → LayerPeak → Type 0
IsPeakOf p l (Least plan table) = IsLeast p l plan table
IsPeakOf p l (NoList table) = ShowsNone p l table

-- a cost table that holds: the other one, or where that is a ray, zeros
pub record IsShown (q : Problem) (other table : Table) : Type 0 where
  pub fits : Fits q table
  pub holds : HoldingTable q table
  pub costs : table.ray ≡ false
  pub same : other.ray ≡ false → table ≡ other
  pub zeros : other.ray ≡ true → AreZeros table

-- what is claimed of layer l holds, and its count is the layer's peak
pub record ProvesPeak (p : Problem) (l : LayerNo) (c : Claimed) : Type 0 where
  pub claimed : IsClaimed (counting p l.0) c
  pub short : IsShort c
  pub holding : HoldingClaim (counting p l.0) c
  pub proves : MatchOption c.count (HasNoPeak p l) (IsPeak p l)
