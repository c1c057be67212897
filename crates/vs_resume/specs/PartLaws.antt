-- What holds of the part of a case: of its plans, and of its tables.
use Rattle.std.specs.Prelude.{◌≡◌, ◌↔◌, List}
use Rattle.vs_types.specs.declared.layer_set.LayerSet.{LayerSet}
use Rattle.vs_instance.specs.Problem.{Problem}
use Rattle.vs_instance.specs.Instance.{IsInstance}
use Rattle.vs_instance.specs.Narrowed.{narrowed}
use Rattle.vs_instance.specs.Plan.{IsPlan, LayerBlock, plan_cost}
use Rattle.vs_instance.specs.Restriction.{IsRestriction, IsWithin}
use Rattle.vs_prices.specs.declared.bound.Bound.{Bound}
use Rattle.vs_prices.specs.declared.table.Table.{Table}
use Rattle.vs_prices.specs.Table.{Fits, HoldingTable}
use Rattle.vs_prices.specs.Worth.{IsWorth}
use Rattle.vs_resume.specs.Widened.{IsWidened}

-- the plans of a part are those of the instance within the case, at the same cost
pub record ArePlansOfPart (p : Problem) (sets : List LayerSet) (blocks : List LayerBlock) : Type 0 where
  pub plans : IsPlan (narrowed p sets) blocks ↔ (IsPlan p blocks × IsWithin sets blocks)
  pub cost : IsPlan (narrowed p sets) blocks → plan_cost (narrowed p sets) blocks ≡ plan_cost p blocks

abbrev pub PlansOfParts : Type 0
PlansOfParts = (p : Problem) (sets : List LayerSet) (blocks : List LayerBlock) → IsInstance p → IsRestriction p sets
    → ArePlansOfPart p sets blocks

-- a table that holds in the part holds, widened, in the instance
abbrev pub WidenedTablesHold : Type 0
WidenedTablesHold = (p : Problem) (sets : List LayerSet) (old new : Table) → IsInstance p → IsRestriction p sets
    → IsWidened p sets old new → Fits p new → HoldingTable (narrowed p sets) old → HoldingTable p new

-- and is worth the same within every restriction of the part
abbrev pub WidenedTablesAreWorthTheSame : Type 0
WidenedTablesAreWorthTheSame = (p : Problem) (sets inner : List LayerSet) (old new : Table) (worth : Bound)
    → IsInstance p → IsRestriction p sets → IsRestriction (narrowed p sets) inner → IsWidened p sets old new
    → IsWorth (narrowed p sets) inner old worth → IsWorth p inner new worth
