-- Whether a leaf is closed or split.
use Rattle.std.specs.Prelude.{◌<◌, List, length, Option, ℤ}
use Rattle.vs_types.specs.declared.layer_set.LayerSet.{LayerSet}
use Rattle.vs_types.specs.declared.numbers.TripNo.{TripNo}
use Rattle.vs_instance.specs.Restriction.{set_of}
use Rattle.vs_plan.specs.CheckedPlan.{Checked, cost_of}
use Rattle.vs_prices.specs.declared.bound.Bound.{Bound}
use Rattle.vs_prices.specs.Bounds.{IsBelow}
use Rattle.vs_tree.specs.declared.calls.Next.{Next}
use Rattle.vs_tree.specs.declared.calls.Next.TheVariants.{Close, Split}
use Rattle.vs_types.specs.Parts.{IsProperPart}
use Rattle.vs_node.specs.SplitRule.{HasChoice}

-- the worth leaves room for a plan that costs less than both, as far as there are a known cost and a plan
abbrev pub IsOpen : Bound → Option ℤ → Option Checked → Type 0
IsOpen worth known plan = IsBelow worth known × IsBelow worth (cost_of plan)

-- the leaf is split lawfully: by a trip that may be run in two layers or more, into a part of these and the others
pub record IsSplit (sets : List LayerSet) (trip : TripNo) (left : LayerSet) : Type 0 where
  pub inside : trip.0 < length sets
  pub choice : HasChoice sets trip.0
  pub part : IsProperPart left (set_of sets trip.0)

-- the leaf is closed where what its table is worth leaves no room for a plan that is wanted, and else split
abbrev pub IsNextBy : List LayerSet → Bound → Option ℤ → Option Checked → Next → Type 0
IsNextBy sets worth known plan Close = ¬ (IsOpen worth known plan)
IsNextBy sets worth known plan (Split trip left) = IsOpen worth known plan × IsSplit sets trip left
