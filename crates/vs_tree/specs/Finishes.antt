-- How a leaf is finished, with what its new table is worth.
use Rattle.std.specs.Prelude.{◌≡◌, ◌<◌, List, length}
use Rattle.vs_types.specs.Parts.{IsProperPart}
use Rattle.vs_types.specs.declared.layer_set.LayerSet.{LayerSet}
use Rattle.vs_instance.specs.Problem.{Problem}
use Rattle.vs_instance.specs.Restriction.{set_of}
use Rattle.vs_prices.specs.Tree.{right_of, with_set}
use Rattle.vs_tree.specs.declared.calls.Next.{Next}
use Rattle.vs_tree.specs.declared.calls.Next.TheVariants.{Close, Split}
use Rattle.vs_tree.specs.declared.finishing.Finish.{Finish}
use Rattle.vs_tree.specs.declared.finishing.Finish.TheVariants.{Close as Closing, Split as Splitting}
use Rattle.vs_tree.specs.declared.finishing.Parting.{Parting}
use Rattle.vs_tree.specs.Prices.{AreWorth, Prices}

-- a split is by a trip of the instance, whose layers there it shares out
abbrev pub IsNextIn : Problem → List LayerSet → Next → Type 0
IsNextIn p sets Close = Unit {0}
IsNextIn p sets (Split trip left) = (trip.0 < length p.trips) × IsProperPart left (set_of sets trip.0)

-- what becomes of the leaf
abbrev pub next_in : Finish → Next
next_in (Closing worth) = Close
next_in (Splitting parting) = Split parting.trip parting.left

-- the layers that are left in memory once a leaf with these was finished: those of the upper part, where it was split
abbrev pub sets_after : List LayerSet → Finish → List LayerSet
sets_after sets (Closing worth) = sets
sets_after sets (Splitting parting) = with_set sets parting.trip parting.right

-- the parts of a leaf with these layers, and what the prices are worth in them
pub record IsParting (p : Problem) (sets : List LayerSet) (prices : Prices) (parting : Parting) : Type 0 where
  pub right : parting.right ≡ right_of sets parting.trip parting.left
  pub lower : AreWorth p (with_set sets parting.trip parting.left) prices parting.lower
  pub upper : AreWorth p (with_set sets parting.trip (right_of sets parting.trip parting.left)) prices parting.upper

-- what the prices are worth in a leaf with these layers, or in its parts
abbrev pub AreWorths : Problem → List LayerSet → Prices → Finish → Type 0
AreWorths p sets prices (Closing worth) = AreWorth p sets prices worth
AreWorths p sets prices (Splitting parting) = IsParting p sets prices parting
