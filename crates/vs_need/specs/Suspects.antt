-- Which break of a layer is the first, by what the moves are worth.
use Rattle.std.specs.Prelude.{◌≡◌, ℕ, ◌<◌, ◌≤◌, Bool, false, List, length, All, flat_map, Option, Some, None, ℤ, int_lt}
use Rattle.std.specs.List.{range_with_len}
use Rattle.vs_instance.specs.declared.limits.TheConstants.{MAX_TRIPS}
use Rattle.vs_instance.specs.Firsts.{first}
use Rattle.vs_instance.specs.Problem.{Problem}
use Rattle.vs_instance.specs.Pieces.{in_piece, link_piece, out_piece}
use Rattle.vs_match.specs.Events.{MayRun}
use Rattle.vs_prices.specs.declared.broken_at.BrokenAt.{BrokenAt}
use Rattle.vs_prices.specs.declared.broken_at.BrokenAt.TheVariants as broken
use Rattle.vs_prices.specs.declared.table.Table.{Table}
use Rattle.vs_prices.specs.Breaks.{links_breaks, trip_breaks}
use Rattle.vs_prices.specs.Table.{Fits, IsPrice, prices_in}
use Rattle.vs_need.specs.declared.judging.Suspect.{Suspect}
use Rattle.vs_need.specs.declared.judging.Suspect.TheVariants as suspect
use Rattle.vs_need.specs.declared.scratch.Scratch.{Scratch}
use Rattle.vs_need.specs.Needs.{AreNeeds, AreWorths}

-- what was found is more than a limit
abbrev pub is_above : Option ℤ → ℤ → Bool
is_above None limit = false
is_above (Some x) limit = int_lt limit x

-- what the moves of each trip are worth is known
pub record AreKnown (p : Problem) (table : Table) (l : ℕ) (s : Scratch) : Type 0 where
  pub outs : AreWorths p l table.ray (out_piece p l) s.outs.items
  pub nexts : AreNeeds p table l s.nexts.items
  pub ins : AreWorths p l table.ray (in_piece p l) s.ins.items

-- the prices of a layer, cut out of a table that fits
pub record AreCut (p : Problem) (table : Table) (l : ℕ) (into from : List ℤ) : Type 0 where
  pub fits : Fits p table
  pub layer : l < length p.layers
  pub few_trips : length p.trips ≤ MAX_TRIPS
  pub into_is : into ≡ prices_in p l table.into.items
  pub from_is : from ≡ prices_in p l table.from.items
  pub into_prices : All IsPrice into
  pub from_prices : All IsPrice from
  pub each_into : length into ≡ length p.trips
  pub each_from : length from ≡ length p.trips

pub record CanSuspect (p : Problem) (table : Table) (l : ℕ) (into from : List ℤ) (s : Scratch) : Type 0 where
  pub prices : AreCut p table l into from
  pub known : AreKnown p table l s
  pub outs : length s.outs.items ≡ length p.trips
  pub nexts : length s.nexts.items ≡ length p.trips
  pub ins : length s.ins.items ≡ length p.trips

-- what the links from trip i are worth is known
pub record CanLink (p : Problem) (table : Table) (l i : ℕ) (into from : List ℤ) (links : List (Option ℤ)) : Type 0 where
  pub prices : AreCut p table l into from
  pub may_run : MayRun p l i
  pub known : AreWorths p l table.ray (link_piece p l i) links
  pub each_trip : length links ≡ length p.trips

-- trip by trip the places of a layer where the table breaks
abbrev pub trips_breaks : Problem → Table → ℕ → List BrokenAt
trips_breaks p table l = flat_map (trip_breaks p table l) (range_with_len 0 (length p.trips))

-- the first of the places is that of the suspect; where it is on a link, the first one from its trip
abbrev pub IsFirstOf : Problem → Table → ℕ → List BrokenAt → Option Suspect → Type 0
IsFirstOf p table l breaks None = first breaks ≡ None
IsFirstOf p table l breaks (Some (suspect.PullOut i)) = first breaks ≡ Some (broken.PullOut (record { 0 = l }) i)
IsFirstOf p table l breaks (Some (suspect.Link i)) =
    MayRun p l i.0 × (first breaks ≡ first (links_breaks p table l i.0)) × ((at : BrokenAt) × (first breaks ≡ Some at))
IsFirstOf p table l breaks (Some (suspect.PullIn i)) = first breaks ≡ Some (broken.PullIn (record { 0 = l }) i)
