-- Which arc is a trip's.
use Rattle.std.specs.Prelude.{ℕ, ◌+◌, ◌*◌, ◌<◌, ◌≤◌, List, Option, None, MatchOption, slice_index_or}
use Rattle.vs_instance.specs.declared.limits.TheConstants.{MAX_TRIPS}
use Rattle.vs_match.specs.declared.arc_kind.ArcKind.{ArcKind}
use Rattle.vs_match.specs.declared.arc_kind.ArcKind.TheVariants.{Trip}
use Rattle.vs_match.specs.LayerGraph.{LayerGraph, IsLabelled, IsArcOfTrip}

-- the trip of an arc is one of so many
abbrev pub IsBelow : ℕ → ArcKind → Type 0
IsBelow trips (Trip i) = i.0 < trips
IsBelow trips _ = Unit {0}

-- the arc of trip i, none where no arc is its
abbrev pub IsTripAt : List ArcKind → ℕ → Option ℕ → Type 0
IsTripAt kinds i found = MatchOption found ((k : ℕ) → ¬ (IsArcOfTrip kinds i k)) (IsArcOfTrip kinds i)

-- the arcs of the trips, by their numbers
abbrev pub IsTripIndex : List ArcKind → List (Option ℕ) → Type 0
IsTripIndex kinds index = (i : ℕ) → IsTripAt kinds i (slice_index_or index i None)

-- a labelled net of few nodes, with an index of its trips
pub record IsIndexed (n : LayerGraph) (index : List (Option ℕ)) : Type 0 where
  pub labelled : IsLabelled n
  pub few : n.graph.nodes ≤ 3 * MAX_TRIPS + 2
  pub trips : IsTripIndex n.kinds index
