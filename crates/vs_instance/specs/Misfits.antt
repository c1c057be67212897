-- What is wrong with the parts of an instance, in the order in which it is answered.
use Rattle.std.specs.Prelude.{◌≡◌, ◌≢◌, ℕ, ◌+◌, ◌*◌, ◌^◌, ◌<◌, ◌≤◌, Bool, not, nat_lt, ◌==◌, ◌&&◌, ◌||◌, if◌then◌else◌, List, [], ◌∷◌, ◌++◌, length, take, flat_map, fold, All, AllPairs, Option, Some, None}
use Rattle.std.specs.List.{list_any, enumerate_from, range_with_len}
use Rattle.std.specs.FinMap as map
use Rattle.vs_types.specs.LayerSet.{Has, members}
use Rattle.vs_instance.specs.declared.parts.Deadhead.{Deadhead}
use Rattle.vs_instance.specs.declared.layer.Layer.{Layer}
use Rattle.vs_instance.specs.declared.trip.Trip.{Trip}
use Rattle.vs_instance.specs.declared.way.Way.{Way}
use Rattle.vs_instance.specs.declared.parts.Parts.{Parts}
use Rattle.vs_instance.specs.declared.misfit.Misfit.{Misfit}
use Rattle.vs_instance.specs.declared.misfit.Misfit.TheVariants.{Range, TooDear, SelfDeadhead, DeadheadTwice, EndNotAfterStart, NotClosed, LongerMinutes, LongerMetres}
use Rattle.vs_instance.specs.declared.misfit.NewError.{NewError}
use Rattle.vs_instance.specs.declared.misfit.NewError.TheVariants as error
use Rattle.vs_instance.specs.declared.misfit.Field.TheVariants as field
use Rattle.vs_instance.specs.declared.misfit.Place.TheVariants as place
use Rattle.vs_types.specs.declared.numbers.TheConstants.{MAX_LAYERS}
use Rattle.vs_instance.specs.declared.limits.TheConstants.{MAX_STOPS, MAX_TRIPS, MAX_DEAREST_SUM, MAX_FIXED, MAX_PER_MINUTE, MAX_PER_METRE, MAX_STAY, MAX_MINUTES, MAX_METRES, TWO_DAYS}
use Rattle.vs_instance.specs.Dearest.{dearest}
use Rattle.vs_instance.specs.Firsts.{when, first}
use Rattle.vs_instance.specs.Problem.{Problem, pair_cmp}
use Rattle.vs_instance.specs.Instance.{IsInstance}

-- the deadheads as a map, written down one after another
abbrev pub deadheads_of : List Deadhead → map.FinMap pair_cmp Way
deadheads_of deadheads =
    fold (λ m d. map.insert m (d.from.0, d.to.0) (record { minutes = d.minutes; metres = d.metres })) map.empty
    deadheads

-- what the parts say
abbrev pub problem_of : Parts → Problem
problem_of parts = record {
  stops = parts.stops;
  deadheads = deadheads_of parts.deadheads.items;
  layers = parts.layers.items;
  trips = parts.trips.items;
}

-- two deadheads between the same stops in the same direction
abbrev pub are_twins : Deadhead → Deadhead → Bool
are_twins d e = (d.from.0 == e.from.0) && (d.to.0 == e.to.0)

-- the parts make an instance: no deadhead stands twice, no fleet is past the most there may be, and what they say is
-- one
pub record MakeInstance (parts : Parts) : Type 0 where
  pub once : AllPairs (λ d e. are_twins d e ≡ Bool.false) parts.deadheads.items
  pub fleets : All (λ layer. layer.fleet ≤ parts.most) parts.layers.items
  pub instance : IsInstance (problem_of parts)

-- there is a least rest, and it is out of range
abbrev pub is_no_stay : Option ℕ → Bool
is_no_stay None = Bool.false
is_no_stay (Some minutes) = (minutes == 0) || nat_lt MAX_STAY minutes

-- of layer l, where a fleet has so many vehicles at most and there are so many trips
abbrev pub layer_misfits : ℕ → ℕ → ℕ → Layer → List Misfit
layer_misfits most trips l layer = let at = place.Layer (record { 0 = l }) in
    when (nat_lt most layer.fleet) (Range field.Fleet at)
    ++ when (nat_lt MAX_FIXED layer.fixed) (Range field.Fixed at)
    ++ when (nat_lt MAX_PER_MINUTE layer.per_minute) (Range field.PerMinute at)
    ++ when (nat_lt MAX_PER_METRE layer.per_metre) (Range field.PerMetre at)
    ++ when (is_no_stay layer.stay) (Range field.Stay at)
    ++ when (nat_lt MAX_DEAREST_SUM (trips * dearest layer)) (TooDear (record { 0 = l }))

-- of the deadhead n, which may have a twin before it
abbrev pub deadhead_misfits : Bool → ℕ → Deadhead → List Misfit
deadhead_misfits twice n d =
    when (d.from.0 == d.to.0) (SelfDeadhead n)
    ++ when ((d.minutes == 0) || nat_lt MAX_MINUTES d.minutes) (Range field.Minutes (place.Deadhead n))
    ++ when (nat_lt MAX_METRES d.metres) (Range field.Metres (place.Deadhead n))
    ++ when twice (DeadheadTwice n)

abbrev pub trip_misfits : ℕ → Trip → List Misfit
trip_misfits i trip =
    when (nat_lt MAX_METRES trip.metres) (Range field.Metres (place.Trip (record { 0 = i })))
    ++ when (not (nat_lt trip.start trip.end)) (EndNotAfterStart (record { 0 = i }))

-- what is wrong with the way w from k to t, beside the two ways by s
abbrev pub longer_misfits : ℕ → ℕ → ℕ → Way → Way → Way → List Misfit
longer_misfits k s t a b w =
    when (nat_lt (a.minutes + b.minutes) w.minutes)
    (LongerMinutes (record { 0 = k }) (record { 0 = s }) (record { 0 = t }))
    ++ when (nat_lt (a.metres + b.metres) w.metres)
    (LongerMetres (record { 0 = k }) (record { 0 = s }) (record { 0 = t }))

-- what is wrong with the way from k to t, where there is one to s and one from s on
abbrev pub detour_misfits : ℕ → ℕ → ℕ → Option Way → Option Way → Option Way → List Misfit
detour_misfits k s t (Some a) (Some b) (Some w) = longer_misfits k s t a b w
detour_misfits k s t (Some a) (Some b) None = NotClosed (record { 0 = k }) (record { 0 = s }) (record { 0 = t }) ∷ []
detour_misfits k s t _ _ _ = []

-- the same, where the stops have to be three
abbrev pub apart_misfits : ℕ → ℕ → ℕ → Option Way → Option Way → Option Way → List Misfit
apart_misfits k s t a b w = if (k == s) || (s == t) || (k == t) then [] else detour_misfits k s t a b w

-- of stops k, s and t
abbrev pub triple_misfits : map.FinMap pair_cmp Way → ℕ → ℕ → ℕ → List Misfit
triple_misfits deadheads k s t =
    apart_misfits k s t (map.get deadheads (k, s)) (map.get deadheads (s, t)) (map.get deadheads (k, t))

-- the stops' numbers in order
abbrev pub numbers : ℕ → List ℕ
numbers count = range_with_len 0 count

-- of the ways from stop k by stop s to each stop, and from stop k by each stop
abbrev pub misfits_by : ℕ → map.FinMap pair_cmp Way → ℕ → ℕ → List Misfit
misfits_by stops deadheads k s = flat_map (triple_misfits deadheads k s) (numbers stops)

abbrev pub misfits_from : ℕ → map.FinMap pair_cmp Way → ℕ → List Misfit
misfits_from stops deadheads k = flat_map (misfits_by stops deadheads k) (numbers stops)

abbrev pub closure_misfits : ℕ → map.FinMap pair_cmp Way → List Misfit
closure_misfits stops deadheads = flat_map (misfits_from stops deadheads) (numbers stops)

-- of all layers, of all deadheads and of all trips, in number order
abbrev pub layers_misfits : ℕ → ℕ → List Layer → List Misfit
layers_misfits most trips layers = flat_map (λ e. layer_misfits most trips e.0 e.1) (enumerate_from 0 layers)

abbrev pub has_twin_before : List Deadhead → ℕ → Deadhead → Bool
has_twin_before deadheads n d = list_any (λ e. are_twins e d) (take n deadheads)

abbrev pub deadheads_misfits : List Deadhead → List Misfit
deadheads_misfits deadheads =
    flat_map (λ e. deadhead_misfits (has_twin_before deadheads e.0 e.1) e.0 e.1) (enumerate_from 0 deadheads)

abbrev pub trips_misfits : List Trip → List Misfit
trips_misfits trips = flat_map (λ e. trip_misfits e.0 e.1) (enumerate_from 0 trips)

-- all that is wrong with the parts, in order: layers, deadheads, trips, and then closure by the numbers of the three
-- stops
abbrev pub misfits_of : Parts → List Misfit
misfits_of parts =
    layers_misfits parts.most (length parts.trips.items) parts.layers.items
    ++ deadheads_misfits parts.deadheads.items
    ++ trips_misfits parts.trips.items
    ++ closure_misfits parts.stops (deadheads_of parts.deadheads.items)

-- the first of all
abbrev pub first_misfit : List Misfit → Option Misfit
first_misfit misfits = first misfits

-- the error is a misfit
abbrev pub IsMisfit : NewError → Type 0
IsMisfit (error.Misfit m) = Unit {0}
IsMisfit error.Memory = ⊥

-- a misfit that is answered is the first of these
abbrev pub IsFirstOf : List Misfit → NewError → Type 0
IsFirstOf misfits (error.Misfit m) = first_misfit misfits ≡ Some m
IsFirstOf misfits error.Memory = Unit {0}

-- a misfit that is answered is the first of all
abbrev pub IsFirstMisfit : Parts → NewError → Type 0
IsFirstMisfit parts e = IsFirstOf (misfits_of parts) e

-- what a maker of parts has seen to: counts within the limits, each number one of the parts, and times of the two days
pub record AreParts (parts : Parts) : Type 0 where
  pub few_stops : parts.stops ≤ MAX_STOPS
  pub few_layers : length parts.layers.items ≤ MAX_LAYERS
  pub few_trips : length parts.trips.items ≤ parts.most
  pub most : parts.most ≤ MAX_TRIPS
  pub few_deadheads : length parts.deadheads.items < 2 ^ 32
  pub layers : All (λ layer. layer.depot.0 < parts.stops) parts.layers.items
  pub deadheads : All (λ d. (d.from.0 < parts.stops) × (d.to.0 < parts.stops)) parts.deadheads.items
  pub trip_stops : All (λ t. (t.from.0 < parts.stops) × (t.to.0 < parts.stops)) parts.trips.items
  pub trip_times : All (λ t. (t.start < TWO_DAYS) × (t.end < TWO_DAYS)) parts.trips.items
  pub trip_layers : All (λ t. (members t.layers ≢ [])
      × ((l : ℕ) → Has t.layers l → l < length parts.layers.items)) parts.trips.items
