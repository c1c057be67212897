-- What the records of an instance text say. Each record adds to what the records before it declare.
use Rattle.std.specs.Prelude.{◌≡◌, ℕ, ◌+◌, ◌<◌, ◌≤◌, Bool, true, false, List, [], ◌∷◌, ◌++◌, length, drop, All, AllPairs, Contains, Option, None, IsSomeAnd, codes, ◌⊎◌, ◌↔◌}
use Rattle.vs_types.specs.LayerSet.{Has}
use Rattle.vs_types.specs.declared.layer_set.LayerSet.{LayerSet}
use Rattle.vs_instance.specs.declared.parts.Deadhead.{Deadhead}
use Rattle.vs_instance.specs.declared.layer.Layer.{Layer}
use Rattle.vs_instance.specs.declared.trip.Trip.{Trip}
use Rattle.vs_instance.specs.Problem.{Problem}
use Rattle.vs_instance.specs.Instance.{IsInstance}
use Rattle.vs_instance.specs.Misfits.{are_twins, deadheads_of}
use Rattle.vs_types.specs.declared.numbers.TheConstants.{MAX_LAYERS}
use Rattle.vs_instance.specs.declared.limits.TheConstants.{MAX_STOPS}
use Rattle.vs_reader.specs.declared.version.Version.{Version}
use Rattle.vs_reader.specs.Rows.{Field, Row}
use Rattle.vs_reader.specs.Numbers.{IsNumber, IsTime}
use Rattle.vs_reader.specs.Names.{IsName, NameLists, Names}
use Rattle.vs_reader.specs.Versions.{HasHeader, most_in, writes_stay}
use Rattle.vs_reader.specs.Kinds.{before_result}

-- what records declare: names, and the deadheads, layers and trips, each in order
pub record Declared : Type 0 where
  pub names : NameLists
  pub deadheads : List Deadhead
  pub layers : List Layer
  pub trips : List Trip

abbrev pub nothing_yet : Declared
nothing_yet = record { names = record { stops = []; layers = []; trips = [] }; deadheads = []; layers = []; trips = [] }

-- a name that none of these is
pub record IsNew (names : List Field) (field : Field) : Type 0 where
  pub name : IsName field
  pub new : ¬ (Contains names field)

-- `stop`, NAME
pub record AddsStop (old : Declared) (row : Row) (new : Declared) : Type 0 where
  pub name : Field
  pub row_is : row ≡ codes "stop" ∷ name ∷ []
  pub new_name : IsNew old.names.stops name
  pub room : length old.names.stops < MAX_STOPS
  pub added : new ≡ record old { names = record old.names { stops = old.names.stops ++ name ∷ [] } }

-- `deadhead`, FROM, TO, MINUTES, METRES
pub record DeadheadRow (stops : List Field) (row : Row) (deadhead : Deadhead) : Type 0 where
  pub from : Field
  pub to : Field
  pub minutes : Field
  pub metres : Field
  pub row_is : row ≡ codes "deadhead" ∷ from ∷ to ∷ minutes ∷ metres ∷ []
  pub from_is : Names stops from deadhead.from.0
  pub to_is : Names stops to deadhead.to.0
  pub minutes_are : IsNumber minutes deadhead.minutes
  pub metres_are : IsNumber metres deadhead.metres

pub record AddsDeadhead (old : Declared) (row : Row) (new : Declared) : Type 0 where
  pub deadhead : Deadhead
  pub row_is : DeadheadRow old.names.stops row deadhead
  pub added : new ≡ record old { deadheads = old.deadheads ++ deadhead ∷ [] }

-- the fields behind the rates of a layer: the one that writes its least rest, where its record writes it
abbrev pub stay_fields : Bool → Field → List Field
stay_fields false stay = []
stay_fields true stay = stay ∷ []

-- the least rest of a layer: the number that the field writes, where its record writes it, and else none
abbrev pub StayOf : Bool → Field → Option ℕ → Type 0
StayOf false field stay = stay ≡ None
StayOf true field stay = IsSomeAnd stay (IsNumber field)

-- `layer`, NAME, DEPOT, FLEET, FIXED, PER_MINUTE, PER_METRE, in version 2 also STAY, and in version 3 STAY or not
pub record LayerRow (version : Version) (stops : List Field) (row : Row) (name : Field) (layer : Layer) : Type 0 where
  pub depot : Field
  pub fleet : Field
  pub fixed : Field
  pub per_minute : Field
  pub per_metre : Field
  pub stay : Field
  pub row_is : row
      ≡ codes "layer" ∷ name ∷ depot ∷ fleet ∷ fixed ∷ per_minute ∷ per_metre
      ∷ stay_fields (writes_stay version (length row)) stay
  pub depot_is : Names stops depot layer.depot.0
  pub fleet_is : IsNumber fleet layer.fleet
  pub fixed_is : IsNumber fixed layer.fixed
  pub per_minute_is : IsNumber per_minute layer.per_minute
  pub per_metre_is : IsNumber per_metre layer.per_metre
  pub stay_is : StayOf (writes_stay version (length row)) stay layer.stay

pub record AddsLayer (version : Version) (old : Declared) (row : Row) (new : Declared) : Type 0 where
  pub name : Field
  pub layer : Layer
  pub row_is : LayerRow version old.names.stops row name layer
  pub new_name : IsNew old.names.layers name
  pub room : length old.names.layers < MAX_LAYERS
  pub added : new ≡ record old {
    names = record old.names { layers = old.names.layers ++ name ∷ [] };
    layers =
        old.layers ++ layer ∷ [];
  }

-- the fields name the layers of the set, each once
pub record NameLayers (names : List Field) (fields : List Field) (set : LayerSet) : Type 0 where
  pub once : AllPairs (λ f g. ¬ (f ≡ g)) fields
  pub each : All (λ f. Contains names f) fields
  pub members : (l : ℕ) → Has set l ↔ ((f : Field) × Contains fields f × Names names f l)

-- `trip`, NAME, FROM, START, TO, END, METRES, and one LAYER or more
pub record TripRow (names : NameLists) (row : Row) (name : Field) (trip : Trip) : Type 0 where
  pub from : Field
  pub start : Field
  pub to : Field
  pub end : Field
  pub metres : Field
  pub layers : List Field
  pub row_is : row ≡ codes "trip" ∷ name ∷ from ∷ start ∷ to ∷ end ∷ metres ∷ layers
  pub from_is : Names names.stops from trip.from.0
  pub start_is : IsTime start trip.start
  pub to_is : Names names.stops to trip.to.0
  pub end_is : IsTime end trip.end
  pub metres_are : IsNumber metres trip.metres
  pub some_layer : 1 ≤ length layers
  pub layers_are : NameLayers names.layers layers trip.layers

pub record AddsTrip (version : Version) (old : Declared) (row : Row) (new : Declared) : Type 0 where
  pub name : Field
  pub trip : Trip
  pub row_is : TripRow old.names row name trip
  pub new_name : IsNew old.names.trips name
  pub room : length old.names.trips < most_in version
  pub added : new ≡ record old {
    names = record old.names { trips = old.names.trips ++ name ∷ [] };
    trips =
        old.trips ++ trip ∷ [];
  }

-- one record adds to what was declared
abbrev pub Adds : Version → Declared → Row → Declared → Type 0
Adds version old row new =
    AddsStop old row new ⊎ (AddsDeadhead old row new ⊎ (AddsLayer version old row new ⊎ AddsTrip version old row new))

-- the records do, one after another
abbrev pub AddAll : Version → Declared → List Row → Declared → Type 0
AddAll version old [] new = new ≡ old
AddAll version old (row ∷ rows) new = (next : Declared) × Adds version old row next × AddAll version next rows new

-- what is declared by the rules of this version is the instance: no deadhead stands twice, no fleet is past what the
-- version lets be, and the limits and closure hold
pub record Makes (version : Version) (declared : Declared) (p : Problem) : Type 0 where
  pub once : AllPairs (λ d e. are_twins d e ≡ false) declared.deadheads
  pub fleets : All (λ layer. layer.fleet ≤ most_in version) declared.layers
  pub problem : p ≡ record {
    stops = length declared.names.stops;
    deadheads =
        deadheads_of declared.deadheads;
    layers = declared.layers;
    trips = declared.trips;
  }
  pub instance : IsInstance p

-- the records of the instance: those after the first, up to the first `result` record
abbrev pub instance_records : List Row → List Row
instance_records rows = before_result (drop 1 rows)

-- The rows are an instance text: the first is `instance` and a version, and the records of the instance declare it and
-- its names, by the rules of that version. So many rows come before the first `result` record, and these from there on.
pub record InstanceText (rows : List Row) (p : Problem) (names : NameLists) (before : ℕ)
    (rest : List Row) : Type 0 where
  pub version : Version
  pub first : HasHeader version rows
  pub declared : Declared
  pub declares : AddAll version nothing_yet (instance_records rows) declared
  pub makes : Makes version declared p
  pub names_are : names ≡ declared.names
  pub before_is : before ≡ length (instance_records rows) + 1
  pub rest_is : rest ≡ drop before rows
