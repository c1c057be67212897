-- What a draft holds, and what is true of it.
use Rattle.std.specs.Prelude.{◌≡◌, ℕ, ◌<◌, ◌≤◌, List, length, All, AllPairs}
use Rattle.vs_types.specs.LayerSet.{Has}
use Rattle.vs_types.specs.declared.numbers.TheConstants.{MAX_LAYERS}
use Rattle.vs_instance.specs.declared.limits.TheConstants.{MAX_STOPS, TWO_DAYS}
use Rattle.vs_reader.specs.declared.draft.Draft.{Draft}
use Rattle.vs_reader.specs.declared.version.Version.{Version}
use Rattle.vs_reader.specs.Versions.{most_in}
use Rattle.vs_reader.specs.Rows.{Field, Row}
use Rattle.vs_reader.specs.InstanceText.{Declared, Adds}
use Rattle.vs_reader.specs.Refusals.{is_layer, is_deadhead, is_trip}
use Rattle.vs_reader.specs.RecordNumbers.{with_number}

abbrev pub declared_of : Draft → Declared
declared_of d =
    record { names = d.names; deadheads = d.deadheads.items; layers = d.layers.items; trips = d.trips.items }

-- the record of this number adds to the draft what it declares, and its number
pub record AddsRecord (version : Version) (number : ℕ) (old : Draft) (row : Row) (new : Draft) : Type 0 where
  pub declared : Adds version (declared_of old) row (declared_of new)
  pub deadheads : new.numbers.deadheads.items ≡ with_number is_deadhead number row old.numbers.deadheads.items
  pub layers : new.numbers.layers.items ≡ with_number is_layer number row old.numbers.layers.items
  pub trips : new.numbers.trips.items ≡ with_number is_trip number row old.numbers.trips.items

abbrev pub AreApart : List Field → Type 0
AreApart names = AllPairs (λ f g. ¬ (f ≡ g)) names

-- names within the limits of this version, no two of a kind the same, a layer and a trip for each of theirs, and no
-- number that nothing has
pub record IsSound (version : Version) (d : Declared) : Type 0 where
  pub stops_apart : AreApart d.names.stops
  pub layers_apart : AreApart d.names.layers
  pub few_stops : length d.names.stops ≤ MAX_STOPS
  pub few_layers : length d.names.layers ≤ MAX_LAYERS
  pub few_trips : length d.names.trips ≤ most_in version
  pub each_layer : length d.layers ≡ length d.names.layers
  pub each_trip : length d.trips ≡ length d.names.trips
  pub depots : All (λ l. l.depot.0 < length d.names.stops) d.layers
  pub deadheads : All (λ h. (h.from.0 < length d.names.stops) × (h.to.0 < length d.names.stops)) d.deadheads
  pub trip_stops : All (λ t. (t.from.0 < length d.names.stops) × (t.to.0 < length d.names.stops)) d.trips
  pub trip_times : All (λ t. (t.start < TWO_DAYS) × (t.end < 2880)) d.trips
  pub some_layer : All (λ t. (l : ℕ) × Has t.layers l) d.trips
  pub trip_layers : All (λ t. (l : ℕ) → Has t.layers l → l < length d.names.layers) d.trips
