-- Where and when a trip starts or ends.
use Rattle.std.specs.Prelude.{ℕ, ◌+◌, List, [], ◌∷◌, ◌++◌}
use Rattle.vs_reader.specs.declared.records.Call.{Call}
use Rattle.vs_reader.specs.Numbers.{IsTime}
use Rattle.vs_reader.specs.Names.{NameLists, Names}
use Rattle.vs_reader.specs.Rows.{Row, field_of}
use Rattle.vs_reader.specs.Rules.{Rule, WritesTime, HasFieldsFrom, new_name, known_name}

-- the stop that field k names, and the time that the next field writes
abbrev pub call_rules : NameLists → Row → ℕ → List Rule
call_rules names row k = known_name names.stops (field_of row k) ++ WritesTime (field_of row (k + 1)) ∷ []

abbrev pub IsCall : NameLists → Row → ℕ → Call → Type 0
IsCall names row k call = Names names.stops (field_of row k) call.stop.0 × IsTime (field_of row (k + 1)) call.minute

-- `trip` and a new name, with fields enough
abbrev pub trip_name_rules : NameLists → Row → List Rule
trip_name_rules names row = HasFieldsFrom 8 row ∷ new_name names.trips (field_of row 1)
