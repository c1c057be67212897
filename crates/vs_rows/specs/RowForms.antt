-- What a row of an input says, and the fields that are read for it.
use Rattle.std.specs.Prelude.{◌≡◌, ℕ, ◌<◌, ◌≤◌, List, length, map, All}
use Rattle.vs_types.specs.declared.layer_set.LayerSet.{LayerSet}
use Rattle.vs_types.specs.declared.numbers.TripNo.{TripNo}
use Rattle.vs_reader.specs.Rows.{AreCounted, Field, Row, field_of, row_of}
use Rattle.vs_reader.specs.Names.{HaveCounts, NameLists, name_of}
use Rattle.vs_reader.specs.declared.input.Input.{Input}
use Rattle.vs_rows.specs.DocumentRows.{DocumentRow, AreLayersOf, Says}

-- the names are the instance's, and 32 bits count the records
pub record IsInput (input : Input) : Type 0 where
  pub counts : HaveCounts input.instance input.names
  pub counted : AreCounted input.before input.rest

-- row k says this, whatever the names are, or never does
abbrev pub Tells : List Row → ℕ → DocumentRow → Type 0
Tells rows k said = (names : NameLists) → Says names (row_of rows k) said

abbrev pub NeverTells : List Row → ℕ → DocumentRow → Type 0
NeverTells rows k said = (names : NameLists) → ¬ (Says names (row_of rows k) said)

-- row k of the input's rest says this
abbrev pub SaysThere : Input → ℕ → DocumentRow → Type 0
SaysThere input k said = Says input.names (row_of input.rest k) said

-- the field is the name of this number, and of none
abbrev pub IsNameOf : List Field → Field → ℕ → Type 0
IsNameOf names field k = (k < length names) × (field ≡ name_of names k)

abbrev pub IsNoName : List Field → Field → Type 0
IsNoName names field = (k : ℕ) → k < length names → ¬ (field ≡ name_of names k)

-- a row of so many fields, of which the first says its kind
pub record IsOfKind (kind : Field) (fields : ℕ) (row : Row) : Type 0 where
  pub kind_is : field_of row 0 ≡ kind
  pub fields_are : length row ≡ fields

-- a row of at least three fields, of which the first says its kind
pub record BeginsAs (kind : Field) (row : Row) : Type 0 where
  pub kind_is : field_of row 0 ≡ kind
  pub many : 3 ≤ length row

-- the fields are the names of these trips
pub record NameTrips (names : List Field) (fields : List Field) (trips : List TripNo) : Type 0 where
  pub fields_are : fields ≡ map (λ t. name_of names t.0) trips
  pub trips_are : All (λ t. t.0 < length names) trips

-- the fields are the names of the set's layers, each once and in any order
pub record NameSet (names : List Field) (fields : List Field) (set : LayerSet) : Type 0 where
  pub layers : List ℕ
  pub fields_are : fields ≡ map (name_of names) layers
  pub layers_are : All (λ l. l < length names) layers
  pub set_is : AreLayersOf set layers
