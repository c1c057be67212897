-- What a record has to keep, in the order in which it is judged.
use Rattle.std.specs.Prelude.{◌≡◌, ℕ, ◌<◌, ◌≤◌, if◌then◌else◌, List, [], ◌∷◌, ◌++◌, length, drop, Contains, Option, Some, None, IsSome, ◌⊎◌}
use Rattle.vs_reader.specs.declared.kind.Kind.{Kind}
use Rattle.vs_reader.specs.declared.kind.Kind.TheVariants.{Stop, Deadhead, Layer, Trip}
use Rattle.vs_types.specs.declared.numbers.TheConstants.{MAX_LAYERS}
use Rattle.vs_instance.specs.declared.limits.TheConstants.{MAX_STOPS}
use Rattle.vs_reader.specs.declared.refused.Why.{Why}
use Rattle.vs_reader.specs.declared.refused.Why.TheVariants as why
use Rattle.vs_reader.specs.declared.version.Version.{Version}
use Rattle.vs_reader.specs.Rows.{Field, Row, field_of}
use Rattle.vs_reader.specs.Numbers.{IsNumber, IsTime}
use Rattle.vs_reader.specs.Names.{IsName, NameLists}
use Rattle.vs_reader.specs.Kinds.{kind_of}
use Rattle.vs_reader.specs.Versions.{layer_fields, most_in, writes_stay}

pub data Rule : Type 0 where
  -- the field says a kind
  SaysKind : Field → Rule
  -- the row has so many fields, or so many or more
  HasFields : ℕ → Row → Rule
  HasFieldsFrom : ℕ → Row → Rule
  -- the field is a name, a number, a time
  WritesName : Field → Rule
  WritesNumber : Field → Rule
  WritesTime : Field → Rule
  -- the field is none of these names, or one of them
  IsNoneOf : List Field → Field → Rule
  IsOneOf : List Field → Field → Rule
  -- there are fewer of these names than the limit
  HasRoom : ℕ → List Field → Rule

abbrev pub Keeps : Rule → Type 0
Keeps (SaysKind field) = IsSome (kind_of field)
Keeps (HasFields n row) = length row ≡ n
Keeps (HasFieldsFrom n row) = n ≤ length row
Keeps (WritesName field) = IsName field
Keeps (WritesNumber field) = (n : ℕ) × IsNumber field n
Keeps (WritesTime field) = (t : ℕ) × IsTime field t
Keeps (IsNoneOf names field) = ¬ (Contains names field)
Keeps (IsOneOf names field) = Contains names field
Keeps (HasRoom limit names) = length names < limit

-- why a record is refused that breaks the rule
abbrev pub why_broken : Rule → Why
why_broken (SaysKind field) = why.UnknownKind
why_broken (HasFields n row) = why.FieldCount
why_broken (HasFieldsFrom n row) = why.FieldCount
why_broken (WritesName field) = why.BadName
why_broken (WritesNumber field) = why.BadNumber
why_broken (WritesTime field) = why.BadTime
why_broken (IsNoneOf names field) = why.NameTwice
why_broken (IsOneOf names field) = why.UnknownName
why_broken (HasRoom limit names) = why.TooMany

-- the rules are kept
abbrev pub AreKept : List Rule → Type 0
AreKept [] = Unit {0}
AreKept (rule ∷ rules) = Keeps rule × AreKept rules

-- the first of the rules that isn't kept says this
abbrev pub BreaksFirst : List Rule → Why → Type 0
BreaksFirst [] why = ⊥
BreaksFirst (rule ∷ rules) why = (¬ (Keeps rule) × (why ≡ why_broken rule)) ⊎ (Keeps rule × BreaksFirst rules why)

-- a field that declares a name, where these are declared before
abbrev pub new_name : List Field → Field → List Rule
new_name names field = WritesName field ∷ IsNoneOf names field ∷ []

-- a field that uses one of the names
abbrev pub known_name : List Field → Field → List Rule
known_name names field = WritesName field ∷ IsOneOf names field ∷ []

-- fields that name layers, each once
abbrev pub layer_names : List Field → List Field → List Field → List Rule
layer_names names earlier [] = []
layer_names names earlier (field ∷ fields) =
    known_name names field ++ IsNoneOf earlier field ∷ layer_names names (earlier ++ field ∷ []) fields

-- `stop`, NAME
abbrev pub stop_rules : NameLists → Row → List Rule
stop_rules names row = HasFields 2 row ∷ new_name names.stops (field_of row 1) ++ HasRoom MAX_STOPS names.stops ∷ []

-- `deadhead`, FROM, TO, MINUTES, METRES
abbrev pub deadhead_rules : NameLists → Row → List Rule
deadhead_rules names row =
    HasFields 5 row ∷ known_name names.stops (field_of row 1) ++ known_name names.stops (field_of row 2)
    ++ WritesNumber (field_of row 3) ∷ WritesNumber (field_of row 4) ∷ []

-- STAY, where the record of a layer writes it
abbrev pub stay_rules : Version → Row → List Rule
stay_rules version row = if writes_stay version (length row) then WritesNumber (field_of row 7) ∷ [] else []

-- `layer`, NAME, DEPOT, FLEET, FIXED, PER_MINUTE, PER_METRE, in version 2 also STAY, and in version 3 STAY or not
abbrev pub layer_rules : Version → NameLists → Row → List Rule
layer_rules version names row =
    HasFields (layer_fields version (length row)) row ∷ new_name names.layers (field_of row 1)
    ++ known_name names.stops (field_of row 2)
    ++ WritesNumber (field_of row 3) ∷ WritesNumber (field_of row 4) ∷ WritesNumber (field_of row 5)
    ∷ WritesNumber (field_of row 6)
    ∷ stay_rules version row ++ HasRoom MAX_LAYERS names.layers ∷ []

-- `trip`, NAME, FROM, START, TO, END, METRES, and one LAYER or more; the version says how many trips there may be
abbrev pub trip_rules : Version → NameLists → Row → List Rule
trip_rules version names row =
    HasFieldsFrom 8 row ∷ new_name names.trips (field_of row 1) ++ known_name names.stops (field_of row 2)
    ++ WritesTime (field_of row 3) ∷ known_name names.stops (field_of row 4) ++ WritesTime (field_of row 5)
    ∷ WritesNumber (field_of row 6)
    ∷ layer_names names.layers [] (drop 7 row) ++ HasRoom (most_in version) names.trips ∷ []

abbrev pub rules_of_kind : Option Kind → Version → NameLists → Row → List Rule
rules_of_kind None version names row = []
rules_of_kind (Some Stop) version names row = stop_rules names row
rules_of_kind (Some Deadhead) version names row = deadhead_rules names row
rules_of_kind (Some Layer) version names row = layer_rules version names row
rules_of_kind (Some Trip) version names row = trip_rules version names row

-- the rules of a record, where these names are declared by the records before it
abbrev pub rules : Version → NameLists → Row → List Rule
rules version names row = SaysKind (field_of row 0) ∷ rules_of_kind (kind_of (field_of row 0)) version names row

-- the names with the one that a record of the kind declares
abbrev pub with_name : Option Kind → NameLists → Field → NameLists
with_name None names field = names
with_name (Some Stop) names field = record names { stops = names.stops ++ field ∷ [] }
with_name (Some Deadhead) names field = names
with_name (Some Layer) names field = record names { layers = names.layers ++ field ∷ [] }
with_name (Some Trip) names field = record names { trips = names.trips ++ field ∷ [] }

abbrev pub with_row : NameLists → Row → NameLists
with_row names row = with_name (kind_of (field_of row 0)) names (field_of row 1)
