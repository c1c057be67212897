-- The versions of instance texts, and the first record, which says the version.
use Rattle.std.specs.Prelude.{◌≡◌, ℕ, Bool, true, false, ◌&&◌, ◌==◌, if◌then◌else◌, List, [], ◌∷◌, Option, Some, None, codes, length}
use Rattle.std.specs.Str.{bytes_eq}
use Rattle.vs_instance.specs.declared.limits.TheConstants.{MAX_TRIPS, USUAL_TRIPS}
use Rattle.vs_reader.specs.declared.version.Version.{Version}
use Rattle.vs_reader.specs.declared.version.Version.TheVariants.{One, Two, Three}
use Rattle.vs_reader.specs.Rows.{Field, Row, field_of, row_of}

-- the number of the version
abbrev pub version_name : Version → Field
version_name One = codes "1"
version_name Two = codes "2"
version_name Three = codes "3"

-- `instance` and 1, 2 or 3
abbrev pub header : Version → Row
header version = codes "instance" ∷ version_name version ∷ []

-- the version that a first record says, if it says one
abbrev pub version_of : Row → Option Version
version_of row =
    if (length row == 2) && bytes_eq (field_of row 0) (codes "instance") then
    (if bytes_eq (field_of row 1) (codes "1") then Some One
    else if bytes_eq (field_of row 1) (codes "2") then Some Two
    else if bytes_eq (field_of row 1) (codes "3") then Some Three
    else None) else None

-- the first of all rows says this version
abbrev pub HasHeader : Version → List Row → Type 0
HasHeader version rows = row_of rows 0 ≡ header version

-- whether the record of a layer that has so many fields writes its least rest
abbrev pub writes_stay : Version → ℕ → Bool
writes_stay One fields = false
writes_stay Two fields = true
writes_stay Three fields = fields == 8

-- how many fields the record of a layer has to have that has so many
abbrev pub layer_fields : Version → ℕ → ℕ
layer_fields version fields = if writes_stay version fields then 8 else 7

-- how many trips there may be, and how many vehicles in a layer
abbrev pub most_in : Version → ℕ
most_in One = USUAL_TRIPS
most_in Two = USUAL_TRIPS
most_in Three = MAX_TRIPS
