-- What the first field of a record says.
use Rattle.std.specs.Prelude.{Bool, if◌then◌else◌, List, [], ◌∷◌, Option, Some, None, codes}
use Rattle.std.specs.Str.{bytes_eq}
use Rattle.vs_reader.specs.declared.kind.Kind.{Kind}
use Rattle.vs_reader.specs.declared.kind.Kind.TheVariants.{Stop, Deadhead, Layer, Trip}
use Rattle.vs_reader.specs.Rows.{Field, Row, field_of}

-- the first field of a record of the kind
abbrev pub kind_name : Kind → Field
kind_name Stop = codes "stop"
kind_name Deadhead = codes "deadhead"
kind_name Layer = codes "layer"
kind_name Trip = codes "trip"

-- the kind that a first field says, if it says one
abbrev pub kind_of : Field → Option Kind
kind_of field =
    if bytes_eq field (codes "stop") then Some Stop
    else if bytes_eq field (codes "deadhead") then Some Deadhead
    else if bytes_eq field (codes "layer") then Some Layer
    else if bytes_eq field (codes "trip") then Some Trip
    else None

abbrev pub is_result : Row → Bool
is_result row = bytes_eq (field_of row 0) (codes "result")

-- the rows before the first one whose first field is `result`
abbrev pub before_result : List Row → List Row
before_result [] = []
before_result (row ∷ rows) = if is_result row then [] else row ∷ before_result rows
