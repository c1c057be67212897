-- What is wrong with something, as a list in the order in which it is judged, of which the first is answered.
use Rattle.std.specs.Prelude.{Bool, if◌then◌else◌, List, [], ◌∷◌, Option, slice_get}

-- this is wrong where the test is true
abbrev pub when : {A : Type 0} → Bool → A → List A
when wrong what = if wrong then what ∷ [] else []

abbrev pub first : {A : Type 0} → List A → Option A
first found = slice_get found 0
