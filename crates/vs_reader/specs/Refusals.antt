-- Why a text is no instance text, and at which of its records.
use Rattle.std.specs.Prelude.{◌≡◌, ℕ, ◌+◌, Bool, true, false, List, [], ◌∷◌, length, map, filter, Option, Some, slice_index_or, ◌⊎◌}
use Rattle.std.specs.List.{enumerate_from}
use Rattle.vs_instance.specs.declared.parts.Parts.{Parts}
use Rattle.vs_instance.specs.declared.misfit.Misfit.{Misfit}
use Rattle.vs_instance.specs.declared.misfit.Misfit.TheVariants.{Range, TooDear, SelfDeadhead, DeadheadTwice, EndNotAfterStart, NotClosed, LongerMinutes, LongerMetres}
use Rattle.vs_instance.specs.declared.misfit.Place.TheVariants as place
use Rattle.vs_instance.specs.Misfits.{first_misfit, misfits_of}
use Rattle.vs_reader.specs.declared.kind.Kind.{Kind}
use Rattle.vs_reader.specs.declared.kind.Kind.TheVariants as kind
use Rattle.vs_reader.specs.declared.refused.Refused.{Refused}
use Rattle.vs_reader.specs.declared.refused.Why.TheVariants as why
use Rattle.vs_reader.specs.declared.version.Version.{Version}
use Rattle.vs_reader.specs.Rows.{Row, field_of}
use Rattle.vs_reader.specs.Names.{NameLists}
use Rattle.vs_reader.specs.Versions.{HasHeader, most_in}
use Rattle.vs_reader.specs.Kinds.{kind_of}
use Rattle.vs_reader.specs.InstanceText.{Declared, AddAll, nothing_yet, instance_records}
use Rattle.vs_reader.specs.Rules.{AreKept, BreaksFirst, rules, with_row}

-- Of these records, the first of which has number n, the first that breaks a rule is refused for the first rule that it
-- breaks. These names are declared before.
abbrev pub BreaksRule : Version → ℕ → NameLists → List Row → Refused → Type 0
BreaksRule version n names [] refused = ⊥
BreaksRule version n names (row ∷ rows) refused =
    ((refused.row ≡ n) × BreaksFirst (rules version names row) refused.why)
    ⊎ (AreKept (rules version names row) × BreaksRule version (n + 1) (with_row names row) rows refused)

-- whether a record is of the kind
abbrev pub is_stop : Option Kind → Bool
is_stop (Some kind.Stop) = true
is_stop _ = false

abbrev pub is_deadhead : Option Kind → Bool
is_deadhead (Some kind.Deadhead) = true
is_deadhead _ = false

abbrev pub is_layer : Option Kind → Bool
is_layer (Some kind.Layer) = true
is_layer _ = false

abbrev pub is_trip : Option Kind → Bool
is_trip (Some kind.Trip) = true
is_trip _ = false

-- the numbers of the records of a kind, in order; the first of all these records has number 2, since the header is
-- record 1
abbrev pub numbers_of : (Option Kind → Bool) → List Row → List ℕ
numbers_of is_of records = map (λ e. e.0) (filter (λ e. is_of (kind_of (field_of e.1 0))) (enumerate_from 2 records))

-- the number of the record that declares layer, deadhead or trip k
abbrev pub number_of : (Option Kind → Bool) → List Row → ℕ → ℕ
number_of is_of records k = slice_index_or (numbers_of is_of records) k 0

-- the record that a misfit is told at; 0 where it concerns the deadheads of three stops
abbrev pub misfit_row : List Row → Misfit → ℕ
misfit_row records (Range field (place.Layer l)) = number_of is_layer records l.0
misfit_row records (Range field (place.Deadhead n)) = number_of is_deadhead records n
misfit_row records (Range field (place.Trip i)) = number_of is_trip records i.0
misfit_row records (TooDear l) = number_of is_layer records l.0
misfit_row records (SelfDeadhead n) = number_of is_deadhead records n
misfit_row records (DeadheadTwice n) = number_of is_deadhead records n
misfit_row records (EndNotAfterStart i) = number_of is_trip records i.0
misfit_row records (NotClosed k s t) = 0
misfit_row records (LongerMinutes k s t) = 0
misfit_row records (LongerMetres k s t) = 0

-- the parts that are declared by the rules of this version
pub record ArePartsOf (version : Version) (declared : Declared) (parts : Parts) : Type 0 where
  pub stops : parts.stops ≡ length declared.names.stops
  pub deadheads : parts.deadheads.items ≡ declared.deadheads
  pub layers : parts.layers.items ≡ declared.layers
  pub trips : parts.trips.items ≡ declared.trips
  pub most : parts.most ≡ most_in version

-- each record keeps its rules, and the first misfit of what they declare is refused
pub record HasMisfit (version : Version) (records : List Row) (refused : Refused) : Type 0 where
  pub declared : Declared
  pub declares : AddAll version nothing_yet records declared
  pub parts : Parts
  pub parts_are : ArePartsOf version declared parts
  pub misfit : Misfit
  pub first : first_misfit (misfits_of parts) ≡ Some misfit
  pub why_is : refused.why ≡ why.Misfit misfit
  pub row_is : refused.row ≡ misfit_row records misfit

-- the first record is `instance` and a version for no version, or there is none
abbrev pub LacksHeader : List Row → Refused → Type 0
LacksHeader rows refused =
    ((version : Version) → ¬ (HasHeader version rows)) × (refused.row ≡ 1) × (refused.why ≡ why.NoHeader)

-- the records break a rule of this version, or what they declare by its rules has a misfit
abbrev pub BreaksOrMisfits : Version → List Row → Refused → Type 0
BreaksOrMisfits version records refused =
    BreaksRule version 2 nothing_yet.names records refused ⊎ HasMisfit version records refused

-- the refusal of rows that are no instance text
abbrev pub IsRefusal : List Row → Refused → Type 0
IsRefusal rows refused = LacksHeader rows refused
    ⊎ ((version : Version) × HasHeader version rows × BreaksOrMisfits version (instance_records rows) refused)
