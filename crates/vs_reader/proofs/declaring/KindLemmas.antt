-- What a record adds, by the kind that its first field says.
use Rattle.std.proofs.Common.{◌≡◌, inl, inr, [], ◌∷◌, ◌++◌, Option, Some, None, sym, ap, ◌∙◌, subst}
use Rattle.vs_reader.specs.declared.kind.Kind.{Kind}
use Rattle.vs_reader.specs.declared.kind.Kind.TheVariants.{Stop, Deadhead, Layer, Trip}
use Rattle.vs_reader.specs.declared.version.Version.{Version}
use Rattle.vs_reader.specs.Rows.{Row, field_of}
use Rattle.vs_reader.specs.Kinds.{kind_of}
use Rattle.vs_reader.specs.InstanceText.{Declared, AddsStop, AddsDeadhead, AddsLayer, AddsTrip, Adds}
use Rattle.vs_reader.specs.Rules.{with_name, with_row}

-- a record of the kind adds to what was declared
abbrev pub AddsOfKind : Option Kind → Version → Declared → Row → Declared → Type 0
AddsOfKind None version old row new = ⊥
AddsOfKind (Some Stop) version old row new = AddsStop old row new
AddsOfKind (Some Deadhead) version old row new = AddsDeadhead old row new
AddsOfKind (Some Layer) version old row new = AddsLayer version old row new
AddsOfKind (Some Trip) version old row new = AddsTrip version old row new

module _ (version : Version) (old : Declared) (row : Row) (new : Declared) where
  of_kind : (kind : Option Kind) → kind_of (field_of row 0) ≡ kind → AddsOfKind kind version old row new
      → AddsOfKind (kind_of (field_of row 0)) version old row new
  of_kind kind is a = subst (λ (k : Option Kind). AddsOfKind k version old row new) (sym is) a

  -- a record that adds something is of the kind that it says
  pub adds_by_kind : Adds version old row new → AddsOfKind (kind_of (field_of row 0)) version old row new
  adds_by_kind (inl a) = of_kind (Some Stop) (ap (λ (r : Row). kind_of (field_of r 0)) a.row_is) a
  adds_by_kind (inr (inl a)) = of_kind (Some Deadhead) (ap (λ (r : Row). kind_of (field_of r 0)) a.row_is.row_is) a
  adds_by_kind (inr (inr (inl a))) = of_kind (Some Layer) (ap (λ (r : Row). kind_of (field_of r 0)) a.row_is.row_is) a
  adds_by_kind (inr (inr (inr a))) = of_kind (Some Trip) (ap (λ (r : Row). kind_of (field_of r 0)) a.row_is.row_is) a

  -- the names that are declared then
  names_of_kind : (kind : Option Kind) → AddsOfKind kind version old row new
      → with_name kind old.names (field_of row 1) ≡ new.names
  names_of_kind None a = absurd a
  names_of_kind (Some Stop) a =
      ap (λ (r : Row). record old.names { stops = old.names.stops ++ field_of r 1 ∷ [] }) a.row_is
      ∙ sym (ap (λ (d : Declared). d.names) a.added)
  names_of_kind (Some Deadhead) a = sym (ap (λ (d : Declared). d.names) a.added)
  names_of_kind (Some Layer) a =
      ap (λ (r : Row). record old.names { layers = old.names.layers ++ field_of r 1 ∷ [] }) a.row_is.row_is
      ∙ sym (ap (λ (d : Declared). d.names) a.added)
  names_of_kind (Some Trip) a =
      ap (λ (r : Row). record old.names { trips = old.names.trips ++ field_of r 1 ∷ [] }) a.row_is.row_is
      ∙ sym (ap (λ (d : Declared). d.names) a.added)

  pub names_after : Adds version old row new → with_row old.names row ≡ new.names
  names_after a = names_of_kind (kind_of (field_of row 0)) (adds_by_kind a)
