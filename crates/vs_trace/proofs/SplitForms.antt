-- The fields of a split.
use Rattle.std.proofs.Common.{◌≡◌, ℕ, ◌+◌, ◌<◌, ◌≤◌, List, [], ◌∷◌, length, get_or, drop, refl, sym, ap, ◌∙◌, arith, codes, decimal}
use Rattle.std.proofs.lemmas.List.{length-drop, length-map}
use Rattle.std.proofs.lemmas.List.Elements.{All-contains, All-from_get_or, Contains-get_or}
use Rattle.vs_types.specs.declared.layer_set.LayerSet.{LayerSet}
use Rattle.vs_types.specs.declared.numbers.TheConstants.{MAX_LAYERS}
use Rattle.vs_types.specs.declared.numbers.TripNo.{TripNo}
use Rattle.vs_types.proofs.CallerLemmas.{members-some}
use Rattle.vs_reader.specs.Names.{NameLists, name_of}
use Rattle.vs_reader.specs.Rows.{Field, Row, field_of}
use Rattle.vs_rows.specs.RowForms.{NameSet}
use Rattle.vs_rows.proofs.CallerLemmas.{some_member}
use Rattle.vs_trace.specs.TraceRows.{IsSplitRow}
use Rattle.vs_trace.specs.Forms.{AreInFields}

five_fields : (row : Row) → 5 ≤ length row
    → row ≡ field_of row 0 ∷ field_of row 1 ∷ field_of row 2 ∷ field_of row 3 ∷ drop 4 row
five_fields [] many = absurd (omega arith)
five_fields (a ∷ []) many = absurd (omega arith)
five_fields (a ∷ b ∷ []) many = absurd (omega arith)
five_fields (a ∷ b ∷ c ∷ []) many = absurd (omega arith)
five_fields (a ∷ b ∷ c ∷ d ∷ rest) many = refl

module _ (names : NameLists) (row : Row) where
  -- a row of some fields that begins as a split, with a worker and a spot, and names a trip and then some layers
  pub split_says : (r : ℕ × ℕ) (trip : TripNo) (left : LayerSet) (field : Field) → 5 ≤ length row
      → field_of row 0 ≡ codes "split" → AreInFields row r → field ≡ field_of row 3
      → field ≡ name_of names.trips trip.0 → trip.0 < length names.trips → NameSet names.layers (drop 4 row) left
      → length names.layers ≤ MAX_LAYERS → IsSplitRow names row r.0 r.1 trip left
  split_says r trip left field many begins numbers is name lt s few =
      let some : 0 < length s.layers =
      omega (arith, many, ap length s.fields_are, length-map s.layers (name_of names.layers), length-drop 4 row) in
      let first = (s.set_is.members (get_or s.layers 0 0)).0 (Contains-get_or s.layers 0 0 some) in
      record {
        numbers = numbers.are_numbers;
        form = record {
          trip_is = lt;
          some_layer = members-some left (get_or s.layers 0 0) (omega (arith, few, s.layers_are 0 0 some)) first;
          layers_are = λ l has. All-contains (λ k. k < length names.layers) s.layers l s.layers_are
              ((s.set_is.members l).1 has);
        };
        layers = s.layers;
        layers_are = s.set_is;
        written = five_fields row many
            ∙ ap (λ (f : Field). f ∷ field_of row 1 ∷ field_of row 2 ∷ field_of row 3 ∷ drop 4 row) begins
            ∙ ap (λ (f : Field). codes "split" ∷ f ∷ field_of row 2 ∷ field_of row 3 ∷ drop 4 row) numbers.worker_field
            ∙ ap (λ (f : Field). codes "split" ∷ decimal (r.0 + 1) ∷ f ∷ field_of row 3 ∷ drop 4 row)
            numbers.spot_field
            ∙ ap (λ (f : Field). codes "split" ∷ decimal (r.0 + 1) ∷ decimal (r.1 + 1) ∷ f ∷ drop 4 row)
            (sym is ∙ name)
            ∙ ap (λ (fs : List Field). codes "split" ∷ decimal (r.0 + 1) ∷ decimal (r.1 + 1)
            ∷ name_of names.trips trip.0 ∷ fs) s.fields_are;
      }

  module _ (worker spot : ℕ) (trip : TripNo) (left : LayerSet) (says : IsSplitRow names row worker spot trip left) where
    pub split_kind : field_of row 0 ≡ codes "split"
    split_kind = ap (λ (r : Row). get_or r 0 []) says.written

    pub split_many : 5 ≤ length row
    split_many =
        let member = some_member left says.form.some_layer in
        let among = (says.layers_are.members member.0).1 member.1 in
        omega (arith, among.1, ap length says.written, length-map says.layers (name_of names.layers))

    pub split_numbers : AreInFields row (worker, spot)
    split_numbers = record {
      are_numbers = says.numbers;
      worker_field = ap (λ (r : Row). get_or r 1 []) says.written;
      spot_field = ap (λ (r : Row). get_or r 2 []) says.written;
    }

    pub split_trip : field_of row 3 ≡ name_of names.trips trip.0
    split_trip = ap (λ (r : Row). get_or r 3 []) says.written

    pub split_names : NameSet names.layers (drop 4 row) left
    split_names = record {
      layers = says.layers;
      fields_are = ap (drop 4) says.written;
      layers_are = All-from_get_or (λ l. l < length names.layers) says.layers 0
          (λ k within. says.form.layers_are _ ((says.layers_are.members _).0 (Contains-get_or says.layers k 0 within)));
      set_is = says.layers_are;
    }
