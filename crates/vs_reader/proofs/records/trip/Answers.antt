use Rattle.std.proofs.Common.{inl, refl, arith, ◌<◌, ◌≤◌, List, [], ◌∷◌, ◌++◌, length, drop}
use Rattle.std.proofs.lemmas.List.{length-drop}
use Rattle.std.proofs.lemmas.Result.{err_from_is_err_and}
use Rattle.csv.specs.Records.{fields_of}
use Rattle.vs_reader.specs.declared.refused.Why.TheVariants.{TooMany}
use Rattle.vs_reader.specs.Rows.{Row, field_of}
use Rattle.vs_reader.specs.declared.version.Version.{Version}
use Rattle.vs_reader.specs.Versions.{most_in}
use Rattle.vs_reader.specs.Names.{NameLists}
use Rattle.vs_reader.specs.Rules.{Rule, WritesNumber, HasRoom, AreKept, layer_names}
use Rattle.vs_reader.specs.Calls.{call_rules, trip_name_rules}
use Rattle.vs_reader.proofs.places.RecordFields.{long_row}
use Rattle.vs_reader.proofs.declaring.RuleLemmas.{AreKept-append, BreaksFirst-skip, BreaksFirst-stop}
use Rattle.vs_reader.proofs.records.trip.Goals as goal

module _ (version : Version) (names : NameLists) (row : Row) where
  -- the rules of a trip's record that are judged before its layers, in four parts
  abbrev to_first : List Rule
  to_first = trip_name_rules names row ++ call_rules names row 2

  abbrev to_last : List Rule
  to_last = to_first ++ call_rules names row 4

  abbrev to_metres : List Rule
  to_metres = to_last ++ WritesNumber (field_of row 6) ∷ []

  abbrev for_layers : List Rule
  for_layers = layer_names names.layers [] (drop 7 row)

  abbrev for_room : List Rule
  for_room = HasRoom (most_in version) names.trips ∷ []

  kept_to_metres : AreKept (trip_name_rules names row) → AreKept (call_rules names row 2)
      → AreKept (call_rules names row 4)
      → AreKept (WritesNumber (field_of row 6) ∷ [])
      → AreKept to_metres
  kept_to_metres name first last metres =
      let at_first = AreKept-append (trip_name_rules names row) (call_rules names row 2) name first in
      let at_last = AreKept-append to_first (call_rules names row 4) at_first last in
      AreKept-append to_last (WritesNumber (field_of row 6) ∷ []) at_last metres

pub returns-in_err-layers : goal.returns-in_err-layers
returns-in_err-layers c =
    let version = c.args.version in
    let names = c.args.names.now in
    let row = fields_of c.args.row.now in
    let kept =
    kept_to_metres version names row c.in_ok-named_trip.ensures.0
    c.in_ok-first.ensures.0 c.in_ok-last.ensures.0 c.in_ok-metres.ensures.0 in
    let breaks = BreaksFirst-stop (for_layers version names row) (for_room version names row) _
    c.in_err-layers.ensures in
    let p = err_from_is_err_and c.from_residual-in_err-layers.result c.from_residual-in_err-layers.ensures.1 in
    rw (p.1, p.2)
    (BreaksFirst-skip (to_metres version names row) (for_layers version names row ++ for_room version names row)
    _ kept breaks)

pub returns-then-trips-most : goal.returns-then-trips-most
returns-then-trips-most c =
    let version = c.args.version in
    let names = c.args.names.now in
    let row = fields_of c.args.row.now in
    let kept =
    kept_to_metres version names row c.in_ok-named_trip.ensures.0
    c.in_ok-first.ensures.0 c.in_ok-last.ensures.0 c.in_ok-metres.ensures.0 in
    let full : ¬ (length names.trips < most_in version) =
    λ room. absurd (omega (arith, c.trips.ensures.count, c.most.ensures, c.if-trips-most.true)) in
    let breaks =
    BreaksFirst-skip (for_layers version names row) (for_room version names row) TooMany
    c.in_ok-layers.ensures.0 (inl (full, refl)) in
    BreaksFirst-skip (to_metres version names row) (for_layers version names row ++ for_room version names row)
    TooMany kept breaks

pub returns : goal.returns
returns c =
    let version = c.args.version in
    let names = c.args.names.now in
    let row = fields_of c.args.row.now in
    let name = c.in_ok-named_trip.ensures in
    let first = c.in_ok-first.ensures in
    let last = c.in_ok-last.ensures in
    let metres = c.in_ok-metres.ensures in
    let many : 8 ≤ length row = name.0.0 in
    let room : length names.trips < most_in version = omega
    (arith, c.trips.ensures.count, c.most.ensures, c.if-trips-most.false) in
    let behind = AreKept-append (for_layers version names row) (for_room version names row)
    c.in_ok-layers.ensures.0 (room, tt) in (
      AreKept-append (to_metres version names row) (for_layers version names row ++ for_room version names row)
          (kept_to_metres version names row name.0 first.0 last.0 metres.0) behind,
      record {
        from = field_of row 2;
        start = field_of row 3;
        to = field_of row 4;
        end = field_of row 5;
        metres = field_of row 6;
        layers = drop 7 row;
        row_is = long_row row _ c.requires.kind (omega (arith, many));
        from_is = first.1.0;
        start_is = first.1.1;
        to_is = last.1.0;
        end_is = last.1.1;
        metres_are = metres.1;
        some_layer = omega (arith, length-drop 7 row, many);
        layers_are = c.in_ok-layers.ensures.1;
      },
    )
