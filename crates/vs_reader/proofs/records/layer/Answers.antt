use Rattle.std.proofs.Common.{◌≡◌, List, ◌∷◌, ◌++◌, [], inr, rules, Contains, ◌∙◌, sym, ap, arith, ◌<◌, length}
use Rattle.std.proofs.lemmas.Result.{err_from_is_err_and}
use Rattle.vs_types.specs.declared.numbers.TheConstants.{MAX_LAYERS}
use Rattle.csv.specs.Records.{fields_of}
use Rattle.vs_reader.specs.declared.refused.Why.{Why}
use Rattle.vs_reader.specs.declared.version.Version.{Version}
use Rattle.vs_reader.specs.Names.{NameLists}
use Rattle.vs_reader.specs.Rows.{Row, field_of}
use Rattle.vs_reader.specs.Versions.{layer_fields}
use Rattle.vs_reader.specs.Rules.{AreKept, BreaksFirst, HasFields, HasRoom, Rule, WritesNumber, known_name, layer_rules, new_name, stay_rules}
use Rattle.vs_reader.proofs.places.RecordFields.{layer_row}
use Rattle.vs_reader.proofs.declaring.RuleLemmas.{AreKept-append, BreaksFirst-skip, BreaksFirst-stop}
use Rattle.vs_reader.proofs.records.layer.Goals as goal

module _ (version : Version) (names : NameLists) (row : Row) where
  -- the rules of a layer's record up to its fleet, and those behind its costs
  abbrev to_fleet : List Rule
  to_fleet = HasFields (layer_fields version (length row)) row ∷ new_name names.layers (field_of row 1)
      ++ known_name names.stops (field_of row 2) ++ WritesNumber (field_of row 3) ∷ []

  abbrev from_stay : List Rule
  from_stay = stay_rules version row ++ HasRoom MAX_LAYERS names.layers ∷ []

  -- the first broken rule of a cost is the first of the record
  broken_fixed : (why : Why) → AreKept to_fleet → BreaksFirst (WritesNumber (field_of row 4) ∷ []) why
      → BreaksFirst (layer_rules version names row) why
  broken_fixed why kept breaks =
      let more = WritesNumber (field_of row 5) ∷ WritesNumber (field_of row 6) ∷ from_stay in
      BreaksFirst-skip to_fleet (WritesNumber (field_of row 4) ∷ more) why kept
      (BreaksFirst-stop (WritesNumber (field_of row 4) ∷ []) more why breaks)

  broken_per_minute : (why : Why) → AreKept to_fleet → AreKept (WritesNumber (field_of row 4) ∷ [])
      → BreaksFirst (WritesNumber (field_of row 5) ∷ []) why → BreaksFirst (layer_rules version names row) why
  broken_per_minute why kept fixed breaks =
      let more = WritesNumber (field_of row 6) ∷ from_stay in
      BreaksFirst-skip to_fleet (WritesNumber (field_of row 4) ∷ WritesNumber (field_of row 5) ∷ more) why kept
      (inr (fixed.0, BreaksFirst-stop (WritesNumber (field_of row 5) ∷ []) more why breaks))

  broken_per_metre : (why : Why) → AreKept to_fleet → AreKept (WritesNumber (field_of row 4) ∷ [])
      → AreKept (WritesNumber (field_of row 5) ∷ []) → BreaksFirst (WritesNumber (field_of row 6) ∷ []) why
      → BreaksFirst (layer_rules version names row) why
  broken_per_metre why kept fixed per_minute breaks =
      BreaksFirst-skip to_fleet
      (WritesNumber (field_of row 4) ∷ WritesNumber (field_of row 5) ∷ WritesNumber (field_of row 6) ∷ from_stay) why kept
      (inr (
        fixed.0,
        inr (per_minute.0, BreaksFirst-stop (WritesNumber (field_of row 6) ∷ []) from_stay why breaks),
      ))

pub returns-in_err-fixed : goal.returns-in_err-fixed
returns-in_err-fixed c =
    let version = c.args.version in
    let names = c.args.names.now in
    let row = fields_of c.args.row.now in
    let count : length row ≡ layer_fields version (length row) =
    sym c.len-fields.ensures ∙ c.if-fields-layer_fields.false ∙ c.layer_fields.ensures
    ∙ ap (λ n. layer_fields version n) c.len-fields.ensures in
    let new : ¬ (Contains names.layers (field_of row 1)) = search rules in
    let depot = c.in_ok-depot.ensures.0 in
    let kept : AreKept (to_fleet version names row) =
    (count, (c.in_ok-name.ensures.0.0, (new, (depot.0, (depot.1.0, (c.in_ok-fleet.ensures.0.0, tt)))))) in
    let p = err_from_is_err_and c.from_residual-in_err-fixed.result c.from_residual-in_err-fixed.ensures.1 in
    rw (p.1, p.2) (broken_fixed version names row _ kept c.in_err-fixed.ensures)

pub returns-in_err-per_minute : goal.returns-in_err-per_minute
returns-in_err-per_minute c =
    let version = c.args.version in
    let names = c.args.names.now in
    let row = fields_of c.args.row.now in
    let count : length row ≡ layer_fields version (length row) =
    sym c.len-fields.ensures ∙ c.if-fields-layer_fields.false ∙ c.layer_fields.ensures
    ∙ ap (λ n. layer_fields version n) c.len-fields.ensures in
    let new : ¬ (Contains names.layers (field_of row 1)) = search rules in
    let depot = c.in_ok-depot.ensures.0 in
    let kept : AreKept (to_fleet version names row) =
    (count, (c.in_ok-name.ensures.0.0, (new, (depot.0, (depot.1.0, (c.in_ok-fleet.ensures.0.0, tt)))))) in
    let p = err_from_is_err_and c.from_residual-in_err-per_minute.result c.from_residual-in_err-per_minute.ensures.1 in
    rw (p.1, p.2) (broken_per_minute version names row _ kept c.in_ok-fixed.ensures.0 c.in_err-per_minute.ensures)

pub returns-in_err-per_metre : goal.returns-in_err-per_metre
returns-in_err-per_metre c =
    let version = c.args.version in
    let names = c.args.names.now in
    let row = fields_of c.args.row.now in
    let count : length row ≡ layer_fields version (length row) =
    sym c.len-fields.ensures ∙ c.if-fields-layer_fields.false ∙ c.layer_fields.ensures
    ∙ ap (λ n. layer_fields version n) c.len-fields.ensures in
    let new : ¬ (Contains names.layers (field_of row 1)) = search rules in
    let depot = c.in_ok-depot.ensures.0 in
    let kept : AreKept (to_fleet version names row) =
    (count, (c.in_ok-name.ensures.0.0, (new, (depot.0, (depot.1.0, (c.in_ok-fleet.ensures.0.0, tt)))))) in
    let p = err_from_is_err_and c.from_residual-in_err-per_metre.result c.from_residual-in_err-per_metre.ensures.1 in
    rw (p.1, p.2) (broken_per_metre version names row _ kept c.in_ok-fixed.ensures.0 c.in_ok-per_minute.ensures.0
    c.in_err-per_metre.ensures)

pub returns : goal.returns
returns c =
    let version = c.args.version in
    let row = fields_of c.args.row.now in
    let count : length row ≡ layer_fields version (length row) =
    sym c.len-fields.ensures ∙ c.if-fields-layer_fields.false ∙ c.layer_fields.ensures
    ∙ ap (λ n. layer_fields version n) c.len-fields.ensures in
    let depot = c.in_ok-depot.ensures in
    let fleet = c.in_ok-fleet.ensures in
    let fixed = c.in_ok-fixed.ensures in
    let per_minute = c.in_ok-per_minute.ensures in
    let per_metre = c.in_ok-per_metre.ensures in
    let stay = c.in_ok-stay.ensures in
    let name = c.in_ok-name.ensures in
    let room : length c.args.names.now.layers < MAX_LAYERS = omega (arith, c.layers.ensures.count, c.if-layers.false) in
    let new : ¬ (Contains c.args.names.now.layers (field_of row 1)) = search rules in
    let rest =
    AreKept-append (stay_rules version row) (HasRoom MAX_LAYERS c.args.names.now.layers ∷ []) stay.0 (room, tt) in (
      (
        count,
        (
          name.0.0,
          (new, (depot.0.0, (depot.0.1.0, (fleet.0.0, (fixed.0.0, (per_minute.0.0, (per_metre.0.0, rest))))))),
        ),
      ),
      record {
        depot = field_of row 2;
        fleet = field_of row 3;
        fixed = field_of row 4;
        per_minute = field_of row 5;
        per_metre = field_of row 6;
        stay = field_of row 7;
        row_is = layer_row version row _ c.requires.kind count;
        depot_is = depot.1;
        fleet_is = fleet.1;
        fixed_is = fixed.1;
        per_minute_is = per_minute.1;
        per_metre_is = per_metre.1;
        stay_is = stay.1;
      },
    )
