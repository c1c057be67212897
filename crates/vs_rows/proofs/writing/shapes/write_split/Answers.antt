use Rattle.std.proofs.Common.{◌≡◌, ℕ, ◌∷◌, ◌++◌, ap, ◌∙◌}
use Rattle.std.specs.Prelude.{codes, map}
use Rattle.std.proofs.lemmas.List.{append_assoc}
use Rattle.std.proofs.lemmas.Result.{IfOk-equal}
use Rattle.vs_types.specs.LayerSet.{members}
use Rattle.vs_reader.specs.Rows.{Field, more_fields}
use Rattle.vs_reader.specs.Names.{name_of}
use Rattle.vs_rows.proofs.written.WrittenRows.{ended_row}
use Rattle.vs_rows.proofs.writing.shapes.write_split.Goals as goal

pub returns : goal.returns
returns c =
    let names = c.args.names.now in let left = c.args.left in
    let begun = c.begin_row.new.self in let trip = name_of names.trips c.args.trip.0 in
    let name : ℕ → Field = name_of names.layers in
    let layers = map name (members left) in
    let now = c.write_layer_names.new.text in
    let first : c.field.new.self ≡ begun ++ (44 ∷ trip) =
    c.in_ok-field.ensures ∙ ap (λ f. begun ++ (44 ∷ f)) c.trip.ensures.name in
    let goes : now ≡ begun ++ more_fields (trip ∷ layers) =
    c.in_ok-write_layer_names.ensures ∙ ap (λ text. text ++ more_fields layers) first
    ∙ append_assoc begun (44 ∷ trip) (more_fields layers) in
    IfOk-equal c.end_row.result _ _ _ c.end_row.ensures
    (ended_row c.args.text.now begun now (codes "split") (trip ∷ layers) c.in_ok-begin_row.ensures goes)
