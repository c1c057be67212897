use Rattle.std.proofs.Common.{◌≡◌, ℕ, ◌≤◌, List, ◌∷◌, ◌++◌, length, sym, ap, ◌∙◌, arith}
use Rattle.std.specs.Prelude.{codes, map, flat_map}
use Rattle.std.proofs.lemmas.List.{append_assoc}
use Rattle.std.proofs.lemmas.Result.{IfOk-equal}
use Rattle.vs_types.specs.declared.numbers.TripNo.{TripNo}
use Rattle.vs_reader.specs.Rows.{Field}
use Rattle.vs_reader.specs.Names.{name_of}
use Rattle.vs_reader.specs.Rows.{more_fields}
use Rattle.vs_rows.proofs.written.WrittenRows.{more_fields-map, wrote_all, ended_row}
use Rattle.vs_rows.proofs.writing.blocks.write_block.Goals as goal

pub returns : goal.returns
returns c =
    let names = c.args.names.now in let block = c.args.block.now in let trips = block.trips.items in
    let begun = c.begin_row.new.self in let layer = name_of names.layers block.layer.0 in
    let name : TripNo → Field = λ t. name_of names.trips t.0 in
    let bytes : TripNo → List ℕ = λ t. 44 ∷ name t in
    let past : length trips ≤ c.loop-trip.trip-index = omega (arith, block.trips.ok.0) in
    let all =
    wrote_all bytes c.field.new.self c.loop-trip.text trips c.loop-trip.trip-index past c.loop-trip.invariant in
    let first : c.field.new.self ≡ begun ++ (44 ∷ layer) =
    c.in_ok-field.ensures ∙ ap (λ f. begun ++ (44 ∷ f)) c.layer.ensures.name in
    let goes : c.loop-trip.text ≡ begun ++ more_fields (layer ∷ map name trips) =
    all ∙ ap (λ text. text ++ flat_map bytes trips) first ∙ append_assoc begun (44 ∷ layer) (flat_map bytes trips)
    ∙ ap (λ rest. begun ++ ((44 ∷ layer) ++ rest)) (sym (more_fields-map name trips)) in
    IfOk-equal c.end_row.result _ _ _ c.end_row.ensures
    (ended_row c.args.text.now begun c.loop-trip.text (codes "block")
    (layer ∷ map name trips) c.in_ok-begin_row.ensures goes)
