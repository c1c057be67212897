use Rattle.std.proofs.Common.{◌≡◌, ℕ, ◌≤◌, List, ◌∷◌, ◌++◌, length, get_or, sym, ap, ◌∙◌, arith}
use Rattle.std.specs.Prelude.{codes, map, flat_map}
use Rattle.std.proofs.lemmas.List.{append_assoc}
use Rattle.std.proofs.lemmas.List.Folds.{flat_map-map}
use Rattle.std.proofs.lemmas.Result.{IfOk-equal}
use Rattle.vs_types.specs.declared.numbers.TripNo.{TripNo}
use Rattle.vs_reader.specs.Rows.{Field, more_fields}
use Rattle.vs_reader.specs.Names.{name_of}
use Rattle.vs_rows.proofs.CallerLemmas.{ended_row, more_fields-map, wrote_all}
use Rattle.vs_peak.proofs.writing.write_block.Goals as goal

pub returns : goal.returns
returns c =
    let names = c.args.names.now in
    let trips = c.args.trips.now in
    let places = c.args.block.now.trips.items in
    let own : TripNo → TripNo = λ k. get_or trips k.0 k in
    let name : TripNo → Field = λ t. name_of names.trips t.0 in
    let bytes : TripNo → List ℕ = λ k. 44 ∷ name (own k) in
    let one : TripNo → List ℕ = λ t. 44 ∷ name t in
    let begun = c.begin_row.new.self in
    let layer = name_of names.layers c.args.l.0 in
    let past : length places ≤ c.loop-place.place =
    omega (arith, c.loop-place-test.false, c.len-place-end.ensures, c.args.block.now.trips.ok.0) in
    let all = wrote_all bytes c.field.new.self c.loop-place.text places c.loop-place.place past
    c.loop-place.invariant in
    let first : c.field.new.self ≡ begun ++ (44 ∷ layer) =
    c.in_ok-field.ensures ∙ ap (λ (f : Field). begun ++ (44 ∷ f)) c.layer.ensures.name in
    let rest : flat_map bytes places ≡ more_fields (map name (map own places)) =
    sym (more_fields-map name (map own places) ∙ flat_map-map one own places) in
    let goes : c.loop-place.text ≡ begun ++ more_fields (layer ∷ map name (map own places)) =
    all ∙ ap (λ (text : List ℕ). text ++ flat_map bytes places) first
    ∙ append_assoc begun (44 ∷ layer) (flat_map bytes places)
    ∙ ap (λ (more : List ℕ). begun ++ ((44 ∷ layer) ++ more)) rest in
    IfOk-equal c.end_row.result _ _ _ c.end_row.ensures
    (ended_row c.args.text.now begun c.loop-place.text (codes "block") (layer ∷ map name (map own places))
    c.in_ok-begin_row.ensures goes)
