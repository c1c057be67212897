use Rattle.std.proofs.Common.{◌≡◌, ℕ, ◌+◌, ◌*◌, List, [], ◌∷◌, ◌++◌, refl, sym, ap, ◌∙◌}
use Rattle.std.specs.Prelude.{codes, decimal}
use Rattle.std.proofs.lemmas.List.{append_assoc}
use Rattle.std.proofs.lemmas.Result.{IfOk-equal}
use Rattle.vs_reader.specs.Rows.{Field, more_fields}
use Rattle.vs_rows.specs.Fields.{numbered, time_field}
use Rattle.vs_make.specs.Generator.{distance, end_of, layer_names, stop_name}
use Rattle.vs_rows.proofs.CallerLemmas.{join-cons, one_more_field, some_more_fields, ended_row}
use Rattle.vs_make.proofs.making.write_trip.Goals as goal

pub returns : goal.returns
returns c =
    let d = c.args.drawn in
    let kind : Field = codes "trip" in
    let begun : List ℕ = c.args.text.now ++ kind in
    let left : List Field = numbered (codes "T") c.args.i ∷ stop_name d.from ∷ time_field d.start ∷ [] in
    let metres : ℕ = 3000 * distance d.from d.to in
    let first : c.begin_trip.new.text ≡ begun ++ more_fields left =
    c.in_ok-begin_trip.ensures ∙ ap (λ bytes. c.args.text.now ++ bytes) (join-cons kind left)
    ∙ sym (append_assoc c.args.text.now kind (more_fields left)) in
    let until_stop : List Field = left ++ stop_name d.to ∷ [] in
    let until_end : List Field = until_stop ++ time_field (end_of d) ∷ [] in
    let until_metres : List Field = until_end ++ decimal metres ∷ [] in
    let reached = one_more_field begun _ _ left (stop_name d.to) first c.in_ok-numbered.ensures in
    let ended : c.time.new.self ≡ c.numbered.new.self ++ (44 ∷ time_field (end_of d)) =
    c.in_ok-time.ensures
    ∙ ap (λ n. c.numbered.new.self ++ (44 ∷ time_field (d.start + (6 * n + d.extra)))) c.distance-steps.ensures.steps in
    let timed = one_more_field begun _ _ until_stop (time_field (end_of d)) reached ended in
    let driven : c.number.new.self ≡ c.time.new.self ++ (44 ∷ decimal metres) =
    c.in_ok-number.ensures ∙ ap (λ n. c.time.new.self ++ (44 ∷ decimal (3000 * n))) c.distance-steps.ensures.steps in
    let measured = one_more_field begun _ _ until_end (decimal metres) timed driven in
    let permitted =
    some_more_fields begun _ _ until_metres (layer_names d.layers) measured c.in_ok-write_layer_names.ensures in
    IfOk-equal c.end_row.result _ _ _ c.end_row.ensures
    (ended_row c.args.text.now begun c.write_layer_names.new.text kind
    (until_metres ++ layer_names d.layers) refl permitted)
