use Rattle.std.proofs.Common.{◌≡◌, ℕ, ◌+◌, List, [], ◌∷◌, ◌++◌, refl, sym, ap, ◌∙◌}
use Rattle.std.specs.Prelude.{codes, decimal, map}
use Rattle.std.proofs.lemmas.List.{append-nil}
use Rattle.vs_types.specs.LayerSet.{members}
use Rattle.vs_reader.specs.Names.{name_of}
use Rattle.vs_reader.specs.Rows.{Field, line, more_fields}
use Rattle.vs_rows.proofs.CallerLemmas.{ended_row, one_more_field, some_more_fields}
use Rattle.vs_trace.specs.TraceRows.{split_row}
use Rattle.vs_trace.proofs.writing.steps.write_split.Goals as goal

pub returns : goal.returns
returns c =
    let names = c.args.names.now in
    let old = c.args.text.now in
    let kind = codes "split" in
    let layers : List Field = map (name_of names.layers) (members c.args.left) in
    let trip = name_of names.trips c.args.trip.0 in
    let numbers : List Field = decimal (c.args.worker + 1) ∷ decimal (c.args.spot + 1) ∷ [] in
    let begun : List ℕ = old ++ kind in
    let named : c.field.new.self ≡ begun ++ more_fields (numbers ++ trip ∷ []) =
    one_more_field begun c.begin_step.new.text c.field.new.self numbers trip c.in_ok-begin_step.ensures
    (c.in_ok-field.ensures ∙ ap (λ (f : Field). c.begin_step.new.text ++ (44 ∷ f)) c.trip.ensures.name) in
    let goes : c.write_layer_names.new.text ≡ begun ++ more_fields ((numbers ++ trip ∷ []) ++ layers) =
    some_more_fields begun c.field.new.self c.write_layer_names.new.text (numbers ++ trip ∷ []) layers named
    c.in_ok-write_layer_names.ensures in
    let row = line (split_row names c.args.worker c.args.spot c.args.trip (members c.args.left)) in
    c.in_ok-end_row.ensures ∙ ended_row old begun c.write_layer_names.new.text kind ((numbers ++ trip ∷ []) ++ layers)
    refl goes
    ∙ ap (λ (t : List ℕ). old ++ t) (sym (append-nil row))
