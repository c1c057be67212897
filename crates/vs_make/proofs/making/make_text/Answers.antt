use Rattle.std.proofs.Common.{◌≡◌, List, [], ◌∷◌, ◌++◌, sym, ap, ◌∙◌}
use Rattle.std.specs.Prelude.{map, flat_map}
use Rattle.std.specs.List.{range_with_len}
use Rattle.std.proofs.lemmas.List.{append_assoc, append-nil}
use Rattle.vs_reader.specs.Rows.{Row, line, lines}
use Rattle.vs_reader.specs.Versions.{header}
use Rattle.vs_make.specs.declared.grid.TheConstants.{STOPS, DEPOTS}
use Rattle.vs_make.specs.Generator.{deadheads_from, drawn_row, layer_row, made_version, make_rows, stop_row}
use Rattle.vs_rows.proofs.CallerLemmas.{more_rows}
use Rattle.vs_make.proofs.making.make_text.Goals as goal

pub returns : goal.returns
returns c =
    let n = c.args.n in
    let head : Row = header (made_version n) in
    let stops : List Row = map stop_row (range_with_len 0 STOPS) in
    let deadheads : List Row = flat_map deadheads_from (range_with_len 0 STOPS) in
    let layers : List Row = map (layer_row n) (range_with_len 0 DEPOTS) in
    let trips : List Row = map (drawn_row n) (range_with_len 0 n) in
    let first : c.write_header.new.text ≡ lines (head ∷ []) =
    c.in_ok-write_header.ensures ∙ ap (λ text. text ++ line head) c.new-text.ensures
    ∙ sym (append-nil (line head)) in
    let front : List Row = (head ∷ []) ++ stops in
    let stopped = more_rows _ _ (head ∷ []) stops first c.in_ok-write_stops.ensures in
    let linked = more_rows _ _ front deadheads stopped c.in_ok-write_deadheads.ensures in
    let layered = more_rows _ _ (front ++ deadheads) layers linked c.in_ok-write_layers.ensures in
    let all = more_rows _ _ ((front ++ deadheads) ++ layers) trips layered c.in_ok-write_trips.ensures in
    let order : ((front ++ deadheads) ++ layers) ++ trips ≡ make_rows n =
    append_assoc (front ++ deadheads) layers trips ∙ append_assoc front deadheads (layers ++ trips) in
    c.into_bytes.ensures ∙ all ∙ ap lines order
