use Rattle.std.proofs.Common.{◌≡◌, ◌-◌, ◌+◌, ℕ, ◌++◌, drop, sym, ap, ◌∙◌, subst, arith}
use Rattle.std.proofs.lemmas.List.{get_or_default}
use Rattle.vs_types.specs.declared.numbers.TripNo.{TripNo}
use Rattle.vs_reader.specs.Rows.{line, lines}
use Rattle.vs_reply.specs.Timetable.{rows_behind, run_row, run_rows, trip_at}
use Rattle.vs_reply.proofs.written.RestRows.{all_run, first_run, next_run}
use Rattle.vs_reply.proofs.vehicle_rows.write_runs.Goals as goal

pub loop-place-init : goal.loop-place-init
loop-place-init c =
    let p = c.args.instance.now in
    let names = c.args.names.now in
    let b = c.args.block.now in
    let first : c.index-first.result.now ≡ trip_at b.trips.items 0 =
    c.index-first.ensures
    ∙ get_or_default b.trips.items 0 c.index-first.result.now (record { 0 = 0 }) c.requires.block.some_trip in
    first_run p names c.args.k b.layer c.args.text.now c.write_run.new.text b.trips.items c.requires.block.some_trip
    (c.in_ok-write_run.ensures ∙ ap (λ (i : TripNo). c.args.text.now ++ line (run_row p names c.args.k i)) first)

pub loop-place-preserved : goal.loop-place-preserved
loop-place-preserved c =
    let p = c.args.instance.now in
    let names = c.args.names.now in
    let b = c.args.block.now in
    let trips = b.trips.items in
    let place = c.loop-place.place in
    let same : place ≡ place + 1 - 1 = omega arith in
    subst (λ (n : ℕ). c.write_next.new.text ++ lines (rows_behind p names c.args.k b.layer (trip_at trips n)
    (drop (place + 1) trips)) ≡ c.args.text.now ++ lines (run_rows p names c.args.k b.layer trips)) same
    (sym (next_run p names c.args.k b.layer c.loop-place.text c.write_next.new.text trips place
    (trip_at trips (place - 1)) (omega (arith, c.loop-place-test.true)) c.in_ok-write_next.ensures)
    ∙ c.loop-place.invariant)

pub returns : goal.returns
returns c =
    let p = c.args.instance.now in
    let names = c.args.names.now in
    let b = c.args.block.now in
    sym (all_run p names c.args.k b.layer c.loop-place.text b.trips.items c.loop-place.place
    (trip_at b.trips.items (c.loop-place.place - 1)) (omega (arith, c.loop-place-test.false)))
    ∙ c.loop-place.invariant
