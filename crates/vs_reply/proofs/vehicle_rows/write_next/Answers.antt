use Rattle.std.proofs.Common.{◌≡◌, ◌-◌, ◌<◌, ℕ, ◌++◌, Option, OnOk, sym, ◌∙◌, subst, arith}
use Rattle.std.specs.Prelude.{IfSome}
use Rattle.std.proofs.lemmas.List.{get_or_default}
use Rattle.vs_types.specs.declared.numbers.TripNo.{TripNo}
use Rattle.vs_reader.specs.Rows.{lines}
use Rattle.vs_reply.specs.Timetable.{next_rows, trip_at}
use Rattle.vs_reply.proofs.written.RestRows.{rest_minutes, rested_run}
use Rattle.vs_reply.proofs.vehicle_rows.write_next.Goals as goal

pub write_rest-requires-clause-minutes : goal.write_rest-requires-clause-minutes
write_rest-requires-clause-minutes c =
    subst (λ (o : Option (ℕ × ℕ)). IfSome o (λ t. (t.0 < 6000) × (t.1 < 6000))) (sym c.rest_times-times.ensures)
    (rest_minutes c.args.instance.now c.args.block.now.layer c.index-ended.result.now c.index-next.result.now
    c.trips.ensures.instance (omega (arith, c.trips.ensures.count)))

pub returns : goal.returns
returns c =
    let p = c.args.instance.now in
    let names = c.args.names.now in
    let l = c.args.block.now.layer in
    let trips = c.args.block.now.trips.items in
    let i = c.index-ended.result.now in
    let j = c.index-next.result.now in
    let ended : i ≡ trip_at trips (c.args.place - 1) =
    c.index-ended.ensures
    ∙ get_or_default trips (c.args.place - 1) i (record { 0 = 0 }) (omega (arith, c.requires.place)) in
    let next : j ≡ trip_at trips c.args.place =
    c.index-next.ensures ∙ get_or_default trips c.args.place j (record { 0 = 0 }) (omega (arith, c.requires.place)) in
    let Written : TripNo → TripNo → Type 0 = λ a b.
    OnOk c.write_run.result (c.write_run.new.text ≡ c.args.text.now ++ lines (next_rows p names c.args.k l a b)) in
    subst (Written (trip_at trips (c.args.place - 1))) next
    (subst (λ (a : TripNo). Written a j) ended
    (rested_run p names c.args.k l c.args.text.now c.write_rest.new.text c.write_run.new.text i j
    c.rest_times-times.result c.write_run.result c.rest_times-times.ensures c.in_ok-write_rest.ensures
    c.write_run.ensures))
