use Rattle.std.proofs.Common.{◌≡◌, ◌++◌, ◌-◌, drop}
use Rattle.vs_reader.specs.Rows.{lines}
use Rattle.vs_reply.specs.Timetable.{rows_behind, run_rows, trip_at}
use Rattle.vs_reply.proofs.vehicle_rows.write_runs.Given as goal

-- what is written, and what the vehicle does behind the trip that was written last, are all that it does
abbrev pub invariant-loop-place : goal.invariant-loop-place
invariant-loop-place l =
    l.text ++ lines (rows_behind l.instance l.names l.k l.block.layer
    (trip_at l.block.trips.items (l.place - 1)) (drop l.place l.block.trips.items))
    ≡ l.fn.text ++ lines (run_rows l.instance l.names l.k l.block.layer l.block.trips.items)
