use Rattle.std.proofs.Common.{◌≡◌, ◌++◌, take}
use Rattle.std.specs.Prelude.{flat_map}
use Rattle.std.specs.List.{enumerate_from}
use Rattle.vs_plan.specs.Blocks.{pairs_of}
use Rattle.vs_reader.specs.Rows.{lines}
use Rattle.vs_reply.specs.Timetable.{vehicle_rows}
use Rattle.vs_reply.proofs.vehicle_rows.write_timetable.Given as goal

-- the blocks so far are written
abbrev pub invariant-loop-k : goal.invariant-loop-k
invariant-loop-k l = l.text ≡ l.fn.text
    ++ flat_map (λ e. lines (vehicle_rows l.instance l.names e.0 e.1)) (take l.k (enumerate_from 0 (pairs_of l.blocks)))
