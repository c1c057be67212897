use Rattle.std.proofs.Common.{◌≡◌, ◌++◌, take}
use Rattle.std.specs.Prelude.{flat_map}
use Rattle.std.specs.List.{range_with_len}
use Rattle.vs_reader.specs.Rows.{line}
use Rattle.vs_make.specs.declared.grid.TheConstants.{STOPS}
use Rattle.vs_make.specs.Generator.{stop_row}
use Rattle.vs_make.proofs.making.write_stops.Given as goal

-- the stops so far are written
abbrev pub invariant-loop-k : goal.invariant-loop-k
invariant-loop-k l = l.text ≡ l.initial.text ++ flat_map (λ k. line (stop_row k)) (take l.k (range_with_len 0 STOPS))
