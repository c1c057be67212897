use Rattle.std.proofs.Common.{◌≡◌, ◌++◌, take}
use Rattle.std.specs.Prelude.{flat_map}
use Rattle.std.specs.List.{range_with_len}
use Rattle.vs_reader.specs.Rows.{lines}
use Rattle.vs_make.specs.declared.grid.TheConstants.{STOPS}
use Rattle.vs_make.specs.Generator.{deadheads_from}
use Rattle.vs_make.proofs.making.write_deadheads.Given as goal

-- the deadheads from each stop so far are written
abbrev pub invariant-loop-k : goal.invariant-loop-k
invariant-loop-k l =
    l.text ≡ l.initial.text ++ flat_map (λ k. lines (deadheads_from k)) (take l.k (range_with_len 0 STOPS))
