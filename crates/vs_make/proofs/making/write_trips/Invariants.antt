use Rattle.std.proofs.Common.{◌≡◌, ◌+◌, ◌*◌, ◌++◌, take}
use Rattle.std.specs.Prelude.{flat_map}
use Rattle.std.specs.List.{range_with_len}
use Rattle.vs_reader.specs.Rows.{line}
use Rattle.vs_make.specs.Generator.{drawn_row, number_at}
use Rattle.vs_make.proofs.making.write_trips.Given as goal

-- the trips so far are written, each with five numbers of the sequence
abbrev pub invariant-loop-i : goal.invariant-loop-i
invariant-loop-i l = record {
  written : l.text ≡ l.initial.text ++ flat_map (λ i. line (drawn_row l.n i)) (take l.i (range_with_len 0 l.n));
  drawn : l.sequence ≡ number_at (l.n + 1) (5 * l.i);
}
