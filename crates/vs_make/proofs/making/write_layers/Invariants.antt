use Rattle.std.proofs.Common.{◌≡◌, ◌++◌, take}
use Rattle.std.specs.Prelude.{flat_map}
use Rattle.std.specs.List.{range_with_len}
use Rattle.vs_reader.specs.Rows.{line}
use Rattle.vs_make.specs.declared.grid.TheConstants.{DEPOTS}
use Rattle.vs_make.specs.Generator.{layer_row}
use Rattle.vs_make.proofs.making.write_layers.Given as goal

-- the layers so far are written
abbrev pub invariant-loop-l : goal.invariant-loop-l
invariant-loop-l l =
    l.text ≡ l.initial.text ++ flat_map (λ k. line (layer_row l.n k)) (take l.l (range_with_len 0 DEPOTS))
