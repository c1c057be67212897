use Rattle.std.proofs.Common.{◌≡◌, [], ◌∷◌, ◌++◌, take, cond, eqb}
use Rattle.std.specs.Prelude.{flat_map}
use Rattle.std.specs.List.{range_with_len}
use Rattle.std.specs.Int.{bit_at}
use Rattle.vs_reader.specs.Names.{name_of}
use Rattle.vs_rows.proofs.writing.shapes.write_layer_names.Given as goal

-- the layers so far are written
abbrev pub invariant-loop-l : goal.invariant-loop-l
invariant-loop-l l = l.text ≡ l.initial.text
    ++ flat_map (λ k. cond (eqb (bit_at l.layers.0 k) 1) (44 ∷ name_of l.names.layers k) [])
    (take l.l (range_with_len 0 16))
