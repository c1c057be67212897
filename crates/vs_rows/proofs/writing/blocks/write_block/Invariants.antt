use Rattle.std.proofs.Common.{◌≡◌, ◌∷◌, ◌++◌, take}
use Rattle.std.specs.Prelude.{flat_map}
use Rattle.vs_reader.specs.Names.{name_of}
use Rattle.vs_rows.proofs.writing.blocks.write_block.Given as goal

-- the trips so far are written
abbrev pub invariant-loop-trip : goal.invariant-loop-trip
invariant-loop-trip l =
    l.text ≡ l.initial.text ++ flat_map (λ t. 44 ∷ name_of l.names.trips t.0) (take l.trip-index l.block.trips.items)
