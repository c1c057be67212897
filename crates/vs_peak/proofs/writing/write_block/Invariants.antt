use Rattle.std.proofs.Common.{◌≡◌, ◌∷◌, ◌++◌, take}
use Rattle.std.specs.Prelude.{flat_map, slice_index_or}
use Rattle.vs_reader.specs.Names.{name_of}
use Rattle.vs_peak.proofs.writing.write_block.Given as goal

-- the trips so far are written
abbrev pub invariant-loop-place : goal.invariant-loop-place
invariant-loop-place l = l.text ≡ l.initial.text
    ++ flat_map (λ k. 44 ∷ name_of l.names.trips (slice_index_or l.trips k.0 k).0) (take l.place l.block.trips.items)
