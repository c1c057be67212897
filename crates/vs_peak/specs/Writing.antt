-- What is added to a text that claims peaks.
use Rattle.std.specs.Prelude.{◌≡◌, ℕ, List, ◌++◌, map, slice_index_or}
use Rattle.vs_types.specs.declared.numbers.LayerNo.{LayerNo}
use Rattle.vs_types.specs.declared.numbers.TripNo.{TripNo}
use Rattle.vs_instance.specs.Problem.{Problem}
use Rattle.vs_plan.specs.declared.block.Block.{Block}
use Rattle.vs_reader.specs.Rows.{line, lines}
use Rattle.vs_reader.specs.Names.{NameLists}
use Rattle.vs_rows.specs.DocumentRows.{BlockRow}
use Rattle.vs_peakcheck.specs.Counting.{numbered, permitted_trips}
use Rattle.vs_peakcheck.specs.PeakRows.{PartRow, PeakRow, written_peak}

-- a row, and some rows
abbrev pub AddsPeakRow : NameLists → PeakRow → List ℕ → List ℕ → Type 0
AddsPeakRow names said old new = new ≡ old ++ line (written_peak names said)

abbrev pub AddsPeakRows : NameLists → List PeakRow → List ℕ → List ℕ → Type 0
AddsPeakRows names said old new = new ≡ old ++ lines (map (written_peak names) said)

-- the trips that layer l may run, in order
abbrev pub AreTripsOf : Problem → ℕ → List TripNo → Type 0
AreTripsOf p l trips = trips ≡ map numbered (permitted_trips p l)

-- a block in the numbers of these trips as one of layer l, and some such blocks
abbrev pub own_row : LayerNo → List TripNo → Block → PeakRow
own_row l trips b = PartRow (BlockRow (l, map (λ k. slice_index_or trips k.0 k) b.trips.items))

abbrev pub own_rows : LayerNo → List TripNo → List Block → List PeakRow
own_rows l trips blocks = map (own_row l trips) blocks
