-- What units cost by costs of the arcs.
use Rattle.std.specs.Prelude.{ℕ, List, length, map, slice_index, ℤ, pos, ◌*ℤ◌}
use Rattle.std.specs.List.{range_with_len}
use Rattle.vs_instance.specs.Lagrangian.{total}
use Rattle.vs_path.specs.Residual.{price_at}

-- what the units of arc k cost
abbrev pub worth_on : List ℤ → List ℕ → ℕ → ℤ
worth_on cost units k = price_at cost k *ℤ pos (slice_index units k)

-- what all units cost together
abbrev pub worth_of_units : List ℤ → List ℕ → ℤ
worth_of_units cost units = total (map (worth_on cost units) (range_with_len 0 (length units)))
