-- How many prices the tables of a search may have.
use Rattle.std.specs.Prelude.{ℕ, ◌*◌, ◌≤◌, length, max}
use Rattle.vs_instance.specs.Problem.{Problem}
use Rattle.vs_replay.specs.declared.room.TheConstants.{MAX_ENTRIES}

-- with one table for each leaf of this budget, they have few enough entering prices
abbrev pub HasRoom : Problem → ℕ → Type 0
HasRoom p budget = length p.trips * length p.layers * max budget 1 ≤ MAX_ENTRIES
