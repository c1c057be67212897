-- Histories of a search in which each leaf that was split or closed was worked on.
use Rattle.std.specs.Prelude.{◌≡◌, ℕ, ◌==◌, List, [], ◌∷◌}
use Rattle.vs_prices.specs.declared.table.Table.{Table}
use Rattle.vs_tree.specs.History.{FullStep, Opening, State, Took, Split, Closed, Offered, GaveBack, after, first_state, prices_at, sets_at}
use Rattle.vs_tree.specs.Prices.{Prices, prices_of}
use Rattle.vs_node.specs.WorkedStep.{IsWorked}

-- these prices are the work on a leaf: within its layers they are worth no less than the Lagrangian value at the
-- multipliers that it begins with, at spot 0 the starting ones
abbrev pub AreWorkedPrices : Opening → State → ℕ → Prices → Type 0
AreWorkedPrices o s leaf prices = (old new : Table) → prices_of old ≡ prices_at s leaf → prices_of new ≡ prices
    → IsWorked o.problem (leaf == 0) (sets_at s leaf) old new

abbrev pub IsWorkedStep : Opening → State → FullStep → Type 0
IsWorkedStep o s (Split worker leaf table trip left prices) = AreWorkedPrices o s leaf prices
IsWorkedStep o s (Closed worker leaf table prices) = AreWorkedPrices o s leaf prices
IsWorkedStep o s (Took worker leaf) = Unit {0}
IsWorkedStep o s (Offered worker cost number added) = Unit {0}
IsWorkedStep o s (GaveBack worker leaf) = Unit {0}

-- all steps from the state on are
abbrev pub AreWorkedFrom : Opening → State → List FullStep → Type 0
AreWorkedFrom o s [] = Unit {0}
AreWorkedFrom o s (step ∷ steps) = IsWorkedStep o s step × AreWorkedFrom o (after s step) steps

-- all steps of a history are
abbrev pub AreWorked : Opening → List FullStep → Type 0
AreWorked o steps = AreWorkedFrom o (first_state o) steps
