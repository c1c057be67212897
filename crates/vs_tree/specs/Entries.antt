-- How a search is seen where workers share it: its opening as a list of numbers, and its steps as entries, each a list
-- of numbers that begins with its worker.
use Rattle.std.specs.Prelude.{◌≡◌, ℕ, List, [], ◌∷◌, ◌++◌}
use base.Stored.{Gv, gnil, gnum, gcons}
use Rattle.vs_tree.specs.Codes.{coded_opening, coded_step}
use Rattle.vs_tree.specs.History.{FullStep, Opening, Took, Split, Closed, Offered, GaveBack}

-- a stored value as a list of numbers: before each number stands 1, and before each pair 2
abbrev pub numbers_of : Gv → List ℕ
numbers_of gnil = 0 ∷ []
numbers_of (gnum n) = 1 ∷ n ∷ []
numbers_of (gcons a b) = 2 ∷ (numbers_of a ++ numbers_of b)

-- the worker that made the step
abbrev pub worker_of : FullStep → ℕ
worker_of (Took worker leaf) = worker
worker_of (Split worker leaf table trip left prices) = worker
worker_of (Closed worker leaf table prices) = worker
worker_of (Offered worker cost number added) = worker
worker_of (GaveBack worker leaf) = worker

-- the entry of a step: its worker, and all that it is made of
abbrev pub entry_of : FullStep → List ℕ
entry_of step = worker_of step ∷ numbers_of (coded_step.code step)

abbrev pub opening_entry : Opening → List ℕ
opening_entry o = numbers_of (coded_opening.code o)

-- the numbers tell apart any two openings, and any two steps
abbrev pub EntriesDiffer : Type 0
EntriesDiffer = ((a b : Opening) → opening_entry a ≡ opening_entry b → a ≡ b)
    × ((a b : FullStep) → entry_of a ≡ entry_of b → a ≡ b)
