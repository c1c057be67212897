-- What a step costs at most in a search by prices.
use Rattle.std.specs.Prelude.{ℕ, ◌/◌, max, nat_abs}
use Rattle.vs_path.specs.declared.residual.TheConstants.{MAX_PATH_COST, USUAL_NODES}

-- the greatest cost of an arc in a net of so many nodes, either way: a path through all of them costs no more than
-- `MAX_PATH_COST`
abbrev pub most_step : ℕ → ℕ
most_step nodes = nat_abs MAX_PATH_COST / max nodes USUAL_NODES
