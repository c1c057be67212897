-- Least paths from node 0 in a net without its return arc.
use Rattle.std.specs.Prelude.{◌≡◌, ◌-◌, length, Option, Some, None, ℤ}
use Rattle.vs_layer.specs.declared.net.Flow.{Flow}
use Rattle.vs_layer.specs.Graph.{Graph}
use Rattle.vs_path.specs.declared.residual.Costs.{Costs}
use Rattle.vs_path.specs.declared.reach.Reach.{Reach}
use Rattle.vs_path.specs.declared.reach.Reach.TheVariants.{Reached, Cut}
use Rattle.vs_path.specs.Residual.{ResidualNet}

-- the return arc, which is the last, isn't used
abbrev pub without_return : Graph → Flow → Costs → ResidualNet
without_return g flow costs = record {
  graph = g;
  units = flow.units.items;
  cost = costs.cost.items;
  room = costs.room.items;
  arcs = length g.arcs - 1;
}

-- the last node is reached where a path to it costs something, else cut off
abbrev pub IsReach : Option ℤ → Reach → Type 0
IsReach cost Reached = (c : ℤ) × (cost ≡ Some c)
IsReach cost Cut = cost ≡ None
