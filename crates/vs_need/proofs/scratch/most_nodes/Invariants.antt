use Rattle.std.proofs.Common.{ℕ, ◌<◌, ◌≤◌}
use Rattle.vs_match.specs.LayerNets.{net_at}
use Rattle.vs_need.proofs.scratch.most_nodes.Given as goal

abbrev pub invariant-loop-net : goal.invariant-loop-net
invariant-loop-net l = (k : ℕ) → k < l.net-index → (net_at l.nets k).graph.nodes ≤ l.most
