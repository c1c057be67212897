-- The arcs between given nodes.
use Rattle.std.specs.Prelude.{ℕ, ◌+◌, ◌-◌, ◌*◌, pos}
use Rattle.vs_instance.specs.declared.way.Way.{Way}
use Rattle.vs_instance.specs.Problem.{Problem}
use Rattle.vs_instance.specs.Ways.{layer_of}
use Rattle.vs_instance.specs.Pieces.{rated}
use Rattle.vs_match.specs.declared.arc_kind.ArcKind.TheVariants.{Waiting, Deadhead, PullOut, PullIn, RestIn, RestWait, RestOut, Return}
use Rattle.vs_match.specs.declared.arc_kind.LayerArc.{LayerArc}
use Rattle.vs_match.specs.declared.stop_node.StopNode.{StopNode}
use Rattle.vs_match.specs.NetArcs.{at_scale}

abbrev pub waiting_of : Problem → ℕ → StopNode → StopNode → LayerArc
waiting_of p l since until = record {
  from = since.node;
  to = until.node;
  kind = Waiting;
  cost = at_scale ((layer_of p l).per_minute * (until.minute - since.minute));
  room = (layer_of p l).fleet;
}

abbrev pub deadhead_of : Problem → ℕ → Way → StopNode → StopNode → LayerArc
deadhead_of p l w since until = record {
  from = since.node;
  to = until.node;
  kind = Deadhead;
  cost = at_scale (rated p l (until.minute - since.minute) w.metres);
  room = (layer_of p l).fleet;
}

abbrev pub pull_out_of : Problem → ℕ → Way → StopNode → LayerArc
pull_out_of p l w until = record {
  from = 0;
  to = until.node;
  kind = PullOut;
  cost = at_scale ((layer_of p l).fixed + rated p l w.minutes w.metres);
  room = (layer_of p l).fleet;
}

-- into the depot, whose end is the node last
abbrev pub pull_in_of : Problem → ℕ → ℕ → Way → StopNode → LayerArc
pull_in_of p l last w since = record {
  from = since.node;
  to = last;
  kind = PullIn;
  cost = at_scale (rated p l w.minutes w.metres);
  room = (layer_of p l).fleet;
}

-- into the depot, to a node of its line
abbrev pub rest_in_of : Problem → ℕ → Way → StopNode → StopNode → LayerArc
rest_in_of p l w since until = record {
  from = since.node;
  to = until.node;
  kind = RestIn;
  cost = at_scale (rated p l w.minutes w.metres);
  room = (layer_of p l).fleet;
}

-- from a node of the depot line to another
abbrev pub rest_wait_of : Problem → ℕ → StopNode → StopNode → LayerArc
rest_wait_of p l since until = record {
  from = since.node;
  to = until.node;
  kind = RestWait;
  cost = pos 0;
  room = (layer_of p l).fleet;
}

-- from a node of the depot line to a departure
abbrev pub rest_out_of : Problem → ℕ → Way → ℕ → StopNode → LayerArc
rest_out_of p l w since until = record {
  from = since;
  to = until.node;
  kind = RestOut;
  cost = at_scale (rated p l w.minutes w.metres);
  room = (layer_of p l).fleet;
}

abbrev pub return_of : Problem → ℕ → ℕ → LayerArc
return_of p l last = record { from = last; to = 0; kind = Return; cost = pos 0; room = (layer_of p l).fleet }
