-- How large a layer's net is, and how many connections it stands for.
use Rattle.std.specs.Prelude.{ℕ, ◌+◌, ◌<◌, ◌==◌, ◌&&◌, Bool, List, length, is_some, is_none, count_by, sum_by}
use Rattle.std.specs.Int.{bit_at}
use Rattle.std.specs.List.{range_with_len}
use Rattle.vs_layer.specs.declared.arc.TheConstants.{MAX_ARCS}
use Rattle.vs_instance.specs.Problem.{Problem}
use Rattle.vs_instance.specs.Ways.{trip_of}
use Rattle.vs_instance.specs.Pieces.{link_piece}
use Rattle.vs_match.specs.declared.arc_kind.ArcKind.{ArcKind}
use Rattle.vs_match.specs.declared.arc_kind.ArcKind.TheVariants.{Trip, Waiting, Deadhead, PullOut, PullIn, RestIn, RestWait, RestOut, Return}
use Rattle.vs_match.specs.declared.event.Point.{Point}
use Rattle.vs_match.specs.declared.sizes.NetCounts.{NetCounts}
use Rattle.vs_match.specs.NetArcs.{rank}
use Rattle.vs_match.specs.LayerGraph.{LayerGraph}

-- the points at stops, and those of the depot line
abbrev pub stop_points : List Point → ℕ
stop_points points = count_by (λ x. is_some x.stop) points

abbrev pub line_points : List Point → ℕ
line_points points = count_by (λ x. is_none x.stop) points

-- so many nodes that stand for an event, and so many of the depot line, and the arcs of each kind
abbrev pub counts_from : ℕ → ℕ → List ArcKind → NetCounts
counts_from nodes line kinds = record {
  nodes = nodes;
  waiting = count_by (λ kind. rank kind == 1) kinds;
  deadheads = count_by (λ kind. rank kind == 2) kinds;
  pull_outs = count_by (λ kind. rank kind == 3) kinds;
  pull_ins = count_by (λ kind. rank kind == 4) kinds;
  trips = count_by (λ kind. rank kind == 0) kinds;
  line = line;
  rests = count_by (λ kind. rank kind == 5) kinds;
}

abbrev pub counts_of : LayerGraph → NetCounts
counts_of n = counts_from (stop_points n.points) (line_points n.points) n.kinds

-- one arc of this kind more
abbrev pub with_kind : ArcKind → NetCounts → NetCounts
with_kind (Trip i) c = record c { trips = c.trips + 1 }
with_kind Waiting c = record c { waiting = c.waiting + 1 }
with_kind Deadhead c = record c { deadheads = c.deadheads + 1 }
with_kind PullOut c = record c { pull_outs = c.pull_outs + 1 }
with_kind PullIn c = record c { pull_ins = c.pull_ins + 1 }
with_kind RestIn c = record c { rests = c.rests + 1 }
with_kind RestWait c = c
with_kind RestOut c = c
with_kind Return c = c

-- each count can be one more
pub record HasRoom (c : NetCounts) : Type 0 where
  pub trips : c.trips < MAX_ARCS
  pub waiting : c.waiting < MAX_ARCS
  pub deadheads : c.deadheads < MAX_ARCS
  pub pull_outs : c.pull_outs < MAX_ARCS
  pub pull_ins : c.pull_ins < MAX_ARCS
  pub rests : c.rests < MAX_ARCS

-- the trips in number order
abbrev pub numbers : Problem → List ℕ
numbers p = range_with_len 0 (length p.trips)

-- layer l may run both trips, and the first connects to the second
abbrev pub is_connection : Problem → ℕ → ℕ → ℕ → Bool
is_connection p l i j =
    (bit_at (trip_of p i).layers.0 l == 1) && (bit_at (trip_of p j).layers.0 l == 1) && is_some (link_piece p l i j)

-- how many ordered pairs of trips are such
abbrev pub full_count_of : Problem → ℕ → ℕ
full_count_of p l = sum_by (λ i. count_by (is_connection p l i) (numbers p)) (numbers p)
