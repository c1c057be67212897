use Rattle.std.proofs.Common.{ltb, leb, rules, arith}
use Rattle.std.proofs.lemmas.List.Sorted.{IsPartitionPoint-from_clause, IsPartitionedBy-ltb, IsPartitionedBy-leb}
use Rattle.vs_match.specs.declared.stop_node.StopNode.{StopNode}
use Rattle.vs_match.proofs.events.AtStop.{stops_rise, start-≤, same_stop_nodes, rising, few}
use Rattle.vs_match.proofs.stop_node.at_stop.Goals as goal

-- what a node past the end would be
abbrev no_stop_node : StopNode
no_stop_node = record { stop = record { 0 = 0 }; minute = 0; node = 0 }

pub slice_bounds-result-count : goal.slice_bounds-result-count
slice_bounds-result-count c =
    let stop_nodes = c.args.stop_nodes.now in
    let stop = c.args.stop in
    let start = c.partition_point-start.result in
    let end = c.partition_point-end.result in
    let rise = stops_rise stop_nodes c.requires in
    let from =
    IsPartitionPoint-from_clause
    (λ (s : StopNode). ltb s.stop.0 stop.0) stop_nodes start c.partition_point-start.ensures.partitioned
    (IsPartitionedBy-ltb (λ (s : StopNode). s.stop.0) stop_nodes stop.0 rise) (λ a r q k. search rules) in
    let to = IsPartitionPoint-from_clause
    (λ (s : StopNode). leb s.stop.0 stop.0) stop_nodes end c.partition_point-end.ensures.partitioned
    (IsPartitionedBy-leb (λ (s : StopNode). s.stop.0) stop_nodes stop.0 rise) (λ a r q k. search rules) in
    let bound = c.partition_point-start.ensures.bound in
    let bound' = c.partition_point-end.ensures.bound in
    start-≤ stop_nodes c.requires stop start end from to bound bound' no_stop_node

pub slice_bounds-result-start : goal.slice_bounds-result-start
slice_bounds-result-start c =
    let stop_nodes = c.args.stop_nodes.now in
    let stop = c.args.stop in
    let start = c.partition_point-start.result in
    let end = c.partition_point-end.result in
    let rise = stops_rise stop_nodes c.requires in
    let from =
    IsPartitionPoint-from_clause
    (λ (s : StopNode). ltb s.stop.0 stop.0) stop_nodes start c.partition_point-start.ensures.partitioned
    (IsPartitionedBy-ltb (λ (s : StopNode). s.stop.0) stop_nodes stop.0 rise) (λ a r q k. search rules) in
    let to = IsPartitionPoint-from_clause
    (λ (s : StopNode). leb s.stop.0 stop.0) stop_nodes end c.partition_point-end.ensures.partitioned
    (IsPartitionedBy-leb (λ (s : StopNode). s.stop.0) stop_nodes stop.0 rise) (λ a r q k. search rules) in
    let bound = c.partition_point-start.ensures.bound in
    let bound' = c.partition_point-end.ensures.bound in
    omega (arith, bound', start-≤ stop_nodes c.requires stop start end from to bound bound' no_stop_node)

pub returns-clause-same : goal.returns-clause-same
returns-clause-same c =
    let stop_nodes = c.args.stop_nodes.now in
    let stop = c.args.stop in
    let start = c.partition_point-start.result in
    let end = c.partition_point-end.result in
    let rise = stops_rise stop_nodes c.requires in
    let from =
    IsPartitionPoint-from_clause
    (λ (s : StopNode). ltb s.stop.0 stop.0) stop_nodes start c.partition_point-start.ensures.partitioned
    (IsPartitionedBy-ltb (λ (s : StopNode). s.stop.0) stop_nodes stop.0 rise) (λ a r q k. search rules) in
    let to = IsPartitionPoint-from_clause
    (λ (s : StopNode). leb s.stop.0 stop.0) stop_nodes end c.partition_point-end.ensures.partitioned
    (IsPartitionedBy-leb (λ (s : StopNode). s.stop.0) stop_nodes stop.0 rise) (λ a r q k. search rules) in
    let bound = c.partition_point-start.ensures.bound in
    let bound' = c.partition_point-end.ensures.bound in
    same_stop_nodes stop_nodes c.requires stop start end from to bound bound' no_stop_node

pub returns-clause-few : goal.returns-clause-few
returns-clause-few c =
    let stop_nodes = c.args.stop_nodes.now in
    let stop = c.args.stop in
    let start = c.partition_point-start.result in
    let end = c.partition_point-end.result in
    let rise = stops_rise stop_nodes c.requires in
    let from =
    IsPartitionPoint-from_clause
    (λ (s : StopNode). ltb s.stop.0 stop.0) stop_nodes start c.partition_point-start.ensures.partitioned
    (IsPartitionedBy-ltb (λ (s : StopNode). s.stop.0) stop_nodes stop.0 rise) (λ a r q k. search rules) in
    let to = IsPartitionPoint-from_clause
    (λ (s : StopNode). leb s.stop.0 stop.0) stop_nodes end c.partition_point-end.ensures.partitioned
    (IsPartitionedBy-leb (λ (s : StopNode). s.stop.0) stop_nodes stop.0 rise) (λ a r q k. search rules) in
    let bound = c.partition_point-start.ensures.bound in
    let bound' = c.partition_point-end.ensures.bound in
    few stop_nodes c.requires stop start end from to bound bound' no_stop_node

pub returns-clause-rising : goal.returns-clause-rising
returns-clause-rising c =
    let stop_nodes = c.args.stop_nodes.now in
    let stop = c.args.stop in
    let start = c.partition_point-start.result in
    let end = c.partition_point-end.result in
    let rise = stops_rise stop_nodes c.requires in
    let from =
    IsPartitionPoint-from_clause
    (λ (s : StopNode). ltb s.stop.0 stop.0) stop_nodes start c.partition_point-start.ensures.partitioned
    (IsPartitionedBy-ltb (λ (s : StopNode). s.stop.0) stop_nodes stop.0 rise) (λ a r q k. search rules) in
    let to = IsPartitionPoint-from_clause
    (λ (s : StopNode). leb s.stop.0 stop.0) stop_nodes end c.partition_point-end.ensures.partitioned
    (IsPartitionedBy-leb (λ (s : StopNode). s.stop.0) stop_nodes stop.0 rise) (λ a r q k. search rules) in
    let bound = c.partition_point-start.ensures.bound in
    let bound' = c.partition_point-end.ensures.bound in
    rising stop_nodes c.requires stop start end from to bound bound' no_stop_node
