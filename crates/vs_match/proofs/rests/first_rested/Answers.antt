use Rattle.std.proofs.Common.{ℕ, ◌<◌, ◌≤◌, List, length, take, length-take, true, false, ltb, rules, arith, ap, ◌≡◌}
use Rattle.std.specs.List.{All}
use Rattle.std.specs.List.Sorted.{IsPartitionPoint}
use Rattle.std.proofs.lemmas.Bool.{ltb-true, ltb-false}
use Rattle.std.proofs.lemmas.List.{get_or-take}
use Rattle.std.proofs.lemmas.List.Sorted.{IsPartitionPoint-from_clause, IsPartitionedBy-ltb}
use Rattle.vs_match.specs.declared.stop_node.StopNode.{StopNode}
use Rattle.vs_match.proofs.matches.Sweeping.{minutes-≤, first_departure, no_departure}
use Rattle.vs_match.proofs.rests.first_rested.Goals as goal

-- what a node past the end would be
abbrev no_stop_node : StopNode
no_stop_node = record { stop = record { 0 = 0 }; minute = 0; node = 0 }

-- the nodes before the place are earlier
all_early : (line : List StopNode) (minute place : ℕ) → place ≤ length line
    → IsPartitionPoint (λ (s : StopNode). ltb s.minute minute ≡ true) (λ (s : StopNode). ltb s.minute minute ≡ false)
    line place
    → All (λ s. s.minute < minute) (take place line)
all_early line minute place bound from j e inside =
    let before : j < place = omega (arith, inside, length-take place line) in
    let at = ap (λ (s : StopNode). s.minute) (get_or-take place line j e before) in
    omega (arith, at, ltb-true _ _ (from.0 j e (omega (arith, before, bound)) before))

pub returns-then-place-line : goal.returns-then-place-line
returns-then-place-line c =
    let line = c.args.line.now in
    let minute = c.args.minute in
    let place = c.partition_point-place.result in
    let from =
    IsPartitionPoint-from_clause
    (λ (s : StopNode). ltb s.minute minute) line place c.partition_point-place.ensures.partitioned
    (IsPartitionedBy-ltb (λ (s : StopNode). s.minute) line minute
    (λ i j d le within. minutes-≤ line c.requires i j d le within)) (λ a r q k. search rules) in
    let within = c.if-place-line.true in
    first_departure line c.requires minute place no_stop_node within
    (all_early line minute place c.partition_point-place.ensures.bound from)
    (ltb-false _ _ (from.1 place no_stop_node (omega arith) within))

pub returns-else-place-line : goal.returns-else-place-line
returns-else-place-line c =
    let line = c.args.line.now in
    let minute = c.args.minute in
    let place = c.partition_point-place.result in
    let from =
    IsPartitionPoint-from_clause
    (λ (s : StopNode). ltb s.minute minute) line place c.partition_point-place.ensures.partitioned
    (IsPartitionedBy-ltb (λ (s : StopNode). s.minute) line minute
    (λ i j d le within. minutes-≤ line c.requires i j d le within)) (λ a r q k. search rules) in
    no_departure line minute place c.if-place-line.false
    (all_early line minute place c.partition_point-place.ensures.bound from)
