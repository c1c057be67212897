use Rattle.std.proofs.Common.{◌≡◌, length, replicate, None}
use Rattle.test_engine.proofs.paths.take_nodes_by_their_keys.Given as goal

abbrev pub invariant-loop : goal.invariant-loop
invariant-loop g l = record {
  size : length l.heap.waiting ≡ 7;
  settled : l.heap.settled ≡ replicate 7 None;
}
