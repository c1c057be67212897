use Rattle.std.proofs.Common.{◌≡◌, ◌+◌, ◌≤◌, take}
use Rattle.vs_walk.specs.Tallies.{many_in, none_in}
use Rattle.vs_walk.proofs.tally.Tally.of.Given as goal

-- the trips so far are counted
abbrev pub invariant-loop-layers : goal.invariant-loop-layers
invariant-loop-layers l = record {
  few : l.tally.none + l.tally.many ≤ l.layers-index;
  none : l.tally.none ≡ none_in (take l.layers-index l.runs);
  many : l.tally.many ≡ many_in (take l.layers-index l.runs);
}
