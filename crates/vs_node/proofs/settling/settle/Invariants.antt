use Rattle.std.proofs.Common.{◌≡◌, length}
use Rattle.vs_plan.specs.Blocks.{pairs_of}
use Rattle.vs_node.specs.LayersDone.{AreDone}
use Rattle.vs_node.proofs.settling.settle.Given as goal

-- the layers so far are done
abbrev pub invariant-loop-l : goal.invariant-loop-l
invariant-loop-l l = record {
  size : length l.must.items ≡ length l.sets;
  done : AreDone l.instance l.sets l.l l.run.table (pairs_of l.run.blocks.items);
}
