use Rattle.std.proofs.Common.{[], take}
use Rattle.std.specs.List.{All}
use Rattle.vs_plan.specs.Blocks.{pairs_of}
use Rattle.vs_plan.specs.Blocks.{IsOfInstance}
use Rattle.vs_plan.specs.Greedy.{AreLeft, Places}
use Rattle.vs_plan.proofs.planning.greedy.Given as goal

abbrev pub invariant-loop-i : goal.invariant-loop-i
invariant-loop-i l = record {
  placed : Places l.instance [] (take l.i-index l.i-items) (pairs_of l.draft.blocks.items);
  read : All (IsOfInstance l.instance) (pairs_of l.draft.blocks.items);
  left : AreLeft l.instance (pairs_of l.draft.blocks.items) l.draft.left.items;
}
