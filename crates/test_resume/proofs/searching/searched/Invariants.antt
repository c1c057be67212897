use Rattle.std.proofs.Common.{◌≡◌, ◌+◌, [], length}
use Rattle.vs_tree.specs.Search.{state}
use Rattle.vs_tree.specs.Takes.{IsSized}
use Rattle.test_resume.specs.Alone.{IsBetweenLeaves, begun_alone}
use Rattle.test_resume.proofs.searching.searched.Given as goal

abbrev pub invariant-loop-left : goal.invariant-loop-left
invariant-loop-left l = record {
  opening : l.tree.opening ≡ begun_alone l.instance l.budget;
  between : IsBetweenLeaves l.tree;
  finished : (state l.tree).finished + l.left ≡ l.budget;
  first : l.left ≡ l.budget → l.tree.steps ≡ [];
  sets : length l.task.sets.items ≡ length l.instance.trips;
  table : IsSized l.instance l.task.table;
}

abbrev pub decreases-loop-left : goal.decreases-loop-left
decreases-loop-left l = l.left
