use Rattle.vs_tree.proofs.trees.Histories.{states_are_trees}
use Rattle.vs_tree.proofs.laws.states_are_trees.Goals as goal

pub returns : goal.returns
returns c = states_are_trees
