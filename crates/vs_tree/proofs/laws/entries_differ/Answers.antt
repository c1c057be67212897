use Rattle.vs_tree.proofs.Entries.{entries_differ}
use Rattle.vs_tree.proofs.laws.entries_differ.Goals as goal

pub returns : goal.returns
returns c = entries_differ
