use Rattle.vs_tree.proofs.sound.Histories.{histories_are_sound}
use Rattle.vs_tree.proofs.laws.histories_are_sound.Goals as goal

pub returns : goal.returns
returns c = histories_are_sound
