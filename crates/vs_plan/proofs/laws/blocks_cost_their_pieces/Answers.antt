use Rattle.vs_instance.proofs.CallerLemmas.{blocks_cost_their_pieces as block_pieces}
use Rattle.vs_plan.proofs.laws.blocks_cost_their_pieces.Goals as goal

pub returns : goal.returns
returns c = block_pieces
