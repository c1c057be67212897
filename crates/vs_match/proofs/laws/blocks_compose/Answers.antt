use Rattle.vs_match.proofs.composition.Composing.{compose}
use Rattle.vs_match.proofs.laws.blocks_compose.Goals as goal

pub returns : goal.returns
returns c = compose
