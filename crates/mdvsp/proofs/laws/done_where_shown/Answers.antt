use Rattle.mdvsp.proofs.LawBounds.{done_where_shown}
use Rattle.mdvsp.proofs.laws.done_where_shown.Goals as goal

pub returns : goal.returns
returns c = done_where_shown
