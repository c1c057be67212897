use Rattle.vs_path.proofs.labelling.Listing.{along-star}
use Rattle.vs_path.proofs.residual.Residual.open_along.Goals as goal

pub returns-in-Forward-clause-along : goal.returns-in-Forward-clause-along
returns-in-Forward-clause-along c =
    along-star c.args.self.now c.args.way c.args.node c.arcs_along.result.now c.arcs_along.ensures.residual
    c.arcs_along.ensures.arcs
