use Rattle.std.proofs.Common.{subst, Option, IfSome, Bor}
use Rattle.vs_path.specs.declared.loads.Loads.{Loads}
use Rattle.vs_path.specs.Loads.{AreLoads}
use Rattle.vs_path.proofs.labelling.Listing.{along-loads, along-star}
use Rattle.vs_path.proofs.residual.Residual.loaded_along.Goals as goal

pub returns-in-Some-reaching-clause-along : goal.returns-in-Some-reaching-clause-along
returns-in-Some-reaching-clause-along c =
    let inside = c.self.inside in
    let Loaded : Option (Bor Loads) → Type 0 =
    λ o. IfSome o (λ l. AreLoads inside.net.now inside.units.now l.now) in
    along-loads _ c.args.self.now c.self.view_is c.args.node c.in-Some-reaching.arcs.now c.in-Some.loads.now
    (subst Loaded c.in-Some.is c.self.invariant.1) c.in-Some-reaching.ensures.0 c.self.invariant.0
    c.in-Some-reaching.ensures.1

pub returns-clause-along : goal.returns-clause-along
returns-clause-along c =
    along-star c.args.self.now _ c.args.node c.arcs_along.result.now c.arcs_along.ensures.residual
    c.arcs_along.ensures.arcs
