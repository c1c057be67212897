use Rattle.vs_penalty.proofs.ShownRays.{read-fits, read-shows}
use Rattle.vs_penalty.proofs.ray.read_as_ray.Goals as goal

pub worth-requires-clause-fits : goal.worth-requires-clause-fits
worth-requires-clause-fits c = read-fits c.args.instance.now c.args.table c.requires.fits

pub returns-in-NoPlan : goal.returns-in-NoPlan
returns-in-NoPlan c =
    read-shows c.args.instance.now c.args.sets.now c.args.table c.requires.fits c.requires.holds
    c.in-NoPlan.ensures.worth
