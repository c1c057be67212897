use Rattle.std.proofs.Common.{sym, subst}
use Rattle.vs_instance.specs.Problem.{Problem}
use Rattle.vs_instance.specs.Restriction.{IsRestriction}
use Rattle.vs_prices.specs.Table.{Fits, HoldingTable}
use Rattle.vs_penalty.proofs.ShownRays.{unrated-IsRestriction}
use Rattle.vs_penalty.proofs.ray.seek_ray.Goals as goal

pub unrated_table-requires-clause-restriction : goal.unrated_table-requires-clause-restriction
unrated_table-requires-clause-restriction g c =
    subst (λ (q : Problem). IsRestriction q c.args.sets.now) (sym c.in_ok-unrated.ensures)
    (unrated-IsRestriction c.args.instance.now c.args.sets.now c.requires.restriction)

pub read_as_ray-requires-clause-fits : goal.read_as_ray-requires-clause-fits
read_as_ray-requires-clause-fits g c =
    subst (λ (q : Problem). Fits q c.in_ok-table.table) c.in_ok-unrated.ensures c.in_ok-table.ensures.fits

pub read_as_ray-requires-clause-holds : goal.read_as_ray-requires-clause-holds
read_as_ray-requires-clause-holds g c =
    subst (λ (q : Problem). HoldingTable q c.in_ok-table.table) c.in_ok-unrated.ensures c.in_ok-table.ensures.holds
