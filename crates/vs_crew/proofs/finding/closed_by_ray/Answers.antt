use Rattle.std.proofs.Common.{List, Option, subst, IfSome}
use Rattle.vs_types.specs.declared.layer_set.LayerSet.{LayerSet}
use Rattle.vs_prices.specs.declared.table.Table.{Table}
use Rattle.vs_penalty.specs.Rays.{ShowsNoPlan}
use Rattle.vs_crew.proofs.leaves.ShownLeaves.{shown-IsFound}
use Rattle.vs_crew.proofs.finding.closed_by_ray.Goals as goal

pub returns-in-Some : goal.returns-in-Some
returns-in-Some c =
    let p = c.args.instance.now in
    let table = c.in-Some.table in
    let shows = subst (λ (ray : Option Table). IfSome ray (ShowsNoPlan p c.as_slice-sets.result.now)) c.in-Some.is
    c.in_ok-found.ensures in
    shown-IsFound p c.args.task.now table
    (subst (λ (sets : List LayerSet). ShowsNoPlan p sets table) c.as_slice-sets.ensures.value shows)

pub returns-in-None : goal.returns-in-None
returns-in-None c = c.requires.found
