use Rattle.std.proofs.Common.{◌<◌, subst, sym}
use Rattle.vs_instance.specs.deadheads.WayMap.{WayMap}
use Rattle.vs_instance.proofs.deadheads.WayMap.{row_of-way_map}
use Rattle.vs_instance.proofs.ways.Ways.row.Goals as goal

pub returns : goal.returns
returns c =
    let from : c.args.from.0 < c.self.inside.stops =
    subst (λ (w : WayMap). c.args.from.0 < w.stops) (sym c.self.view_is) c.requires in
    rw c.deref.ensures.value
    (rw (← c.self.view_is)
    (row_of-way_map c.self.inside.stops c.args.from.0 c.self.inside.places.items c.self.invariant.1 from))
