-- To write the pair's place is to insert the pair.
use Rattle.std.proofs.Common.{◌+◌, ◌*◌, ◌<◌, ◌∙◌, sym, ap, length, subst}
use Rattle.std.specs.FinMap as map
use Rattle.std.proofs.lemmas.Nat.{mul-add-lt}
use Rattle.vs_instance.specs.deadheads.WayMap.{WayMap}
use Rattle.vs_instance.proofs.deadheads.WayMap.{way_map-set}
use Rattle.vs_instance.proofs.ways.Ways.insert.Goals as goal

pub returns-clause-given : goal.returns-clause-given
returns-clause-given c =
    let from : c.args.from.0 < c.self.inside.stops =
    subst (λ (w : WayMap). c.args.from.0 < w.stops) (sym c.self.view_is) c.requires.from in
    let to : c.args.to.0 < c.self.inside.stops =
    subst (λ (w : WayMap). c.args.to.0 < w.stops) (sym c.self.view_is) c.requires.to in
    let inside : c.args.from.0 * c.self.inside.stops + c.args.to.0 < length c.self.inside.places.items =
    rw c.self.invariant.1 (mul-add-lt c.args.from.0 c.self.inside.stops c.args.to.0 c.self.inside.stops from to) in
    way_map-set c.self.inside.stops c.args.from.0 c.args.to.0 c.self.inside.places.items c.args.way to inside
    ∙ ap (λ (w : WayMap). map.insert w.given (c.args.from.0, c.args.to.0) c.args.way) c.self.view_is
