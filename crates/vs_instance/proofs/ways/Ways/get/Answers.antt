-- The place read is the pair's place.
use Rattle.std.proofs.Common.{◌+◌, ◌*◌, ◌<◌, ◌∙◌, sym, ap, length, subst}
use Rattle.std.specs.FinMap as map
use Rattle.std.specs.declared.option.Option.TheVariants.{None}
use Rattle.std.proofs.lemmas.List.{get_or_read}
use Rattle.std.proofs.lemmas.Nat.{mul-add-lt}
use Rattle.vs_instance.specs.deadheads.WayMap.{WayMap}
use Rattle.vs_instance.proofs.deadheads.WayMap.{get-way_map}
use Rattle.vs_instance.proofs.ways.Ways.get.Goals as goal

pub returns : goal.returns
returns c =
    let from : c.args.from.0 < c.self.inside.stops =
    subst (λ (w : WayMap). c.args.from.0 < w.stops) (sym c.self.view_is) c.requires.from in
    let to : c.args.to.0 < c.self.inside.stops =
    subst (λ (w : WayMap). c.args.to.0 < w.stops) (sym c.self.view_is) c.requires.to in
    let inside : c.args.from.0 * c.self.inside.stops + c.args.to.0 < length c.self.inside.places.items =
    rw c.self.invariant.1 (mul-add-lt c.args.from.0 c.self.inside.stops c.args.to.0 c.self.inside.stops from to) in
    get_or_read c.self.inside.places.items _ c.index.result.now inside c.index.ensures None
    ∙ sym (get-way_map c.self.inside.stops c.args.from.0 c.args.to.0 c.self.inside.places.items to)
    ∙ ap (λ (w : WayMap). map.get w.given (c.args.from.0, c.args.to.0)) c.self.view_is
