use Rattle.std.proofs.Common.{◌≡◌, ◌*◌, ◌∙◌, ap, refl, replicate, rules}
use Rattle.std.specs.declared.option.Option.TheVariants.{None}
use Rattle.vs_instance.specs.deadheads.WayMap.{way_map}
use Rattle.vs_instance.proofs.deadheads.WayMap.{way_map-none}
use Rattle.vs_instance.proofs.ways.Ways.new.Goals as goal

pub returns : goal.returns
returns c =
    let e : c.in_ok-places.places.items ≡ replicate (c.args.stops * c.args.stops) None =
    c.in_ok-places.ensures.items_if_clones_equal (search rules) in
    (refl, ap (way_map c.args.stops) e ∙ way_map-none c.args.stops (c.args.stops * c.args.stops))
