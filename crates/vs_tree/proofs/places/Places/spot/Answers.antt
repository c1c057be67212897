use Rattle.std.proofs.Common.{◌<◌, length, ap, sym, ◌∙◌, arith}
use Rattle.std.proofs.lemmas.List.{get_or_default}
use Rattle.vs_tree.specs.History.{Place, no_place}
use Rattle.vs_tree.proofs.PlacesSeen.{seen-at, seen-size}
use Rattle.vs_tree.proofs.places.Places.spot.Goals as goal

pub index-requires : goal.index-requires
index-requires c =
    let i = c.self.inside in
    let size = seen-size i.permitted.items i.spots i.cuts i.room c.args.self.now c.self.invariant c.self.view_is in
    omega (arith, size, c.requires, i.spots.ok.0)

pub returns : goal.returns
returns c =
    let i = c.self.inside in
    let size = seen-size i.permitted.items i.spots i.cuts i.room c.args.self.now c.self.invariant c.self.view_is in
    let inside : c.args.k < length i.spots.items = omega (arith, size, c.requires) in
    c.index.ensures ∙ get_or_default i.spots.items c.args.k c.index.result.now no_place.spot inside
    ∙ ap (λ (x : Place). x.spot)
    (sym (seen-at i.permitted.items i.spots i.cuts i.room c.args.self.now c.self.invariant c.self.view_is
    c.args.k inside))
