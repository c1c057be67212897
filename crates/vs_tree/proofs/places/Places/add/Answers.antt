use Rattle.std.proofs.Common.{ℕ, [], ◌∷◌, length, ap, sym, arith, subst, List, length-append}
use Rattle.vs_types.specs.declared.layer_set.LayerSet.{LayerSet}
use Rattle.vs_types.specs.declared.numbers.TripNo.{TripNo}
use Rattle.vs_tree.specs.declared.spot.Cut.{Cut}
use Rattle.vs_tree.specs.declared.spot.Spot.{Spot}
use Rattle.vs_tree.specs.declared.spot.Spot.TheVariants.{Free}
use Rattle.vs_tree.specs.Cuts.{AreCuts, IsCut}
use Rattle.vs_tree.proofs.PlacesSeen.{are_cuts-more, seen-more, seen-room, seen-sets_size, seen-size}
use Rattle.vs_tree.proofs.places.Places.add.Goals as goal

pub unreachable-requires : goal.unreachable-requires
unreachable-requires c =
    let i = c.self.inside in
    let are = c.self.invariant in
    let size = seen-size i.permitted.items i.spots i.cuts i.room c.args.self.now are c.self.view_is in
    let room = seen-room i.permitted.items i.spots i.cuts i.room c.args.self.now are c.self.view_is in
    omega (arith, size, room, are.spots_room, c.requires.room, c.in-Err.ensures.full, i.spots.ok.0)

pub unreachable-requires-in-Err-push : goal.unreachable-requires-in-Err-push
unreachable-requires-in-Err-push c =
    let i = c.self.inside in
    let are = c.self.invariant in
    let size = seen-size i.permitted.items i.spots i.cuts i.room c.args.self.now are c.self.view_is in
    let room = seen-room i.permitted.items i.spots i.cuts i.room c.args.self.now are c.self.view_is in
    omega (arith, size, room, are.cuts_room, are.each, c.requires.room, c.in-Err-push.ensures.full, i.cuts.ok.0)

abbrev cut : ℕ → TripNo → LayerSet → Cut
cut parent trip layers = record { parent = parent; trip = trip; layers = layers }

pub invariant_of-self : goal.invariant_of-self
invariant_of-self c =
    let i = c.self.inside in
    let are = c.self.invariant in
    let size = seen-size i.permitted.items i.spots i.cuts i.room c.args.self.now are c.self.view_is in
    let trips = seen-sets_size i.permitted.items i.spots i.cuts i.room c.args.self.now are c.self.view_is 0
    (omega (arith, size, c.requires.parent)) in
    let is : IsCut (length i.permitted.items) (length i.cuts.items)
    (cut c.args.parent c.args.trip c.args.layers) = record {
      before = omega (arith, size, c.requires.parent, are.each);
      inside = omega (arith, trips, c.requires.trip);
      some = c.requires.some;
    } in
    let spots = ap (λ (x : List Spot). length x) c.in-Ok.ensures.items in
    let cuts = ap (λ (x : List Cut). length x) c.in-Ok-push.ensures.items in
    let one_spot = length-append i.spots.items (Free c.args.table ∷ []) in
    let one_cut = length-append i.cuts.items (cut c.args.parent c.args.trip c.args.layers ∷ []) in
    record {
      each = omega (arith, spots, cuts, one_spot, one_cut, are.each);
      are_cuts = subst (λ (x : List Cut). AreCuts (length i.permitted.items) x) (sym c.in-Ok-push.ensures.items)
          (are_cuts-more (length i.permitted.items) i.cuts.items (cut c.args.parent c.args.trip c.args.layers)
          are.are_cuts is);
      spots_room = omega (arith, are.spots_room, c.in-Ok.ensures.capacity);
      cuts_room = omega (arith, are.cuts_room, c.in-Ok-push.ensures.capacity);
    }

pub returns-clause-places : goal.returns-clause-places
returns-clause-places c =
    let i = c.self.inside in
    let are = c.self.invariant in
    let size = seen-size i.permitted.items i.spots i.cuts i.room c.args.self.now are c.self.view_is in
    seen-more i.permitted.items i.spots i.cuts i.room c.args.self.now are c.self.view_is (Free c.args.table)
    (cut c.args.parent c.args.trip c.args.layers)
    _ _ c.in-Ok.ensures.items c.in-Ok-push.ensures.items
    (omega (arith, size, c.requires.parent))
