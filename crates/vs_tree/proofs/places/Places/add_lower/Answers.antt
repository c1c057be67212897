use Rattle.std.proofs.Common.{◌≡◌, ℕ, ◌+◌, List, [], ◌∷◌, ◌++◌, ap, ◌∙◌, length, arith}
use Rattle.vs_tree.specs.declared.spot.Spot.TheVariants.{Inner}
use Rattle.vs_tree.specs.Cuts.{part_at}
use Rattle.vs_tree.specs.History.{Place, with_spot}
use Rattle.vs_tree.proofs.PlacesSeen.{seen-room, seen-size}
use Rattle.vs_tree.proofs.places.Places.add_lower.Goals as goal

pub overflow_cast-lower : goal.overflow_cast-lower
overflow_cast-lower c =
    let i = c.self.inside in
    let room = seen-room i.permitted.items i.spots i.cuts i.room c.args.self.now c.self.invariant c.self.view_is in
    let size = seen-size i.permitted.items i.spots i.cuts i.room c.args.self.now c.self.invariant c.self.view_is in
    omega (arith, room, size, c.requires.room, c.len-lower.ensures, i.spots.ok.0, c.self.ranges.0)

pub overflow_add-lower : goal.overflow_add-lower
overflow_add-lower c =
    let i = c.self.inside in
    let room = seen-room i.permitted.items i.spots i.cuts i.room c.args.self.now c.self.invariant c.self.view_is in
    let size = seen-size i.permitted.items i.spots i.cuts i.room c.args.self.now c.self.invariant c.self.view_is in
    omega (arith, room, size, c.requires.room, c.len-lower.ensures, i.spots.ok.0, c.self.ranges.0)

pub returns-clause-number : goal.returns-clause-number
returns-clause-number c =
    let i = c.self.inside in
    let size = seen-size i.permitted.items i.spots i.cuts i.room c.args.self.now c.self.invariant c.self.view_is in
    omega (arith, size, c.len-lower.ensures, i.spots.ok.0)

pub returns-clause-places : goal.returns-clause-places
returns-clause-places c =
    let i = c.self.inside in
    let size = seen-size i.permitted.items i.spots i.cuts i.room c.args.self.now c.self.invariant c.self.view_is in
    let places = c.args.self.now.places in
    let number : c.len-lower.result ≡ length places = omega (arith, size, c.len-lower.ensures, i.spots.ok.0) in
    c.add.ensures.places
    ∙ ap (λ (x : List Place). x ++ part_at x c.args.k c.args.trip c.args.left c.args.table ∷ [])
    (c.relabel.ensures.places
    ∙ ap (λ (m : ℕ). with_spot places c.args.k (Inner c.args.trip c.args.left m (m + 1))) number)
