use Rattle.std.proofs.Common.{◌<◌, length, arith}
use Rattle.vs_tree.proofs.PlacesSeen.{seen-laid, seen-sets_size, seen-size}
use Rattle.vs_tree.proofs.places.Places.sets.Goals as goal

pub lay_cuts-requires-clause-spot : goal.lay_cuts-requires-clause-spot
lay_cuts-requires-clause-spot c =
    let i = c.self.inside in
    let size = seen-size i.permitted.items i.spots i.cuts i.room c.args.self.now c.self.invariant c.self.view_is in
    omega (arith, size, c.requires.spot, c.self.invariant.each, c.deref-cuts.ensures.len, i.cuts.ok.0)

pub lay_cuts-requires-clause-size : goal.lay_cuts-requires-clause-size
lay_cuts-requires-clause-size c =
    let i = c.self.inside in
    let size = seen-size i.permitted.items i.spots i.cuts i.room c.args.self.now c.self.invariant c.self.view_is in
    let sets = seen-sets_size i.permitted.items i.spots i.cuts i.room c.args.self.now c.self.invariant c.self.view_is
    c.args.k (omega (arith, size, c.requires.spot)) in
    omega (arith, sets, c.requires.size, c.fill.ensures.len, c.deref-permitted.ensures.len, i.permitted.ok.0)

pub lay_permitted-requires : goal.lay_permitted-requires
lay_permitted-requires c =
    let i = c.self.inside in
    let size = seen-size i.permitted.items i.spots i.cuts i.room c.args.self.now c.self.invariant c.self.view_is in
    let sets = seen-sets_size i.permitted.items i.spots i.cuts i.room c.args.self.now c.self.invariant c.self.view_is
    c.args.k (omega (arith, size, c.requires.spot)) in
    omega (
      arith,
      sets,
      c.requires.size,
      c.fill.ensures.len,
      c.deref-permitted.ensures.len,
      i.permitted.ok.0,
      c.lay_cuts.auto.sets,
    )

pub returns : goal.returns
returns c =
    let i = c.self.inside in
    let size = seen-size i.permitted.items i.spots i.cuts i.room c.args.self.now c.self.invariant c.self.view_is in
    let inside : c.args.k < length i.spots.items = omega (arith, size, c.requires.spot) in
    let sets = seen-sets_size i.permitted.items i.spots i.cuts i.room c.args.self.now c.self.invariant c.self.view_is
    c.args.k inside in
    seen-laid i.permitted.items i.spots i.cuts i.room c.args.self.now c.self.invariant c.self.view_is c.args.k inside
    c.deref-permitted.result.now c.deref-cuts.result.now c.lay_cuts.new.sets c.lay_permitted.new.sets
    c.deref-permitted.ensures.value c.deref-cuts.ensures.value
    (omega (arith, sets, c.requires.size, c.fill.ensures.len, c.lay_cuts.auto.sets))
    (c.lay_permitted.auto.sets) c.lay_cuts.ensures
    c.lay_permitted.ensures
