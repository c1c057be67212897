use Rattle.std.proofs.Common.{◌<◌, List, length, ap, sym, ◌∙◌, subst, arith}
use Rattle.vs_tree.specs.History.{Place, sets_at}
use Rattle.vs_tree.specs.Search.{Search, state}
use Rattle.vs_tree.proofs.search.Facts.{restriction-at, sets-are}
use Rattle.vs_tree.proofs.search.Inside.{opening_of, parts_of}
use Rattle.vs_tree.proofs.tree.Tree.sets.Goals as goal

pub sets-requires-clause-spot : goal.sets-requires-clause-spot
sets-requires-clause-spot c =
    let size = ap (λ (x : List Place). length x) c.self.invariant.parts.places in
    let inside = subst (λ (t : Search). c.args.k < length (state t).places) (sym c.self.view_is) c.requires.spot in
    omega (arith, size, inside)

pub sets-requires-clause-size : goal.sets-requires-clause-size
sets-requires-clause-size c =
    let i = c.self.inside in
    let size = ap (λ (x : List Place). length x) c.self.invariant.parts.places in
    let inside = subst (λ (t : Search). c.args.k < length (state t).places) (sym c.self.view_is) c.requires.spot in
    let each = restriction-at (opening_of i) (parts_of i) c.self.invariant c.args.k (omega (arith, size, inside)) in
    let trips = ap (λ (t : Search). length t.opening.problem.trips) c.self.view_is in
    omega (arith, c.requires.size, trips, each.each_trip)

pub returns : goal.returns
returns c =
    let i = c.self.inside in
    c.sets.ensures ∙ sym (sets-are (opening_of i) (parts_of i) c.self.invariant c.args.k)
    ∙ ap (λ (t : Search). sets_at (state t) c.args.k) c.self.view_is
