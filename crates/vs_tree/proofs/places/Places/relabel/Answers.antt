use Rattle.std.proofs.Common.{length, ap, ◌∙◌, arith}
use Rattle.vs_tree.specs.Cuts.{Places, sets_of}
use Rattle.vs_tree.specs.History.{with_spot}
use Rattle.vs_tree.proofs.CutSets.{length-places_of, places_of-set}
use Rattle.vs_tree.proofs.places.Places.relabel.Goals as goal

pub index_mut-requires : goal.index_mut-requires
index_mut-requires c =
    let i = c.self.inside in
    let size = length-places_of i.spots.items (sets_of i.permitted.items i.cuts.items) in
    let same = ap (λ (x : Places). length x.places) c.self.view_is in
    omega (arith, size, same, c.requires, i.spots.ok.0)

pub returns-clause-places : goal.returns-clause-places
returns-clause-places c =
    let i = c.self.inside in
    places_of-set i.spots.items (sets_of i.permitted.items i.cuts.items) c.args.k c.args.spot
    ∙ ap (λ (x : Places). with_spot x.places c.args.k c.args.spot) c.self.view_is
