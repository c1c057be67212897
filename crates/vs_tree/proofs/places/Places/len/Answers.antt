use Rattle.std.proofs.Common.{length, ap, sym, ◌∙◌}
use Rattle.vs_tree.specs.Cuts.{Places, sets_of}
use Rattle.vs_tree.proofs.CutSets.{length-places_of}
use Rattle.vs_tree.proofs.places.Places.len.Goals as goal

pub returns : goal.returns
returns c =
    let i = c.self.inside in
    c.len.ensures ∙ i.spots.ok.0
    ∙ sym (length-places_of i.spots.items (sets_of i.permitted.items i.cuts.items))
    ∙ ap (λ (x : Places). length x.places) c.self.view_is
