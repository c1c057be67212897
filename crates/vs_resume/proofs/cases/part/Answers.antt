use Rattle.std.proofs.Common.{List, [], ◌∷◌, ◌++◌, map, ap, ◌∙◌, append_assoc, Vec, Global}
use Rattle.std.specs.Vec.{with_item}
use Rattle.vs_types.specs.declared.layer_set.LayerSet.{LayerSet}
use Rattle.vs_prices.specs.Tree.{right_of, with_set}
use Rattle.vs_resume.proofs.trees.RowWalks.{one_put}
use Rattle.vs_resume.proofs.cases.part.Goals as goal

pub returns : goal.returns
returns c =
    let here = c.args.here.items in
    let trip = c.args.trip in
    let left = c.args.left in
    let before = map (λ (sets : Vec LayerSet Global). sets.items) c.args.ahead.now.items in
    let right_is = ap (λ (sets : List LayerSet). with_set sets trip (right_of sets trip left)) c.deref.ensures.value in
    one_put c.right_part.new.ahead.items c.push.new.self.items (with_item c.args.here trip.0 left)
    c.in_ok-push.ensures.items
    ∙ ap (λ (sets : List (List LayerSet)). sets ++ with_set here trip left ∷ []) c.in_ok-right_part.ensures
    ∙ ap (λ (r : List LayerSet). (before ++ r ∷ []) ++ with_set here trip left ∷ []) right_is
    ∙ append_assoc before (with_set here trip (right_of here trip left) ∷ []) (with_set here trip left ∷ [])
