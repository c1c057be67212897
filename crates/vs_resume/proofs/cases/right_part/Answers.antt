use Rattle.std.proofs.Common.{◌≡◌, List, [], ◌∷◌, ◌++◌, map, set, ap, ◌∙◌, Vec, Global}
use Rattle.std.specs.Vec.{with_item}
use Rattle.vs_types.specs.declared.layer_set.LayerSet.{LayerSet}
use Rattle.vs_prices.specs.Tree.{right_of, with_set}
use Rattle.vs_resume.proofs.trees.RowWalks.{one_put}
use Rattle.vs_resume.proofs.cases.right_part.Goals as goal

pub returns : goal.returns
returns c =
    let here = c.args.here.now in
    let trip = c.args.trip in
    let left = c.args.left in
    let ahead = c.args.ahead.now.items in
    let right_is : set c.in_ok-right.right.items trip.0 c.minus.result ≡ with_set here trip (right_of here trip left) =
    ap (λ (sets : List LayerSet). set sets trip.0 c.minus.result) c.in_ok-right.ensures.items
    ∙ ap (λ (s : LayerSet). set here trip.0 s) c.minus.ensures.value in
    one_put ahead c.push.new.self.items (with_item c.in_ok-right.right trip.0 c.minus.result)
    c.in_ok-push.ensures.items
    ∙ ap (λ (r : List LayerSet). map (λ (sets : Vec LayerSet Global). sets.items) ahead ++ r ∷ []) right_is
