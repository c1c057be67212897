use Rattle.std.proofs.Common.{◌≡◌, ◌∙◌, List, ap, subst, [], ◌∷◌, ◌++◌}
use Rattle.vs_match.specs.declared.event.Point.{Point}
use Rattle.vs_match.specs.Events.{point_of}
use Rattle.vs_match.specs.TripPoints.{IsLineOf}
use Rattle.vs_match.specs.Adds.{Adds}
use Rattle.vs_match.proofs.events.PointLists.{adds_departure}
use Rattle.vs_match.proofs.nodes.push_departure.Goals as goal

pub returns-clause-adds : goal.returns-clause-adds
returns-clause-adds c =
    let p = c.args.instance.now in
    let l = c.args.l.0 in
    let e = c.args.departure.now in
    let before = c.args.points.now.items in
    let after = c.push_line.new.points.items in
    let items : c.push.new.self.items ≡ before ++ point_of e ∷ [] =
    c.in_ok-push.ensures.items ∙ ap (λ (x : Point). before ++ x ∷ []) c.point.ensures in
    let P : List Point → Type 0 = λ xs. Adds (IsLineOf p l e) xs after in
    adds_departure p l e before after (subst P items c.in_ok-push_line.ensures.adds)
