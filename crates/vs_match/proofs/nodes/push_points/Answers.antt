use Rattle.std.proofs.Common.{◌≡◌, ◌∙◌, ap, subst, [], ◌∷◌, ◌++◌}
use Rattle.vs_match.specs.declared.event.Event.{Event}
use Rattle.vs_match.specs.declared.event.Point.{Point}
use Rattle.vs_match.specs.Events.{arrival, point_of}
use Rattle.vs_match.specs.TripPoints.{IsOfDeparture}
use Rattle.vs_match.specs.Adds.{Adds}
use Rattle.vs_match.proofs.events.PointLists.{adds_trip}
use Rattle.vs_match.proofs.nodes.push_points.Goals as goal

pub returns-clause-adds : goal.returns-clause-adds
returns-clause-adds c =
    let p = c.args.instance.now in
    let l = c.args.l.0 in
    let i = c.args.i.0 in
    let before = c.args.points.now.items in
    let after = c.push_departure.new.points.items in
    let P : Event → Type 0 = λ e. Adds (IsOfDeparture p l e) before after in
    let items : c.push.new.self.items ≡ after ++ point_of (arrival p i) ∷ [] =
    c.in_ok-push.ensures.items ∙ ap (λ (x : Point). after ++ x ∷ []) c.point.ensures
    ∙ ap (λ (e : Event). after ++ point_of e ∷ []) c.event-arrival.ensures in
    rw items
    (adds_trip p l i c.requires.may_run before after
    (subst P c.event-departure.ensures c.in_ok-push_departure.ensures.adds))
