use Rattle.std.proofs.Common.{◌≡◌, get_or, sym, ap, ◌∙◌, inl, inr, arith}
use Rattle.std.specs.declared.cmp.Ordering.TheVariants.{Less, Equal, Greater}
use Rattle.std.proofs.lemmas.Bool.{cases_lt}
use Rattle.vs_match.specs.declared.event.Point.{Point}
use Rattle.vs_match.proofs.order.Orders.{point_cmp, point_cmp-itself, point_same, searchable_points}
use Rattle.vs_match.proofs.events.Places.{place-at}
use Rattle.vs_match.proofs.nodes.node_of.Goals as goal

pub unreachable-requires : goal.unreachable-requires
unreachable-requires c =
    let points = c.args.points.now in
    let e = c.args.point.now in
    let k = c.requires.known.0 in
    let place = c.in-Err.ensures.position (searchable_points points e c.requires.ordered) in
    let own : point_cmp (get_or points k e) e ≡ Equal =
    ap (λ (x : Point). point_cmp x e) c.requires.known.2 ∙ point_cmp-itself e in
    elim (cases_lt k c.in-Err._place) [
      | inl before ↦ let no : Less ≡ Equal = sym (place.0 k e (omega arith) before) ∙ own in cc
      | inr after ↦ let no : Greater ≡ Equal = sym (place.1 k e after c.requires.known.1) ∙ own in cc
    ]

pub returns : goal.returns
returns c =
    let d = c.args.point.now in
    let found = c.in-Ok.ensures.position in
    place-at c.args.points.now c.in-Ok.k c.args.point.now d c.in-Ok.ensures.bound (point_same _ _ (found d))
