use Rattle.std.proofs.Common.{◌<◌, Bool, length, refl, sym, ap, ◌∙◌, arith}
use Rattle.vs_instance.specs.Firsts.{first, when}
use Rattle.vs_instance.proofs.CallerLemmas.{first_below-step, first_below-found}
use Rattle.vs_prices.specs.declared.broken_at.BrokenAt.TheVariants.{Link}
use Rattle.vs_prices.specs.Breaks.{link_breaks, may_run}
use Rattle.vs_need.proofs.Suspecting.{link_is, link_test}
use Rattle.vs_need.proofs.judging.first_link.Goals as goal

pub returns-then-is_link_dearer : goal.returns-then-is_link_dearer
returns-then-is_link_dearer g c =
    let within : c.loop-j.j < length g.p.trips = omega (arith, c.requires.prices.each_into, c.loop-j-test.true) in
    let at = Link c.args.l c.args.i (record { 0 = c.loop-j.j }) in
    let test = link_test g.p c.args.table.now c.args.l.0 c.args.i.0 c.loop-j.j c.is_link_dearer.result c.args.links.now
    c.args.into.now c.args.from.now c.is_link_dearer.ensures c.requires.prices.into_is c.requires.prices.from_is
    ∙ link_is g.p c.args.table.now c.args.l.0 c.args.i.0 c.args.links.now c.requires.known c.loop-j.j within
    (may_run g.p c.args.l.0 c.loop-j.j) refl in
    first_below-found (link_breaks g.p c.args.table.now c.args.l.0 c.args.i.0) c.loop-j.j (length g.p.trips) _
    c.loop-j.invariant at within (ap (λ (b : Bool). first (when b at)) (sym c.if-is_link_dearer.true ∙ test))

pub loop-j-preserved : goal.loop-j-preserved
loop-j-preserved g c =
    let within : c.loop-j.j < length g.p.trips = omega (arith, c.requires.prices.each_into, c.loop-j-test.true) in
    let at = Link c.args.l c.args.i (record { 0 = c.loop-j.j }) in
    let test = link_test g.p c.args.table.now c.args.l.0 c.args.i.0 c.loop-j.j c.is_link_dearer.result c.args.links.now
    c.args.into.now c.args.from.now c.is_link_dearer.ensures c.requires.prices.into_is c.requires.prices.from_is
    ∙ link_is g.p c.args.table.now c.args.l.0 c.args.i.0 c.args.links.now c.requires.known c.loop-j.j within
    (may_run g.p c.args.l.0 c.loop-j.j) refl in
    first_below-step (link_breaks g.p c.args.table.now c.args.l.0 c.args.i.0) c.loop-j.j (length g.p.trips) _
    c.loop-j.invariant within (ap (λ (b : Bool). first (when b at)) (sym c.if-is_link_dearer.false ∙ test))
