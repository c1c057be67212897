use Rattle.std.proofs.Common.{Bool, length, sym, ap, ◌∙◌, arith}
use Rattle.vs_instance.specs.Firsts.{first, when}
use Rattle.vs_instance.proofs.CallerLemmas.{first_below-step, first_below-found, first_below-past}
use Rattle.vs_prices.specs.declared.broken_at.BrokenAt.TheVariants.{Link}
use Rattle.vs_prices.specs.Breaks.{link_breaks}
use Rattle.vs_prices.proofs.broken_at.broken_after.Goals as goal

pub returns-then-is_link_broken : goal.returns-then-is_link_broken
returns-then-is_link_broken c =
    let at = Link c.args.l c.args.i (record { 0 = c.loop-j.j }) in
    first_below-found (link_breaks c.args.instance.now c.args.table.now c.args.l.0 c.args.i.0) c.loop-j.j
    (length c.args.instance.now.trips) _ c.loop-j.invariant
    at (omega (arith, c.trips-j-end.ensures.count))
    (ap (λ (b : Bool). first (when b at)) (sym c.if-is_link_broken.true ∙ c.is_link_broken.ensures))

pub loop-j-preserved : goal.loop-j-preserved
loop-j-preserved c =
    let at = Link c.args.l c.args.i (record { 0 = c.loop-j.j }) in
    first_below-step (link_breaks c.args.instance.now c.args.table.now c.args.l.0 c.args.i.0) c.loop-j.j
    (length c.args.instance.now.trips) _ c.loop-j.invariant
    (omega (arith, c.trips-j-end.ensures.count))
    (ap (λ (b : Bool). first (when b at)) (sym c.if-is_link_broken.false ∙ c.is_link_broken.ensures))

pub returns : goal.returns
returns c =
    sym (first_below-past (link_breaks c.args.instance.now c.args.table.now c.args.l.0 c.args.i.0) c.loop-j.j
    (length c.args.instance.now.trips)
    (omega (arith, c.trips-j-end.ensures.count, c.loop-j-test.false))) ∙ c.loop-j.invariant
