use Rattle.std.proofs.Common.{refl, sym, ◌∙◌}
use Rattle.vs_prices.specs.Breaks.{may_run}
use Rattle.vs_need.proofs.Suspecting.{at_back, at_next, at_none, at_out, dearer_test, out_test}
use Rattle.vs_need.proofs.judging.suspect_at.Goals as goal

pub returns-then-out : goal.returns-then-out
returns-then-out g c =
    let given = c.requires.0 in
    let out = out_test g.p c.args.table.now c.args.l.0 c.args.i.0 c.is_out_dearer-out.result c.deref-outs.result.now
    c.args.scratch.now.outs.items c.args.into.now c.is_out_dearer-out.ensures c.deref-outs.ensures.value
    given.prices.into_is in
    at_out g.p c.args.table.now c.args.l.0 c.args.scratch.now given.known c.args.i.0 c.requires.1
    (may_run g.p c.args.l.0 c.args.i.0) refl (sym c.if-out.true ∙ out)

pub is_dearer-next-requires-clause-prices : goal.is_dearer-next-requires-clause-prices
is_dearer-next-requires-clause-prices g c = let given = c.requires.0 in given.prices.from_prices

pub is_dearer-back-requires-clause-prices : goal.is_dearer-back-requires-clause-prices
is_dearer-back-requires-clause-prices g c = let given = c.requires.0 in given.prices.from_prices

pub returns-then-next : goal.returns-then-next
returns-then-next g c =
    let given = c.requires.0 in
    let out = out_test g.p c.args.table.now c.args.l.0 c.args.i.0 c.is_out_dearer-out.result c.deref-outs.result.now
    c.args.scratch.now.outs.items c.args.into.now c.is_out_dearer-out.ensures c.deref-outs.ensures.value
    given.prices.into_is in
    let next = dearer_test g.p c.args.table.now c.args.l.0 c.args.i.0 c.is_dearer-next.result c.deref-nexts.result.now
    c.args.scratch.now.nexts.items c.args.from.now c.is_dearer-next.ensures c.deref-nexts.ensures.value
    given.prices.from_is in
    at_next g.p c.args.table.now c.args.l.0 c.args.scratch.now given.known c.args.i.0 c.requires.1
    (may_run g.p c.args.l.0 c.args.i.0) refl (sym c.if-out.false ∙ out) (sym c.if-next.true ∙ next)

pub returns-then-back : goal.returns-then-back
returns-then-back g c =
    let given = c.requires.0 in
    let out = out_test g.p c.args.table.now c.args.l.0 c.args.i.0 c.is_out_dearer-out.result c.deref-outs.result.now
    c.args.scratch.now.outs.items c.args.into.now c.is_out_dearer-out.ensures c.deref-outs.ensures.value
    given.prices.into_is in
    let next = dearer_test g.p c.args.table.now c.args.l.0 c.args.i.0 c.is_dearer-next.result c.deref-nexts.result.now
    c.args.scratch.now.nexts.items c.args.from.now c.is_dearer-next.ensures c.deref-nexts.ensures.value
    given.prices.from_is in
    let back = dearer_test g.p c.args.table.now c.args.l.0 c.args.i.0 c.is_dearer-back.result c.deref-ins.result.now
    c.args.scratch.now.ins.items c.args.from.now c.is_dearer-back.ensures c.deref-ins.ensures.value
    given.prices.from_is in
    at_back g.p c.args.table.now c.args.l.0 c.args.scratch.now given.known c.args.i.0 c.requires.1
    (may_run g.p c.args.l.0 c.args.i.0) refl (sym c.if-out.false ∙ out) (sym c.if-next.false ∙ next)
    (sym c.if-back.true ∙ back)

pub returns : goal.returns
returns g c =
    let given = c.requires.0 in
    let out = out_test g.p c.args.table.now c.args.l.0 c.args.i.0 c.is_out_dearer-out.result c.deref-outs.result.now
    c.args.scratch.now.outs.items c.args.into.now c.is_out_dearer-out.ensures c.deref-outs.ensures.value
    given.prices.into_is in
    let next = dearer_test g.p c.args.table.now c.args.l.0 c.args.i.0 c.is_dearer-next.result c.deref-nexts.result.now
    c.args.scratch.now.nexts.items c.args.from.now c.is_dearer-next.ensures c.deref-nexts.ensures.value
    given.prices.from_is in
    let back = dearer_test g.p c.args.table.now c.args.l.0 c.args.i.0 c.is_dearer-back.result c.deref-ins.result.now
    c.args.scratch.now.ins.items c.args.from.now c.is_dearer-back.ensures c.deref-ins.ensures.value
    given.prices.from_is in
    at_none g.p c.args.table.now c.args.l.0 c.args.scratch.now given.known c.args.i.0 c.requires.1
    (may_run g.p c.args.l.0 c.args.i.0) refl (sym c.if-out.false ∙ out) (sym c.if-next.false ∙ next)
    (sym c.if-back.false ∙ back)
