use Rattle.std.proofs.Common.{Bool, cond, [], sym, ap, ◌∙◌}
use Rattle.vs_instance.specs.Firsts.{first}
use Rattle.vs_prices.specs.Breaks.{move_breaks}
use Rattle.vs_prices.proofs.FirstBreaks.{first_at_back, first_at_link, first_at_out, first_nowhere, may_run-is}
use Rattle.vs_prices.proofs.broken_at.broken_at_trip.Goals as goal

pub returns-then-not-has : goal.returns-then-not-has
returns-then-not-has c =
    ap (λ (b : Bool). first (cond b (move_breaks c.args.instance.now c.args.table.now c.args.l.0 c.args.i.0) []))
    (sym c.if-not-has.true
    ∙ may_run-is c.args.instance.now c.args.l.0 c.args.i.0 c.has.result c.trip.result.now c.trip.ensures
    c.has.ensures)

pub returns-then-is_pull_out_broken : goal.returns-then-is_pull_out_broken
returns-then-is_pull_out_broken c =
    let runs =
    sym (may_run-is c.args.instance.now c.args.l.0 c.args.i.0 c.has.result c.trip.result.now c.trip.ensures
    c.has.ensures) ∙ c.if-not-has.false in
    first_at_out c.args.instance.now c.args.table.now c.args.l.0 c.args.i.0 runs
    (sym c.is_pull_out_broken.ensures ∙ c.if-is_pull_out_broken.true)

pub returns-in-Some : goal.returns-in-Some
returns-in-Some c =
    let runs =
    sym (may_run-is c.args.instance.now c.args.l.0 c.args.i.0 c.has.result c.trip.result.now c.trip.ensures
    c.has.ensures) ∙ c.if-not-has.false in
    first_at_link c.args.instance.now c.args.table.now c.args.l.0 c.args.i.0 runs
    (sym c.is_pull_out_broken.ensures ∙ c.if-is_pull_out_broken.false) c.in-Some.at c.in-Some.ensures

pub returns-then-is_pull_in_broken : goal.returns-then-is_pull_in_broken
returns-then-is_pull_in_broken c =
    let runs =
    sym (may_run-is c.args.instance.now c.args.l.0 c.args.i.0 c.has.result c.trip.result.now c.trip.ensures
    c.has.ensures) ∙ c.if-not-has.false in
    first_at_back c.args.instance.now c.args.table.now c.args.l.0 c.args.i.0 runs
    (sym c.is_pull_out_broken.ensures ∙ c.if-is_pull_out_broken.false) c.in_default.ensures
    (sym c.is_pull_in_broken.ensures ∙ c.if-is_pull_in_broken.true)

pub returns : goal.returns
returns c =
    let runs =
    sym (may_run-is c.args.instance.now c.args.l.0 c.args.i.0 c.has.result c.trip.result.now c.trip.ensures
    c.has.ensures) ∙ c.if-not-has.false in
    first_nowhere c.args.instance.now c.args.table.now c.args.l.0 c.args.i.0 runs
    (sym c.is_pull_out_broken.ensures ∙ c.if-is_pull_out_broken.false) c.in_default.ensures
    (sym c.is_pull_in_broken.ensures ∙ c.if-is_pull_in_broken.false)
