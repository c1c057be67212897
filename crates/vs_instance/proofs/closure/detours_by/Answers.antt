use Rattle.std.proofs.Common.{◌<◌, length, ap, ◌∙◌, sym, arith}
use Rattle.std.specs.declared.option.Option.TheVariants.{None, Some}
use Rattle.vs_instance.specs.Misfits.{first_misfit, triple_misfits}
use Rattle.vs_instance.proofs.deadheads.WayMap.{length-row_of}
use Rattle.vs_instance.proofs.misfits.Firsts.{first_below-step, first_below-found}
use Rattle.vs_instance.proofs.misfits.Detours.{triple-is, misfits_by-none}
use Rattle.vs_instance.proofs.closure.detours_by.Goals as goal

pub returns-in_err-first : goal.returns-in_err-first
returns-in_err-first c =
    c.from_residual.ensures
    ∙ sym (ap first_misfit
    (misfits_by-none c.args.ways.now.stops c.args.k.0 c.args.s.0 c.args.ways.now.given
    (sym c.get.ensures ∙ c.in_err-first.was)))

pub bounds-onward-place : goal.bounds-onward-place
bounds-onward-place c =
    let all = ap length c.row-onward.ensures ∙ length-row_of c.args.ways.now c.args.s.0 in
    omega (arith, all)

pub bounds-direct-place : goal.bounds-direct-place
bounds-direct-place c =
    let all = ap length c.row-direct.ensures ∙ length-row_of c.args.ways.now c.args.k.0 in
    omega (arith, all)

pub returns-in-Some : goal.returns-in-Some
returns-in-Some c =
    let within : c.loop-t.t < c.args.ways.now.stops = omega arith in
    let is = triple-is c.args.ways.now c.args.k.0 c.args.s.0 c.loop-t.t c.get.result c.in_ok-first.first
    c.row-onward.result.now c.row-direct.result.now
    (Some c.in-Some.misfit) c.get.ensures c.in_ok-first.was c.row-onward.ensures c.row-direct.ensures within
    c.in-Some.ensures in
    first_below-found
    (triple_misfits c.args.ways.now.given c.args.k.0 c.args.s.0) c.loop-t.t c.args.ways.now.stops _
    c.loop-t.invariant c.in-Some.misfit within is

pub loop-t-preserved : goal.loop-t-preserved
loop-t-preserved c =
    let within : c.loop-t.t < c.args.ways.now.stops = omega arith in
    let is = triple-is c.args.ways.now c.args.k.0 c.args.s.0 c.loop-t.t c.get.result c.in_ok-first.first
    c.row-onward.result.now c.row-direct.result.now
    None c.get.ensures c.in_ok-first.was c.row-onward.ensures c.row-direct.ensures within c.in_default.ensures in
    first_below-step
    (triple_misfits c.args.ways.now.given c.args.k.0 c.args.s.0) c.loop-t.t c.args.ways.now.stops _
    c.loop-t.invariant within is
