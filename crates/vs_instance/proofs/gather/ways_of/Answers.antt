use Rattle.std.proofs.Common.{◌≡◌, ◌<◌, List, length, get_or, sym, ap, ◌∙◌, arith}
use Rattle.std.specs.FinMap as map
use Rattle.std.specs.declared.option.Option.TheVariants.{None, Some}
use Rattle.vs_instance.specs.declared.parts.Deadhead.{Deadhead}
use Rattle.vs_instance.specs.declared.way.Way.{Way}
use Rattle.vs_instance.specs.Misfits.{deadheads_misfits}
use Rattle.vs_instance.proofs.misfits.Firsts.{first_from-here, first_from-more, first_from-past, none_from_first}
use Rattle.vs_instance.proofs.deadheads.Gathered.{Map, no_deadhead, nth_misfits, judged-is, deadheads_of-more, with_deadhead}
use Rattle.vs_instance.proofs.gather.ways_of.Goals as goal

pub returns-in-Some-clause-misfit : goal.returns-in-Some-clause-misfit
returns-in-Some-clause-misfit c =
    let ds : List Deadhead = c.args.deadheads.now in
    let is = judged-is ds c.loop-n.n c.loop-n.ways.given c.get.result c.is_some-twice.result (Some c.in-Some.misfit)
    c.loop-n.invariant.given c.get.ensures c.is_some-twice.ensures c.in-Some.ensures in
    sym c.loop-n.invariant.first
    ∙ first_from-here (nth_misfits ds) ds c.loop-n.n no_deadhead c.in-Some.misfit (omega arith) (sym is)

pub loop-n-preserved : goal.loop-n-preserved
loop-n-preserved c =
    let ds : List Deadhead = c.args.deadheads.now in
    let d : Deadhead = get_or ds c.loop-n.n no_deadhead in
    let within : c.loop-n.n < length ds = omega arith in
    let is = judged-is ds c.loop-n.n c.loop-n.ways.given c.get.result c.is_some-twice.result None
    c.loop-n.invariant.given c.get.ensures c.is_some-twice.ensures c.in_default.ensures in
    let way : c.way_of.result ≡ record { minutes = d.minutes; metres = d.metres } =
    λ i. record { minutes = c.way_of.ensures.minutes i; metres = c.way_of.ensures.metres i } in
    record {
      stops = c.insert.ensures.stops ∙ c.loop-n.invariant.stops;
      given = c.insert.ensures.given
          ∙ ap (λ (w : Way). map.insert c.loop-n.ways.given (d.from.0, d.to.0) w) way
          ∙ ap (λ (m : Map). with_deadhead m d) c.loop-n.invariant.given
          ∙ sym (deadheads_of-more ds c.loop-n.n no_deadhead within);
      first = first_from-more (nth_misfits ds) ds c.loop-n.n no_deadhead within (sym is) ∙ c.loop-n.invariant.first;
    }

pub returns-clause-fit : goal.returns-clause-fit
returns-clause-fit c =
    let ds : List Deadhead = c.args.deadheads.now in
    none_from_first (deadheads_misfits ds)
    (sym c.loop-n.invariant.first ∙ first_from-past (nth_misfits ds) ds c.loop-n.n (omega arith))
