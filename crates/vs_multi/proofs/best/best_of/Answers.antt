use Rattle.std.proofs.Common.{◌≡◌, ℕ, arith, rules, subst, sym}
use Rattle.vs_prices.specs.declared.table.Table.{Table}
use Rattle.vs_multi.specs.Raising.{IsCostTable}
use Rattle.vs_multi.specs.Steps.{AreMoved, rounds_in}
use Rattle.vs_multi.proofs.Better.{IsGood, better_good, better_other}
use Rattle.vs_multi.proofs.Leading.{HaveLed, all_led, first_led, more_led}
use Rattle.vs_multi.proofs.best.best_of.Goals as goal

pub loop-r-init : goal.loop-r-init
loop-r-init c =
    let case = c.args.case.now in
    let ran = c.in_ok-first.ensures in
    let moved =
    subst (λ (step : ℕ). AreMoved step c.run_on.new.self.covers.items c.args.multipliers.now
    c.run_on.new.multipliers) c.step.ensures.value ran.moved in
    let made = c.in_ok-table.ensures in
    let zero = subst (IsCostTable case.instance.now) (sym c.swap.ensures.y_after)
    (record { fits = made.fits; holds = made.holds; costs = made.costs }) in
    record {
      fits = search rules;
      holds = search rules;
      costs = search rules;
      worth = search rules;
      lagrangian = search rules;
      round = record {
        offers = ran.round.offers;
        covers = ran.round.covers;
        fits = zero.fits;
        holds = zero.holds;
        costs = zero.costs;
      };
      led = subst (λ (table : Table). HaveLed case.instance.now case.nets.now case.sets.now c.args.steps
          c.in_ok-most.most c.args.multipliers.now 1 table c.run_on.new.self.covers.items c.run_on.new.multipliers)
          (sym c.swap.ensures.x_after)
          (first_led case.instance.now case.nets.now case.sets.now c.args.steps c.in_ok-most.most
          c.args.multipliers.now c.run_on.new.self.table c.in_ok-first.first _ _ ran.worth ran.ran moved);
      within = search rules;
    }

pub loop-r-preserved : goal.loop-r-preserved
loop-r-preserved c =
    let case = c.args.case.now in
    let p = case.instance.now in
    let sets = case.sets.now in
    let multipliers = c.args.multipliers.now in
    let inv = c.loop-r.invariant in
    let ran = c.in_ok-worth.ensures in
    let kept = c.keep_better-greatest in
    let best = c.loop-r.table in
    let after = c.run_on-in-loop-r.new.self in
    let lawful : IsCostTable p best = record { fits = inv.fits; holds = inv.holds; costs = inv.costs } in
    let good : IsGood p sets multipliers best c.loop-r.greatest =
    record { lawful = lawful; worth_is = inv.worth; lagrangian = inv.lagrangian } in
    let other : IsCostTable p after.table =
    record { fits = ran.round.fits; holds = ran.round.holds; costs = ran.round.costs } in
    let now = better_good p sets multipliers best after.table kept.new.best kept.new.table c.loop-r.greatest
    c.in_ok-worth.worth kept.result ran.worth good other kept.ensures in
    let rest = better_other p sets multipliers best after.table kept.new.best kept.new.table c.loop-r.greatest
    c.in_ok-worth.worth kept.result ran.worth lawful other kept.ensures in
    let moved =
    subst (λ (step : ℕ). AreMoved step after.covers.items c.loop-r.multipliers c.run_on-in-loop-r.new.multipliers)
    c.step-in-loop-r.ensures.value ran.moved in
    record {
      fits = now.lawful.fits;
      holds = now.lawful.holds;
      costs = now.lawful.costs;
      worth = now.worth_is;
      lagrangian = now.lagrangian;
      round = record {
        offers = ran.round.offers;
        covers = ran.round.covers;
        fits = rest.fits;
        holds = rest.holds;
        costs = rest.costs;
      };
      led = more_led p case.nets.now sets c.args.steps c.in_ok-most.most multipliers c.loop-r.r best after.table
          kept.new.best kept.new.table c.loop-r.greatest c.in_ok-worth.worth kept.result inv.worth ran.worth
          kept.ensures _ _ _ _ inv.led ran.ran moved;
      within = ran.within;
    }

pub returns-clause-best : goal.returns-clause-best
returns-clause-best c =
    let case = c.args.case.now in
    let done : c.loop-r.r ≡ rounds_in c.args.steps =
    omega (
      arith,
      c.loop-r-test.false,
      c.rounds-r-end.ensures.value,
      c.rounds-r-end.ensures.some,
      c.loop-r.auto.r-end,
    ) in
    all_led case.instance.now case.nets.now case.sets.now c.args.steps c.in_ok-most.most c.args.multipliers.now
    c.loop-r.table c.loop-r.round.covers.items c.loop-r.multipliers c.in_ok-most.ensures.mean
    (subst (λ (n : ℕ). HaveLed case.instance.now case.nets.now case.sets.now c.args.steps c.in_ok-most.most
    c.args.multipliers.now n c.loop-r.table c.loop-r.round.covers.items c.loop-r.multipliers) done
    c.loop-r.invariant.led)
