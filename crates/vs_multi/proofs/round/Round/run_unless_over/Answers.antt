use Rattle.std.proofs.Common.{◌≡◌, ℕ, ◌<◌, length, get_or, refl, sym, ap, ◌∙◌, subst, arith}
use Rattle.std.proofs.lemmas.List.{with_items_is}
use Rattle.vs_types.specs.declared.numbers.LayerNo.{LayerNo}
use Rattle.vs_match.specs.LayerGraph.{LayerGraph}
use Rattle.vs_match.specs.LayerNets.{net_at}
use Rattle.vs_multi.specs.Rounds.{IsRunIn}
use Rattle.vs_multi.proofs.HaveRun.{HaveRun, all_run, covers_few, none_run, one_more_run}
use Rattle.vs_multi.proofs.LagrangianWorth.{reaches_lagrangian}
use Rattle.vs_multi.proofs.Nets.{lawful_there, net_there}
use Rattle.vs_multi.proofs.round.Round.run_unless_over.Goals as goal

pub loop-l-init : goal.loop-l-init
loop-l-init g c =
    let p = c.args.case.now.instance.now in
    let old = c.args.self.now.covers in
    let new = c.clear.new.covers in
    let kept = with_items_is old new (c.clear.auto.covers ∙ ap length c.deref_mut.ensures.value ∙ sym old.ok.0) in
    let size = ap length kept ∙ c.clear.auto.covers ∙ ap length c.deref_mut.ensures.value ∙ c.requires.round.covers in
    record {
      round = record {
        offers = c.requires.round.offers;
        covers = size;
        fits = c.requires.round.fits;
        holds = c.requires.round.holds;
        costs = c.requires.round.costs;
      };
      run = none_run p c.args.case.now.nets.now c.args.case.now.sets.now c.args.multipliers.now _ size
          (λ i. ap (λ xs. get_or xs i 0) kept ∙ c.clear.ensures i);
    }

pub run_layer-requires-clause-lawful : goal.run_layer-requires-clause-lawful
run_layer-requires-clause-lawful g c =
    lawful_there c.args.case.now.instance.now c.args.case.now.nets.now c.loop-l.l c.index-case-l.result
    c.requires.case.nets (omega (arith, c.loop-l-test.true, c.layers-l-end.ensures.count))

pub run_layer-requires-clause-few : goal.run_layer-requires-clause-few
run_layer-requires-clause-few g c =
    covers_few c.args.case.now.instance.now c.args.case.now.nets.now c.args.case.now.sets.now c.args.multipliers.now
    c.loop-l.l c.loop-l.self
    c.loop-l.invariant.run

pub loop-l-preserved : goal.loop-l-preserved
loop-l-preserved g c =
    let p = c.args.case.now.instance.now in
    let nets = c.args.case.now.nets.now in
    let sets = c.args.case.now.sets.now in
    let multipliers = c.args.multipliers.now in
    let n = c.loop-l.l in
    let l : LayerNo = record { 0 = n } in
    let old = c.loop-l.self in
    let new = c.run_layer.new.self in
    let below : n < length p.layers = omega (arith, c.loop-l-test.true, c.layers-l-end.ensures.count) in
    let inside : n < length nets = omega (arith, below, c.requires.case.nets.each_layer) in
    let net = net_there nets n c.index-case-l.result inside in
    let ran = c.in_ok-run_layer.ensures.ran in
    let run = subst (λ (g : LayerGraph). IsRunIn p g sets multipliers l old new ran.0) net ran.1 in
    record {
      round = c.run_layer.ensures.round;
      run = one_more_run p nets sets multipliers n old new below c.loop-l.invariant.run l refl ran.0 run;
    }

pub returns-clause-lagrangian : goal.returns-clause-lagrangian
returns-clause-lagrangian g c made =
    let p = c.args.case.now.instance.now in
    let nets = c.args.case.now.nets.now in
    let done : c.loop-l.l ≡ length p.layers =
    omega (arith, c.loop-l-test.false, c.layers-l-end.ensures.count, c.loop-l.auto.l-end) in
    let have = c.loop-l.invariant.run in
    reaches_lagrangian p c.args.case.now.sets.now c.args.multipliers.now c.loop-l.self.table
    c.requires.case.nets.instance
    c.requires.case.restriction c.requires.multipliers.each_trip c.loop-l.invariant.round.costs
    (λ l within. let at = have.least l (omega (arith, within, done)) in (net_at nets l.0, at.0, at.2, at.3))

pub returns-clause-ran : goal.returns-clause-ran
returns-clause-ran g c made =
    let p = c.args.case.now.instance.now in
    let nets = c.args.case.now.nets.now in
    let sets = c.args.case.now.sets.now in
    let multipliers = c.args.multipliers.now in
    let done : c.loop-l.l ≡ length p.layers =
    omega (arith, c.loop-l-test.false, c.layers-l-end.ensures.count, c.loop-l.auto.l-end) in
    all_run p nets sets multipliers c.loop-l.self
    (subst (λ (n : ℕ). HaveRun p nets sets multipliers n c.loop-l.self) done c.loop-l.invariant.run)

pub returns-clause-few : goal.returns-clause-few
returns-clause-few g c made i =
    let few =
    covers_few c.args.case.now.instance.now c.args.case.now.nets.now c.args.case.now.sets.now c.args.multipliers.now
    c.loop-l.l c.loop-l.self
    c.loop-l.invariant.run i in
    omega (
      arith,
      few,
      c.loop-l-test.false,
      c.layers-l-end.ensures.count,
      c.loop-l.auto.l-end,
      c.requires.case.nets.instance.few_layers,
    )
