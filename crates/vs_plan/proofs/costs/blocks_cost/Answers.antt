use Rattle.std.proofs.Common.{List, ap, arith, length, subst, sym, ◌∙◌, pos}
use Rattle.std.proofs.lemmas.Int.{ints}
use Rattle.vs_types.specs.declared.numbers.TripNo.{TripNo}
use Rattle.vs_instance.specs.Blocks.{IsBlock, block_cost}
use Rattle.vs_instance.specs.Plan.{LayerBlock, all_trips, plan_cost}
use Rattle.vs_plan.specs.Blocks.{pair_of}
use Rattle.vs_plan.proofs.PlanTrips.{plan_trips}
use Rattle.vs_plan.proofs.TakenBlocks.{one_more, pair_at, inside_pairs, whole_plan}
use Rattle.vs_plan.proofs.costs.blocks_cost.Goals as goal

pub run_cost-cost-requires-clause-block : goal.run_cost-cost-requires-clause-block
run_cost-cost-requires-clause-block c =
    let bs = c.args.blocks.now in
    let i = c.loop-block.block-index in
    let b = c.block-item.result in
    subst (λ (ts : List TripNo). IsBlock c.args.instance.now b.layer ts) (sym c.deref.ensures.value)
    (subst (λ (x : LayerBlock). IsBlock c.args.instance.now x.0 x.1)
    (pair_at bs i b (pair_of b) c.loop-block-test.true c.block-item.is)
    (c.requires.each_block i (pair_of b) (inside_pairs bs i c.loop-block-test.true)))

pub overflow_add-cost : goal.overflow_add-cost
overflow_add-cost c =
    let more =
    one_more c.args.instance.now c.args.blocks.now c.loop-block.block-index c.block-item.result
    c.loop-block-test.true c.block-item.is in
    let trips = plan_trips _ _ c.requires in
    let same = ap length c.deref.ensures.value in
    omega (
      arith,
      ints,
      more.within,
      trips,
      c.trips.ensures.instance.few_trips,
      same,
      c.run_cost-cost.ensures.value,
      c.run_cost-cost.ensures.limit,
      c.loop-block.invariant.value,
      c.loop-block.invariant.limit,
    )

pub loop-block-preserved : goal.loop-block-preserved
loop-block-preserved c =
    let more =
    one_more c.args.instance.now c.args.blocks.now c.loop-block.block-index c.block-item.result
    c.loop-block-test.true c.block-item.is in
    let trips = plan_trips _ _ c.requires in
    let few = c.trips.ensures.instance.few_trips in
    let same = ap length c.deref.ensures.value in
    let inv = c.loop-block.invariant in
    let found = c.run_cost-cost.ensures in
    let cost = ap (block_cost c.args.instance.now c.block-item.result.layer) c.deref.ensures.value in
    record {
      value = omega (
        arith,
        ints,
        more.cost,
        more.within,
        trips,
        few,
        same,
        cost,
        found.value,
        found.limit,
        inv.value,
        inv.limit,
      );
      limit = omega (
        arith,
        ints,
        more.trips,
        more.within,
        trips,
        few,
        same,
        found.value,
        found.limit,
        inv.value,
        inv.limit,
      );
    }

pub returns-clause-value : goal.returns-clause-value
returns-clause-value c =
    let whole = whole_plan c.args.blocks.now c.loop-block.block-index c.loop-block-test.false in
    c.loop-block.invariant.value ∙ ap (λ (bs : List LayerBlock). pos (plan_cost c.args.instance.now bs)) whole

pub returns-clause-limit : goal.returns-clause-limit
returns-clause-limit c =
    let whole = whole_plan c.args.blocks.now c.loop-block.block-index c.loop-block-test.false in
    let trips = plan_trips _ _ c.requires in
    let few = c.trips.ensures.instance.few_trips in
    let all = ap (λ (bs : List LayerBlock). length (all_trips bs)) whole in
    omega (arith, ints, c.loop-block.invariant.limit, all, trips, few)
