use Rattle.std.proofs.Common.{arith, sym, subst, ap, ◌∙◌}
use Rattle.vs_instance.specs.Firsts.{first}
use Rattle.vs_instance.specs.Plan.{LayerBlock}
use Rattle.vs_instance.proofs.CallerLemmas.{first_from-here, first_from-more, first_from-past}
use Rattle.vs_plan.specs.Blocks.{IsOfInstance, pair_of, pairs_of}
use Rattle.vs_plan.specs.PlanFaults.{block_faults}
use Rattle.vs_plan.proofs.TakenBlocks.{count_pairs, few_blocks, inside_pairs, one_more, pair_at}
use Rattle.vs_plan.proofs.judging.blocks_fault.Goals as goal

pub overflow_cast-b : goal.overflow_cast-b
overflow_cast-b c =
    let few = few_blocks c.args.instance.now c.args.blocks.now c.requires in
    omega (arith, few, c.loop-b-test.true)

pub block_fault-requires-clause-block : goal.block_fault-requires-clause-block
block_fault-requires-clause-block c =
    let bs = c.args.blocks.now in
    let b = c.index-blocks-b.result in
    subst (IsOfInstance c.args.instance.now)
    (pair_at bs c.loop-b.b b (pair_of b) c.loop-b-test.true c.index-blocks-b.is)
    (c.requires.of_instance c.loop-b.b (pair_of b) (inside_pairs bs c.loop-b.b c.loop-b-test.true))

pub block_fault-requires-clause-few : goal.block_fault-requires-clause-few
block_fault-requires-clause-few c =
    let more =
    one_more c.args.instance.now c.args.blocks.now c.loop-b.b c.index-blocks-b.result c.loop-b-test.true
    c.index-blocks-b.is in
    omega (arith, more.within, c.requires.few_trips)

pub returns-in-Some : goal.returns-in-Some
returns-in-Some c =
    let bs = c.args.blocks.now in
    let b = c.index-blocks-b.result in
    let at = pair_at bs c.loop-b.b b (pair_of b) c.loop-b-test.true c.index-blocks-b.is in
    sym (first_from-here (block_faults c.args.instance.now) (pairs_of bs) c.loop-b.b (pair_of b) c.in-Some.fault
    (inside_pairs bs c.loop-b.b c.loop-b-test.true)
    (ap (λ (x : LayerBlock). first (block_faults c.args.instance.now c.loop-b.b x)) at ∙ sym c.block_fault.ensures
    ∙ c.in-Some.is))
    ∙ c.loop-b.invariant

pub loop-b-preserved : goal.loop-b-preserved
loop-b-preserved c =
    let bs = c.args.blocks.now in
    let b = c.index-blocks-b.result in
    let at = pair_at bs c.loop-b.b b (pair_of b) c.loop-b-test.true c.index-blocks-b.is in
    first_from-more (block_faults c.args.instance.now) (pairs_of bs) c.loop-b.b (pair_of b)
    (inside_pairs bs c.loop-b.b c.loop-b-test.true)
    (ap (λ (x : LayerBlock). first (block_faults c.args.instance.now c.loop-b.b x)) at ∙ sym c.block_fault.ensures
    ∙ c.in_default.is)
    ∙ c.loop-b.invariant

pub returns : goal.returns
returns c =
    sym (first_from-past (block_faults c.args.instance.now) (pairs_of c.args.blocks.now) c.loop-b.b
    (omega (arith, count_pairs c.args.blocks.now, c.loop-b-test.false)))
    ∙ c.loop-b.invariant
