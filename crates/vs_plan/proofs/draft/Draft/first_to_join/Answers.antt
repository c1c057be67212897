use Rattle.std.proofs.Common.{below_more, subst}
use Rattle.std.proofs.lemmas.Bool.{false≢true}
use Rattle.vs_instance.specs.Plan.{LayerBlock}
use Rattle.vs_plan.specs.Greedy.{CanJoin}
use Rattle.vs_plan.proofs.OpenBlocks.{block_at-read, read_at}
use Rattle.vs_plan.proofs.draft.Draft.first_to_join.Goals as goal

pub can_join-requires-clause-block : goal.can_join-requires-clause-block
can_join-requires-clause-block c =
    read_at c.args.self.now.blocks.items c.deref-block-items.result.now c.loop-k.k c.block-item.result
    c.deref-block-items.ensures.value
    c.loop-k-test.true c.block-item.is c.args.instance.now c.requires.blocks

pub loop-k-preserved : goal.loop-k-preserved
loop-k-preserved c =
    let at = block_at-read c.args.self.now.blocks.items c.deref-block-items.result.now c.loop-k.k
    c.block-item.result c.deref-block-items.ensures.value
    c.loop-k-test.true c.block-item.is in
    below_more _ _ c.loop-k.invariant (λ can.
    false≢true (c.if-can_join.ensures.1 (subst (λ (b : LayerBlock). CanJoin c.args.instance.now c.args.i.0 b) at can)))
