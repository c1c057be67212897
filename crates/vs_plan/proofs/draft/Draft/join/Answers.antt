use Rattle.std.proofs.Common.{refl}
use Rattle.vs_plan.proofs.OpenBlocks.{pairs_of-join}
use Rattle.vs_plan.proofs.draft.Draft.join.Goals as goal

pub returns-clause-blocks : goal.returns-clause-blocks
returns-clause-blocks c =
    pairs_of-join c.args.self.now.blocks.items c.args.k c.index_mut.result.now _ c.args.i c.requires
    c.index_mut.ensures.value refl c.in_ok-push.ensures.items
