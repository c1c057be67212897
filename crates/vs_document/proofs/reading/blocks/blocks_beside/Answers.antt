use Rattle.vs_plan.specs.Blocks.{pairs_of}
use Rattle.vs_document.proofs.parts.BlockReading.{blocks_read, blocks_without_cost}
use Rattle.vs_document.proofs.reading.blocks.blocks_beside.Goals as goal

pub returns-then-is_none-clause-found : goal.returns-then-is_none-clause-found
returns-then-is_none-clause-found c =
    rw c.new.ensures.items (blocks_without_cost c.args.input.now c.args.at c.args.cost c.if-is_none.ensures
    c.requires.row)

pub returns-clause-found : goal.returns-clause-found
returns-clause-found c =
    blocks_read c.args.input.now c.args.at c.args.cost c.in_ok-blocks.next (pairs_of c.in_ok-blocks.blocks.items)
    c.if-is_none.ensures c.in_ok-blocks.ensures
