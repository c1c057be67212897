use Rattle.std.proofs.Common.{◌≡◌, ◌++◌, ◌∷◌, [], ap, ◌∙◌, arith}
use Rattle.std.proofs.lemmas.List.{map_push}
use Rattle.vs_plan.specs.Blocks.{pair_of, pairs_of}
use Rattle.vs_rows.proofs.tables.BlockReading.{blocks_done, blocks_more, blocks_none, blocks_to_the_end}
use Rattle.vs_rows.proofs.reading.blocks.read_blocks.Goals as goal

pub loop-row-init : goal.loop-row-init
loop-row-init c = rw c.new-blocks.ensures.items (blocks_none c.args.input.now c.args.at c.requires.row)

pub loop-row-preserved : goal.loop-row-preserved
loop-row-preserved c =
    let pushed : pairs_of c.push.new.self.items ≡ pairs_of c.loop-row.blocks.items ++ pair_of c.in-Some.block ∷ [] =
    ap pairs_of c.in_ok-push.ensures.items ∙ map_push pair_of c.loop-row.blocks.items c.in-Some.block in
    rw pushed
    (blocks_more c.args.input.now c.args.at c.loop-row.row (pairs_of c.loop-row.blocks.items)
    (pair_of c.in-Some.block) c.loop-row.invariant c.requires.input.counts (omega arith)
    (rw c.in-Some.is at c.in_ok-block.ensures.found))

pub returns-in_default : goal.returns-in_default
returns-in_default c =
    blocks_done c.args.input.now c.args.at c.loop-row.row (pairs_of c.loop-row.blocks.items) c.loop-row.invariant
    (rw c.in_default.is at c.in_ok-block.ensures.none)

pub returns : goal.returns
returns c =
    blocks_to_the_end c.args.input.now c.args.at c.loop-row.row _ (pairs_of c.loop-row.blocks.items)
    c.loop-row.invariant (omega (arith, c.loop-row-test.false, c.len.ensures, c.len-row-end.ensures)) c.len.ensures
