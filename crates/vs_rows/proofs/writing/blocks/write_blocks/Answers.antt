use Rattle.std.proofs.Common.{◌≡◌, ℕ, ◌<◌, List, ◌++◌, length, get_or, sym, ap, ◌∙◌, subst, arith}
use Rattle.std.specs.Prelude.{map}
use Rattle.std.proofs.lemmas.List.{get_or-map, length-map}
use Rattle.std.proofs.lemmas.List.Folds.{flat_map-map}
use Rattle.vs_instance.specs.Plan.{LayerBlock}
use Rattle.vs_plan.specs.declared.block.Block.{Block}
use Rattle.vs_reader.specs.Rows.{line}
use Rattle.vs_rows.specs.DocumentRows.{BlockRow, IsNamedBlock, written_row}
use Rattle.vs_rows.proofs.written.WrittenParts.{written-map}
use Rattle.vs_rows.proofs.written.WrittenRows.{wrote_all}
use Rattle.vs_rows.proofs.writing.blocks.write_blocks.Goals as goal

-- a block as a layer and its trips
abbrev view : Block → LayerBlock
view b = (b.layer, b.trips.items)

pub write_block-requires : goal.write_block-requires
write_block-requires c =
    let blocks = c.args.plan.now.blocks in let k = c.loop-block.block-index in let b = c.block-item.result in
    let within : k < length blocks.items = omega (arith, blocks.ok.0) in
    let same : get_or blocks.items k b ≡ b =
    sym (c.block-item.is ∙ ap (λ items. get_or items k b) c.deref-block-items.ensures.value) in
    subst (IsNamedBlock c.args.names.now) (get_or-map view blocks.items k b (view b) within ∙ ap view same)
    (c.requires k (view b) (omega (arith, within, length-map blocks.items view)))

pub returns : goal.returns
returns c =
    let blocks = c.args.plan.now.blocks in let names = c.args.names.now in
    let row : LayerBlock → List ℕ = λ b. line (written_row names (BlockRow b)) in
    wrote_all (λ (b : Block). row (view b)) c.args.text.now c.loop-block.text blocks.items c.loop-block.block-index
    (omega (arith, blocks.ok.0)) c.loop-block.invariant
    ∙ ap (λ rest. c.args.text.now ++ rest)
    (sym (written-map names BlockRow (map view blocks.items) ∙ flat_map-map row view blocks.items))
