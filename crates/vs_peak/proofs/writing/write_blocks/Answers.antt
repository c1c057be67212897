use Rattle.std.proofs.Common.{◌<◌, length, sym, ap, ◌∙◌, subst, arith}
use Rattle.std.specs.List.{All}
use Rattle.std.proofs.lemmas.List.{get_or-map, length-map}
use Rattle.vs_types.specs.declared.numbers.TripNo.{TripNo}
use Rattle.vs_instance.specs.Plan.{LayerBlock}
use Rattle.vs_plan.specs.Blocks.{pair_of}
use Rattle.vs_peak.proofs.writing.write_blocks.Goals as goal

pub write_block-requires-clause-block : goal.write_block-requires-clause-block
write_block-requires-clause-block c =
    let blocks = c.args.blocks.now in
    let k = c.loop-k.k in
    let b = c.index-blocks-k.result in
    let within : k < length blocks = c.loop-k-test.true in
    let Inside : LayerBlock → Type 0 = λ o. All (λ (i : TripNo). i.0 < length c.args.trips.now) o.1 in
    subst Inside (get_or-map pair_of blocks k b (pair_of b) within ∙ ap pair_of (sym c.index-blocks-k.is))
    (c.requires.blocks k (pair_of b) (omega (arith, within, length-map blocks pair_of)))
