use Rattle.std.proofs.Common.{ap, ◌∙◌, rules}
use Rattle.std.proofs.lemmas.Fn.{filter_same}
use Rattle.vs_plan.specs.declared.block.Block.{Block}
use Rattle.vs_plan.specs.Blocks.{pair_of, pairs_of}
use Rattle.vs_decomp.specs.Stands.{has_run}
use Rattle.vs_decomp.proofs.Standing.{kept_pairs}
use Rattle.vs_decomp.proofs.stand.Stand.into_blocks.Goals as goal

pub returns : goal.returns
returns c =
    ap pairs_of
    (filter_same _ (λ (b : Block). has_run (pair_of b)) _ (λ x b f' k. search rules) _ _ c.retain.ensures.filtered)
    ∙ kept_pairs c.args.self.vehicles.items
