use Rattle.std.proofs.Common.{◌+◌, List, sym, ap, ◌∙◌, subst}
use Rattle.std.proofs.lemmas.List.{map-append}
use Rattle.vs_instance.specs.Plan.{LayerBlock}
use Rattle.vs_plan.specs.Blocks.{pair_of, pairs_of}
use Rattle.vs_node.specs.LayersDone.{AreDone}
use Rattle.vs_node.proofs.plans.Done.{one_more_done}
use Rattle.vs_node.proofs.layers_run.LayersRun.add.Goals as goal

pub returns : goal.returns
returns c sets restriction single run done =
    let p = c.args.instance.now in
    let l = c.args.l in
    let before = c.args.self.now.blocks.items in
    let added = c.in_ok-of_layer.of_layer.items in
    let same = ap pairs_of c.in_ok-append.ensures.items ∙ map-append pair_of before added in
    subst (λ (bs : List LayerBlock). AreDone p sets (l.0 + 1) c.push_prices.new.table bs) (sym same)
    (one_more_done p sets restriction single l c.args.net.now c.requires.lawful c.args.flow.now c.args.prices.now run
    c.args.self.now.table c.push_prices.new.table (pairs_of before) (pairs_of added) done
    c.in_ok-push_prices.ensures c.in_ok-of_layer.ensures)
