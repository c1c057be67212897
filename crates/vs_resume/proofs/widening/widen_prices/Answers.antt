use Rattle.std.proofs.Common.{◌∙◌, w64, to_z, of_z}
use Rattle.vs_resume.proofs.WidenedPrices.{layers_kept, more_layers}
use Rattle.vs_resume.proofs.widening.widen_prices.Goals as goal

pub loop-l-preserved : goal.loop-l-preserved
loop-l-preserved c =
    let p = c.args.instance.now in
    let sets = c.args.sets.now in
    let l = c.loop-l.l in
    let price = to_z w64 (of_z w64 c.args.price) in
    let first = c.args.prices.now in
    let now = c.loop-l.prices in
    let new = c.widen_layer.new.prices in
    let inv = c.loop-l.invariant in
    let widened = c.widen_layer.ensures.widened in
    record {
      size = widened.size ∙ inv.size;
      prices = c.widen_layer.ensures.prices;
      before = more_layers p sets l price first now new widened inv.before inv.after;
      after = layers_kept p sets l price first now new widened inv.after;
    }
