use Rattle.vs_peak.proofs.WrittenPeaks.{one_layer_more}
use Rattle.vs_peak.proofs.writing.write_layers.Goals as goal

pub loop-l-preserved : goal.loop-l-preserved
loop-l-preserved c =
    one_layer_more c.args.names.now c.args.instance.now c.args.claimed.now c.loop-l.l c.index-claimed-l.result
    c.args.text.now c.loop-l.text c.write_layer.new.text c.loop-l-test.true c.index-claimed-l.is c.loop-l.invariant
    c.in_ok-write_layer.ensures
