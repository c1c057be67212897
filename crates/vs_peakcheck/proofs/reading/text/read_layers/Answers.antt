use Rattle.vs_peakcheck.specs.Places.{AtLayer}
use Rattle.vs_peakcheck.specs.Reading.{IsRefusedAt}
use Rattle.vs_rows.proofs.CallerLemmas.{err_passes}
use Rattle.vs_peakcheck.proofs.rows.PricedRows.{passes}
use Rattle.vs_peakcheck.proofs.rows.ReadLayers.{one_more_layer}
use Rattle.vs_peakcheck.proofs.reading.text.read_layers.Goals as goal

pub returns-in_err-of_layer-clause-refused : goal.returns-in_err-of_layer-clause-refused
returns-in_err-of_layer-clause-refused c =
    err_passes _ (IsRefusedAt c.args.input.now 1 (AtLayer 0)) c.from_residual.ensures.1
    (passes c.args.input.now _ c.loop-l.invariant.reads.lead c.in_err-of_layer.ensures.refused)

pub loop-l-preserved : goal.loop-l-preserved
loop-l-preserved c =
    one_more_layer c.args.input.now c.loop-l.l c.loop-l.next c.in_ok-of_layer.behind c.loop-l.claimed.items _
    c.in_ok-of_layer.of_layer c.loop-l.invariant c.in_ok-of_layer.ensures.found c.in_ok-push.ensures.items
