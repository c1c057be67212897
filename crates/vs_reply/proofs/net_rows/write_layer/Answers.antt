use Rattle.vs_reply.proofs.written.NetworkRows.{layer_written}
use Rattle.vs_reply.proofs.net_rows.write_layer.Goals as goal

pub returns : goal.returns
returns c =
    layer_written c.args.instance.now c.args.names.now c.args.l.0 c.layer-layer.result.now c.full_count-full.result
    _ _ _ c.write_latest.result c.layer-layer.ensures.name c.full_count-full.ensures c.in_ok-write_first.ensures
    c.write_latest.ensures
