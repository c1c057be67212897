use Rattle.std.proofs.Common.{arith}
use Rattle.vs_reply.proofs.written.NetworkRows.{all_written, no_rows, one_layer_more}
use Rattle.vs_reply.proofs.net_rows.write_nets.Goals as goal

pub loop-l-init : goal.loop-l-init
loop-l-init c = no_rows _ _ c.args.text.now

pub loop-l-preserved : goal.loop-l-preserved
loop-l-preserved c = one_layer_more _ _ _ _ _ _ c.loop-l.invariant c.in_ok-write_layer.ensures

pub returns : goal.returns
returns c = all_written _ _ c.loop-l.l c.args.text.now c.loop-l.text c.loop-l.invariant (omega arith)
