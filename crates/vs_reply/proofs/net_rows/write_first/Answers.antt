use Rattle.std.proofs.Common.{ap}
use Rattle.vs_instance.specs.declared.layer.Layer.{Layer}
use Rattle.vs_match.specs.declared.matching.Matching.TheVariants.{First}
use Rattle.vs_reply.proofs.written.NetworkRows.{net_written}
use Rattle.vs_reply.proofs.net_rows.write_first.Goals as goal

pub returns : goal.returns
returns c =
    net_written c.args.instance.now c.args.layer.now c.args.l.0 First c.args.full _ _ c.in_ok-net.net c.counts.result
    c.layer.result.now.stay c.write_sizes.result c.in_ok-net.ensures.net c.counts.ensures
    (ap (λ (y : Layer). y.stay) c.layer.ensures) c.write_sizes.ensures
