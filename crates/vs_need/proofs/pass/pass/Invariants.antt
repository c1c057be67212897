use Rattle.std.proofs.Common.{◌≡◌, ◌+◌, ◌≤◌}
use Rattle.vs_match.specs.LayerNets.{net_at}
use Rattle.vs_need.proofs.Passing.{IsUnderWay}
use Rattle.vs_need.proofs.pass.pass.Given as goal

abbrev pub invariant-loop-read : goal.invariant-loop-read
invariant-loop-read g l = record {
  nets : g.N.ArcReader.nets l.nets ≡ g.N.ArcReader.nets l.fn.nets;
  reads : g.N.ArcReader.reads l.nets ≤ g.N.ArcReader.reads l.fn.nets + l.read;
  under_way : IsUnderWay (net_at (g.N.ArcReader.nets l.fn.nets) l.at.l.0) l.into l.ray l.at.aim l.read l.values l.found;
}
