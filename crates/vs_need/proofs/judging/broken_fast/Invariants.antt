use Rattle.std.proofs.Common.{◌≡◌, ◌+◌, ◌*◌, ◌≤◌, length, take, sum_by}
use Rattle.vs_instance.specs.Firsts.{first}
use Rattle.vs_instance.proofs.CallerLemmas.{first_below}
use Rattle.vs_prices.specs.Breaks.{breaks_of, layer_breaks}
use Rattle.vs_match.specs.LayerGraph.{arcs_in}
use Rattle.vs_need.specs.Room.{IsKept}
use Rattle.vs_need.proofs.judging.broken_fast.Given as goal

abbrev pub ghost-broken_in_layer : goal.ghost-broken_in_layer
ghost-broken_in_layer g a = g.p

-- the layers from here on have the first break of all, and each of those before was read four times at most
abbrev pub invariant-loop-l : goal.invariant-loop-l
invariant-loop-l g l = record {
  nets : g.N.ArcReader.nets l.nets ≡ g.N.ArcReader.nets l.fn.nets;
  reads : g.N.ArcReader.reads l.nets
      ≤ g.N.ArcReader.reads l.fn.nets + 4 * sum_by arcs_in (take l.l (g.N.ArcReader.nets l.fn.nets));
  kept : IsKept l.fn.scratch l.scratch;
  so_far : first_below (layer_breaks g.p l.table) l.l (length g.p.layers) ≡ first (breaks_of g.p l.table);
}
