use Rattle.std.proofs.Common.{◌≡◌, ◌≤◌, ◌+◌, ◌*◌, ◌^◌, vec_len}
use Rattle.vs_weights.specs.Layers.{IsLike}
use Rattle.vs_weights.specs.Steps.{ArePeaksOf, AreSlopes}
use Rattle.vs_cuts.specs.declared.whole.TheConstants.{MOST_LACK}
use Rattle.vs_weights.proofs.layer_cuts.LayerCuts.balance.Given as goal

abbrev pub invariant-loop : goal.invariant-loop
invariant-loop l = record {
  like : IsLike l.fn.self l.self;
  peaks : ArePeaksOf (vec_len l.fn.self.cuts) l.peaks;
  slopes : AreSlopes l.slopes l.self.standings.items;
  products : l.products ≡ l.self.products.most;
  few : l.slopes ≤ 20000 * MOST_LACK + l.counter * 2 ^ 35;
}
