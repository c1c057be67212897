use Rattle.std.proofs.Common.{◌≡◌, ◌<◌, ℕ, length, get_or}
use Rattle.vs_match.specs.LayerNets.{net_at}
use Rattle.vs_ship.specs.declared.work.Kept.{Kept}
use Rattle.vs_bundle.specs.Runs.{CanRunIn, HasRun, layer_at}
use Rattle.vs_bundle.proofs.round.Round.run_in_turn.Given as goal

-- the layers so far have run
abbrev pub invariant-loop-k : goal.invariant-loop-k
invariant-loop-k g l = record {
  each : length l.places ≡ length l.kept;
  ready : CanRunIn l.self.nets.now l.places l.kept;
  run : (j : ℕ) (d : Kept) → j < l.k
      → HasRun (net_at l.self.nets.now (layer_at l.places j)) l.self.offers.now (layer_at l.places j)
      (get_or l.kept j d);
}
