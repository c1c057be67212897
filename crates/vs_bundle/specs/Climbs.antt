-- What a climb works on, and what it gives. How good that is nothing says.
use Rattle.std.specs.Prelude.{◌≡◌, All, List, length, ℤ}
use Rattle.vs_types.specs.declared.layer_set.LayerSet.{LayerSet}
use Rattle.vs_instance.specs.Problem.{Problem}
use Rattle.vs_match.specs.LayerGraph.{LayerGraph}
use Rattle.vs_weights.specs.Bundles.{AreFound, HasSizes}
use Rattle.vs_multi.specs.Multipliers.{AreMultipliers}
use Rattle.vs_multi.specs.Rounds.{IsCase}
use Rattle.vs_bundle.specs.declared.climbing.Ascent.{Ascent}
use Rattle.vs_bundle.specs.declared.shares.Shares.{Shares}
use Rattle.vs_bundle.specs.declared.valuing.Trial.{Trial}
use Rattle.vs_bundle.specs.Runs.{IsOrderOf}

-- a share for each trip and layer
pub record AreSharesFor (p : Problem) (shares : Shares) : Type 0 where
  pub each_trip : shares.trips ≡ length p.trips
  pub each_layer : shares.layers ≡ length p.layers

-- space for what each layer is offered, with an entry for each trip, and for what each finds
pub record IsTrialFor (p : Problem) (trial : Trial) : Type 0 where
  pub each_layer : length trial.offers.items ≡ length p.layers
  pub offers : All (λ offers. length offers.items ≡ length p.trips) trial.offers.items
  pub marks : length trial.marks.items ≡ length p.trips
  pub found : AreFound (length p.trips) (length p.layers) trial.found.items
  pub order : IsOrderOf (length p.layers) trial.order

-- such space, multipliers that are tried, and cuts of each layer
pub record IsAscentFor (p : Problem) (ascent : Ascent) : Type 0 where
  pub trial : IsTrialFor p ascent.trial
  pub candidate : AreMultipliers p ascent.candidate.items
  pub bundle : HasSizes (length p.trips) (length p.layers) ascent.bundle

-- what a climb goes on with: a case, multipliers that are the best so far, and all that it keeps
pub record CanClimb (p : Problem) (graphs : List LayerGraph) (sets : List LayerSet) (best : List ℤ)
    (kept : Ascent) : Type 0 where
  pub case : IsCase p graphs sets
  pub multipliers : AreMultipliers p best
  pub ascent : IsAscentFor p kept
