-- What is kept for nets by their numbers, and what is known of it.
use Rattle.std.specs.Prelude.{◌≡◌, ℕ, ◌<◌, ◌≤◌, Bool, List, length, Some, slice_get, true, ℤ}
use Rattle.vs_match.specs.LayerGraph.{LayerGraph}
use Rattle.vs_match.specs.LayerNets.{net_at}
use Rattle.vs_path.specs.declared.residual.Costs.{Costs}
use Rattle.vs_ship.specs.declared.work.Kept.{Kept}
use Rattle.vs_ship.specs.declared.work.Work.{Work}
use Rattle.vs_ship.specs.Works.{IsReadyFor}
use Rattle.vs_circ.specs.shipping.Refitted.{AreForOffers, WasSettled}

-- where units and prices are said to be settled, an earlier call settled them, and the arcs cost and take what they do
-- where some trips are offered
abbrev pub IsSettledIf : LayerGraph → Bool → List ℕ → List ℤ → Costs → Type 0
IsSettledIf n said units prices costs = said ≡ true → WasSettled n units prices × AreForOffers n costs

-- what is kept may be used for the layer's net, and what it says of its units and prices is so
pub record CanRun (n : LayerGraph) (kept : Kept) : Type 0 where
  pub ready : IsReadyFor n.graph kept
  pub now : IsSettledIf n kept.is_settled kept.shipment.flow.units.items kept.shipment.prices.items
      kept.shipment.costs
  pub before : IsSettledIf n kept.was_settled kept.before.units.items kept.before.prices.items kept.shipment.costs

-- for each net something is kept at the place of its number, and may be used for it
pub record IsReadyToRun (nets : List LayerGraph) (work : Work) : Type 0 where
  pub size : length nets ≤ length work.kept.items
  pub each : (i : ℕ) (k : Kept) → i < length nets → slice_get work.kept.items i ≡ Some k → CanRun (net_at nets i) k
