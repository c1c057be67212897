-- Prices of a layer straight from those of the nodes, with no leeway.
use Rattle.std.proofs.Common.{◌≡◌, ◌∙◌, ℕ, Bool, ◌<◌, ◌^◌, List, length, map, replicate, refl, arith, ℤ, pos, ◌-ℤ◌}
use Rattle.std.specs.Global.{Vec}
use Rattle.std.specs.List.{range_with_len}
use Rattle.std.proofs.lemmas.Int.{ints}
use Rattle.std.proofs.lemmas.List.FromFn.{get_or-map-range_with_len, length-map-range_with_len}
use Rattle.vs_layer.specs.Graph.{arc_of}
use Rattle.vs_instance.specs.Problem.{Problem}
use Rattle.vs_instance.specs.HoldingTable.{HoldsInLayer, price_of}
use Rattle.vs_match.specs.LawfulNets.{IsLawful}
use Rattle.vs_match.specs.LayerGraph.{LayerGraph, IsArcOfTrip}
use Rattle.vs_path.specs.Residual.{price_at}
use Rattle.vs_circ.specs.declared.circ.LayerPrices.{LayerPrices}
use Rattle.vs_circ.specs.declared.leeways.Side.TheVariants.{Leaving, Entering}
use Rattle.vs_circ.specs.node_prices.NodePrices.{AreMovePrices}
use Rattle.vs_circ.specs.PricedFlows.{PaysNoLess, vehicle_price}
use Rattle.vs_circ.specs.node_prices.PriceTables.{base_price}
use Rattle.vs_circ.proofs.low.TripArcs.{at_trip, at_trip-arc}
use Rattle.vs_circ.proofs.prices.Holding.{FollowNodes, following-pays, holds}
use Rattle.vs_circ.proofs.prices.Passes.{no-leeways, none_at}

-- a vector of these numbers, wherever another one lies
abbrev vector_of : Vec ℤ → (numbers : List ℤ) → length numbers < 2 ^ 63 → Vec ℤ
vector_of v numbers few = record {
  ptr = v.ptr;
  len = length numbers;
  cap = length numbers;
  alloc = v.alloc;
  items = numbers;
  ok = (refl, omega arith);
  small = few;
}

module _ (p : Problem) (l : ℕ) (n : LayerGraph) (lawful : IsLawful p l n) (ray : Bool) (prices : List ℤ)
    (size : length prices ≡ n.graph.nodes) (moves : AreMovePrices n ray prices) (v : Vec ℤ)
    (few : length p.trips < 2 ^ 63) where
  -- a number for each trip
  abbrev by_trip : (ℕ → ℤ) → Vec ℤ
  by_trip f =
      vector_of v (map f (range_with_len 0 (length p.trips)))
      (omega (arith, length-map-range_with_len f 0 (length p.trips)))

  -- trip i's price, by the node that stands for it
  abbrev entry : (ℕ → ℕ) → ℕ → ℤ
  entry node i = at_trip n.kinds (λ k. price_at prices (node k) -ℤ base_price n prices) i

  abbrev departs : ℕ → ℕ
  departs k = (arc_of n.graph k).from

  abbrev arrives : ℕ → ℕ
  arrives k = (arc_of n.graph k).to

  -- the prices of the nodes where the trips depart and arrive, counted as a table's are
  abbrev pub of_nodes : LayerPrices
  of_nodes = record {
    into = by_trip (entry departs);
    from = by_trip (entry arrives);
    fleet = vehicle_price n prices;
  }

  entry-is : (node : ℕ → ℕ) (i k : ℕ) → i < length p.trips → IsArcOfTrip n.kinds i k
      → price_of (by_trip (entry node)).items i ≡ price_at prices (node k) -ℤ base_price n prices
  entry-is node i k within is =
      get_or-map-range_with_len (entry node) 0 (length p.trips) i i (pos 0) within (omega arith)
      ∙ at_trip-arc n.kinds (λ j. price_at prices (node j) -ℤ base_price n prices) i k is
      (λ j other. lawful.one_arc i j k other is)

  follow : FollowNodes n prices (replicate (length prices) 0) (replicate (length prices) 0) (length p.trips) of_nodes
  follow = record {
    vehicle = refl;
    into_is = λ i k within is.
        let half = none_at n ray Entering prices (length prices) (departs k) in
        let entry = entry-is departs i k within is in
        omega (arith, ints, half, entry);
    from_is = λ i k within is.
        let half = none_at n ray Leaving prices (length prices) (arrives k) in
        let entry = entry-is arrives i k within is in
        omega (arith, ints, half, entry);
  }

  -- they hold
  pub of_nodes-hold : HoldsInLayer p l ray of_nodes.into.items of_nodes.from.items of_nodes.fleet
  of_nodes-hold =
      holds p l n lawful ray prices (replicate (length prices) 0) (replicate (length prices) 0)
      (no-leeways n ray Entering prices (length prices) size moves)
      (no-leeways n ray Leaving prices (length prices) size moves) of_nodes follow

  -- and each trip pays no less than by the nodes
  pub of_nodes-pay : PaysNoLess n (length p.trips) prices of_nodes
  of_nodes-pay =
      following-pays n prices (replicate (length prices) 0) (replicate (length prices) 0) (length p.trips) of_nodes
      follow
