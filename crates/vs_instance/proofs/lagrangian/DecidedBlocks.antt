-- Whether trips are a block of a layer, and whether blocks are some that a layer may run, is decided.
use Rattle.std.proofs.Common.{◌≡◌, ℕ, ◌+◌, ◌<◌, ◌≤◌, List, length, ap}
use native.Mathlib.Decide.{map_dec, dec_le, dec_lt}
use Rattle.vs_types.specs.LayerSet.{Has}
use Rattle.vs_types.specs.declared.layer_set.LayerSet.{LayerSet}
use Rattle.vs_types.specs.declared.numbers.LayerNo.{LayerNo}
use Rattle.vs_types.specs.declared.numbers.TripNo.{TripNo}
use Rattle.vs_instance.specs.declared.way.Way.{Way}
use Rattle.vs_instance.specs.Problem.{Problem}
use Rattle.vs_instance.specs.Ways.{Permitted, Connects, HasPullOut, HasPullIn, trip_of, layer_of, way_out, way_in, way_between}
use Rattle.vs_instance.specs.Blocks.{IsBlock, first_of, last_of}
use Rattle.vs_instance.specs.Lagrangian.{AreBlocksOf}
use Rattle.vs_instance.specs.Plan.{LayerBlock, all_trips, times_run}
use Rattle.vs_instance.proofs.costs.LayerDuality.{IsOwnBlock}
use Rattle.vs_instance.proofs.lagrangian.Decided.{dec_adjacent, dec_all, dec_below, dec_both, dec_eq, dec_some, dec_some_and}

-- whether a set has a layer
pub dec_has : (set : LayerSet) (l : ℕ) → Dec (Has set l)
dec_has set l = dec_eq _ 1

-- whether two layers are the same
dec_same_layer : (k l : LayerNo) → Dec (k ≡ l)
dec_same_layer k l = map_dec (λ same. layers_eq k l same) (λ is. ap (λ (m : LayerNo). m.0) is) (dec_eq k.0 l.0)
  where
    layers_eq : (a b : LayerNo) → a.0 ≡ b.0 → a ≡ b
    layers_eq a b same = ap (λ (n : ℕ). let layer : LayerNo = record { 0 = n } in layer) same

-- the moves that a block takes
dec_connects : (p : Problem) (i j : ℕ) → Dec (Connects p i j)
dec_connects p i j =
    dec_some_and (λ (w : Way). (trip_of p i).end + w.minutes ≤ (trip_of p j).start)
    (λ w. dec_le ((trip_of p i).end + w.minutes) (trip_of p j).start) (way_between p i j)

dec_pull_out : (p : Problem) (l i : ℕ) → Dec (HasPullOut p l i)
dec_pull_out p l i =
    dec_some_and (λ (w : Way). w.minutes ≤ (trip_of p i).start) (λ w. dec_le w.minutes (trip_of p i).start)
    (way_out p l i)

dec_pull_in : (p : Problem) (l i : ℕ) → Dec (HasPullIn p l i)
dec_pull_in p l i = dec_some (way_in p l i)

-- whether trips are a block
pub dec_block : (p : Problem) (l : LayerNo) (trips : List TripNo) → Dec (IsBlock p l trips)
dec_block p l trips =
    map_dec
    (λ parts.
    record {
      layer = parts.0;
      some_trip = parts.1.0;
      of_instance = parts.1.1.0;
      permitted = parts.1.1.1.0;
      connected = parts.1.1.1.1.0;
      pull_out = parts.1.1.1.1.1.0;
      pull_in = parts.1.1.1.1.1.1;
    })
    (λ block. (
      block.layer,
      (
        block.some_trip,
        (block.of_instance, (block.permitted, (block.connected, (block.pull_out, block.pull_in)))),
      ),
    ))
    (dec_both (dec_lt l.0 (length p.layers))
    (dec_both (dec_lt 0 (length trips))
    (dec_both (dec_all (λ (i : TripNo). i.0 < length p.trips) (λ i. dec_lt i.0 (length p.trips)) trips)
    (dec_both
    (dec_all (λ (i : TripNo). Permitted p l.0 i.0) (λ i. dec_has (trip_of p i.0).layers l.0) trips)
    (dec_both
    (dec_adjacent (λ (i j : TripNo). Connects p i.0 j.0) (λ i j. dec_connects p i.0 j.0) (record { 0 = 0 }) trips)
    (dec_both (dec_pull_out p l.0 (first_of trips)) (dec_pull_in p l.0 (last_of trips))))))))

-- whether blocks are some of the layer, where it is decided which trips may be run
pub dec_blocks_of : (p : Problem) (l : LayerNo) (May : ℕ → Type 0) → ((i : ℕ) → Dec (May i))
    → (blocks : List LayerBlock) → Dec (AreBlocksOf p l May blocks)
dec_blocks_of p l May each blocks =
    map_dec
    (λ parts.
    record { each_block = parts.0; fleet = parts.1.0; at_most_once = parts.1.1.0; within = parts.1.1.1 })
    (λ are. (are.each_block, (are.fleet, (are.at_most_once, are.within))))
    (dec_both
    (dec_all (IsOwnBlock p l) (λ b. dec_both (dec_same_layer b.0 l) (dec_block p l b.1)) blocks)
    (dec_both (dec_le (length blocks) (layer_of p l.0).fleet)
    (dec_both
    (dec_below (λ i. times_run blocks i ≤ 1) (λ i. dec_le (times_run blocks i) 1) (length p.trips))
    (dec_all (λ (i : TripNo). May i.0) (λ i. each i.0) (all_trips blocks)))))
