-- Entries made from prices and leeways of the nodes hold.
use Rattle.std.proofs.Common.{◌≡◌, ℕ, ◌+◌, ◌/◌, ◌<◌, ◌∙◌, Bool, List, length, sym, ap, subst, arith, Option, Some, None, Result, Ok, Err, ℤ, pos, ◌+ℤ◌, ◌-ℤ◌, ◌≤ℤ◌}
use Rattle.std.specs.Prelude.{slice_index, IfOk, IfSome}
use Rattle.std.proofs.lemmas.List.Elements.{All-from_get_or}
use Rattle.std.proofs.lemmas.Int.{ints, clamps, int_max_is}
use Rattle.vs_layer.specs.Graph.{arc_of}
use Rattle.vs_instance.specs.Problem.{Problem}
use Rattle.vs_instance.specs.Ways.{Permitted}
use Rattle.vs_instance.specs.Pieces.{out_piece, link_piece, in_piece}
use Rattle.vs_instance.specs.HoldingTable.{HoldsInLayer, price_of, scaled}
use Rattle.vs_match.specs.LayerGraph.{LayerGraph, IsArcOfTrip}
use Rattle.vs_match.specs.LawfulNets.{IsLawful}
use Rattle.vs_path.specs.Residual.{price_at}
use Rattle.vs_path.specs.Raising.{HasSpan}
use Rattle.vs_circ.specs.declared.circ.LayerPrices.{LayerPrices}
use Rattle.vs_circ.specs.declared.leeways.Side.TheVariants.{Leaving, Entering}
use Rattle.vs_ship.specs.declared.gaps.TheConstants.{MAX_NODE_PRICE}
use Rattle.vs_circ.specs.LayerPrices.{AreHolding, IsPrice}
use Rattle.vs_circ.specs.node_prices.Leeways.{AreLeeways}
use Rattle.vs_circ.specs.node_prices.PriceTables.{IsTableOf}
use Rattle.vs_circ.specs.PricedFlows.{end_node, vehicle_price, PaysNoLess}
use Rattle.vs_circ.proofs.prices.Walking.{rises_out, rises_on, rises_in}
use Rattle.vs_circ.proofs.prices.Leeways.{moved_price, moved-leaving, moved-entering, still-leaving, still-entering}

-- two facts of a piece, where there is one, give a third
if-both : {A B C : ℕ → Type 0} (piece : Option ℕ) → IfSome piece A → IfSome piece B → ((c : ℕ) → A c → B c → C c)
    → IfSome piece C
if-both None a b join = tt
if-both (Some c) a b join = join c a b

-- a vehicle pays no less than what lacks at the depot's end, and nothing less than nothing
pub vehicle_price-≥ : (n : LayerGraph) (prices : List ℤ) → (pos 0 ≤ℤ vehicle_price n prices)
    × (price_at prices 0 ≤ℤ (price_at prices (end_node n) +ℤ vehicle_price n prices))
vehicle_price-≥ n prices =
    let is = int_max_is (pos 0) (price_at prices 0 -ℤ price_at prices (end_node n)) in
    (omega (arith, ints, clamps), omega (arith, ints, clamps))

-- prices of a layer that are those of the nodes, moved by half their leeways
pub record FollowNodes (n : LayerGraph) (prices : List ℤ) (entering leaving : List ℕ) (trips : ℕ) (given : LayerPrices)
    : Type 0 where
  pub vehicle : given.fleet ≡ vehicle_price n prices
  pub into_is : (i k : ℕ) → i < trips → IsArcOfTrip n.kinds i k → price_of given.into.items i
      ≡ (price_at prices (arc_of n.graph k).from -ℤ (price_at prices 0 -ℤ given.fleet))
      +ℤ pos (slice_index entering (arc_of n.graph k).from / 2)
  pub from_is : (i k : ℕ) → i < trips → IsArcOfTrip n.kinds i k → price_of given.from.items i
      ≡ (price_at prices (arc_of n.graph k).to -ℤ (price_at prices 0 -ℤ given.fleet))
      -ℤ pos ((slice_index leaving (arc_of n.graph k).to + 1) / 2)

-- so are those of a table
table-follows : (n : LayerGraph) (prices : List ℤ) (entering leaving : List ℕ) (trips : ℕ) (given : LayerPrices)
    → IsTableOf n prices entering leaving trips given → FollowNodes n prices entering leaving trips given
table-follows n prices entering leaving trips given table = record {
  vehicle = table.vehicle;
  into_is = λ i k within is.
      (table.into.each i within).with_arc k is
      ∙ ap (λ (f : ℤ). (price_at prices (arc_of n.graph k).from -ℤ (price_at prices 0 -ℤ f))
      +ℤ pos (slice_index entering (arc_of n.graph k).from / 2)) (sym table.vehicle);
  from_is = λ i k within is.
      (table.from.each i within).with_arc k is
      ∙ ap (λ (f : ℤ). (price_at prices (arc_of n.graph k).to -ℤ (price_at prices 0 -ℤ f))
      -ℤ pos ((slice_index leaving (arc_of n.graph k).to + 1) / 2)) (sym table.vehicle);
}

-- by such prices each trip pays no less than by the prices of its nodes
pub following-pays : (n : LayerGraph) (prices : List ℤ) (entering leaving : List ℕ) (trips : ℕ) (given : LayerPrices)
    → FollowNodes n prices entering leaving trips given → PaysNoLess n trips prices given
following-pays n prices entering leaving trips given follow = record {
  vehicle = follow.vehicle;
  each_trip = λ i k within is. omega (arith, ints, follow.into_is i k within is, follow.from_is i k within is);
}

-- and by those of a table
pub table-pays : (n : LayerGraph) (prices : List ℤ) (entering leaving : List ℕ) (trips : ℕ) (given : LayerPrices)
    → IsTableOf n prices entering leaving trips given → PaysNoLess n trips prices given
table-pays n prices entering leaving trips given table =
    following-pays n prices entering leaving trips given
    (table-follows n prices entering leaving trips given table)

module _ (p : Problem) (l : ℕ) (n : LayerGraph) (lawful : IsLawful p l n) (ray : Bool) (prices : List ℤ)
    (entering leaving : List ℕ) (enter : AreLeeways n ray Entering prices entering)
    (leave : AreLeeways n ray Leaving prices leaving) (given : LayerPrices)
    (follow : FollowNodes n prices entering leaving (length p.trips) given) where
  arc_for : (i : ℕ) → i < length p.trips → Permitted p l i → (k : ℕ) × IsArcOfTrip n.kinds i k
  arc_for i within may = lawful.each_trip i (within, may)

  -- what a vehicle pays, by the prices of the depot's beginning and end
  pays : (pos 0 ≤ℤ given.fleet) × (price_at prices 0 ≤ℤ (price_at prices (end_node n) +ℤ given.fleet))
  pays = let P : ℤ → Type 0 = λ f. (pos 0 ≤ℤ f) × (price_at prices 0 ≤ℤ (price_at prices (end_node n) +ℤ f)) in
      subst P (sym follow.vehicle) (vehicle_price-≥ n prices)

  enters_from_depot : (i k : ℕ) → i < length p.trips → IsArcOfTrip n.kinds i k
      → IfSome (out_piece p l i) (λ c. price_of given.into.items i ≤ℤ (scaled ray c +ℤ given.fleet))
  enters_from_depot i k within is =
      let rises = rises_out p l n lawful ray (moved_price Entering prices entering)
      (moved-entering n lawful.net ray prices entering enter) i k is in
      if-both (out_piece p l i) rises rises
      (λ c a b.
      let entry = follow.into_is i k within is in
      omega (arith, ints, a, entry, enter.first))

  leaves_and_enters : (i j k m : ℕ) → i < length p.trips → j < length p.trips
      → IsArcOfTrip n.kinds i k → IsArcOfTrip n.kinds j m
      → IfSome (link_piece p l i j) (λ c. price_of given.into.items j ≤ℤ (price_of given.from.items i +ℤ scaled ray c))
  leaves_and_enters i j k m within within' is is' =
      let entered = rises_on p l n lawful ray (moved_price Entering prices entering)
      (moved-entering n lawful.net ray prices entering enter) i j k m is is' in
      let left = rises_on p l n lawful ray (moved_price Leaving prices leaving)
      (moved-leaving n lawful.net ray prices leaving leave) i j k m is is' in
      if-both (link_piece p l i j) entered left
      (λ c a b. omega (
        arith,
        ints,
        a,
        b,
        follow.into_is j m within' is',
        follow.from_is i k within is,
        still-entering n lawful.net ray prices entering enter lawful.labelled i k is,
        still-leaving n lawful.net ray prices leaving leave lawful.labelled j m is',
      ))

  leaves_for_depot : (i k : ℕ) → i < length p.trips → IsArcOfTrip n.kinds i k
      → IfSome (in_piece p l i) (λ c. pos 0 ≤ℤ (price_of given.from.items i +ℤ scaled ray c))
  leaves_for_depot i k within is =
      let rises = rises_in p l n lawful ray (moved_price Leaving prices leaving)
      (moved-leaving n lawful.net ray prices leaving leave) i k is in
      if-both (in_piece p l i) rises rises
      (λ c a b.
      let entry = follow.from_is i k within is in
      omega (arith, ints, a, entry, leave.last, pays.1))

  -- they hold
  pub holds : HoldsInLayer p l ray given.into.items given.from.items given.fleet
  holds = record {
    vehicle = pays.0;
    outs = λ i within may. let arc = arc_for i within may in enters_from_depot i arc.0 within arc.1;
    links = λ i j within within' may may'.
        let arc = arc_for i within may in
        let arc' = arc_for j within' may' in leaves_and_enters i j arc.0 arc'.0 within within' arc.1 arc'.1;
    ins = λ i within may. let arc = arc_for i within may in leaves_for_depot i arc.0 within arc.1;
  }

-- a vehicle's price is no greater than prices of a layer may be
vehicle-price : (n : LayerGraph) (prices : List ℤ) → 0 < length prices → end_node n < length prices
    → HasSpan MAX_NODE_PRICE prices → IsPrice (vehicle_price n prices)
vehicle-price n prices some end span =
    let apart = span 0 (end_node n) some end in
    (omega (arith, ints, clamps, apart), omega (arith, ints, clamps, apart))

-- the whole table holds
pub table-holds : (p : Problem) (l : ℕ) (n : LayerGraph) (ray : Bool) (prices : List ℤ) (entering leaving : List ℕ)
    (trips : ℕ) (given : LayerPrices) → IsLawful p l n → length p.trips ≡ trips
    → length prices ≡ n.graph.nodes → HasSpan MAX_NODE_PRICE prices
    → AreLeeways n ray Entering prices entering → AreLeeways n ray Leaving prices leaving
    → IsTableOf n prices entering leaving trips given → AreHolding p l ray given
table-holds p l n ray prices entering leaving trips given lawful count size span enter leave table =
    let nodes = lawful.net.nodes in
    let Table : ℕ → Type 0 = λ m. IsTableOf n prices entering leaving m given in
    let of_trips : Table (length p.trips) = subst Table (sym count) table in
    let Is : ℤ → Type 0 = IsPrice in
    record {
      into_size = of_trips.into.size;
      from_size = of_trips.from.size;
      into = All-from_get_or IsPrice given.into.items (pos 0)
          (λ i below. (of_trips.into.each i (omega (arith, of_trips.into.size))).price);
      from = All-from_get_or IsPrice given.from.items (pos 0)
          (λ i below. (of_trips.from.each i (omega (arith, of_trips.from.size))).price);
      fleet = subst Is (sym table.vehicle)
          (vehicle-price n prices (omega (arith, size, nodes)) (omega (arith, size, nodes)) span);
      holds =
          holds p l n lawful ray prices entering leaving enter leave given
          (table-follows n prices entering leaving (length p.trips) given of_trips);
    }

-- what follows of a value that there is
pub if-ok : {T E : Type 0} {A B : T → Type 0} (r : Result T E) → IfOk r A → ((t : T) → A t → B t) → IfOk r B
if-ok (Ok t) is then = then t is
if-ok (Err e) is then = tt
