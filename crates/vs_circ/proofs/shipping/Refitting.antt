-- Shipments while they are made ready for other offers, trip by trip.
use Rattle.std.proofs.Common.{◌≡◌, ◌≢◌, ◌∙◌, ◌<◌, ◌+◌, ℕ, ℤ, List, length, get_or, sym, subst, ap, arith, inl, inr, Option, pos, ◌+ℤ◌, ◌-ℤ◌, length-set}
use Rattle.std.proofs.lemmas.Int.{ints}
use Rattle.std.proofs.lemmas.Bool.{cases_eq, cases_lt}
use Rattle.std.proofs.lemmas.List.{get_or-set_same, get_or-set_other}
use Rattle.vs_types.specs.declared.numbers.TripNo.{TripNo}
use Rattle.vs_layer.specs.declared.arc.Arc.{Arc}
use Rattle.vs_layer.specs.Graph.{arc_of}
use Rattle.vs_match.specs.declared.arc_kind.ArcKind.{ArcKind}
use Rattle.vs_match.specs.declared.arc_kind.ArcKind.TheVariants.{Trip}
use Rattle.vs_match.specs.LayerGraph.{LayerGraph, IsArcOfTrip, IsLabelled, kind_of}
use Rattle.vs_queue.specs.declared.step.Step.TheVariants.{Forward, Back}
use Rattle.vs_path.specs.Residual.{AllWithin, price_at}
use Rattle.vs_ship.specs.declared.shipment.Shipment.{Shipment}
use Rattle.vs_ship.specs.declared.shipment.TheConstants.{MAX_FIRST_PRICE}
use Rattle.vs_ship.specs.Balance.{gained}
use Rattle.vs_ship.specs.Leaving.{AreNone}
use Rattle.vs_ship.specs.Shipments.{IsSized}
use Rattle.vs_ship.specs.Suiting.{AllSuit, DoSuit, worth_less}
use Rattle.vs_ship.proofs.CallerLemmas.{total-none, weighed-none}
use Rattle.vs_circ.specs.shipping.Prepared.{AreOfferedCosts, AreOfferedRooms, offered_cost, offered_room}
use Rattle.vs_circ.specs.shipping.Refitted.{AreFewMoved, AreForOffers, AreRefitted, IsFitted, IsOfFirst, IsRefittedAt, WasSettled}
use Rattle.vs_circ.proofs.shipping.Offering.{cost-as, room-as}

-- the same of equal numbers
suit-as : (loss loss' : ℤ) (room room' most n n' : ℕ) → loss ≡ loss' → room ≡ room' → n ≡ n'
    → DoSuit loss room most n → DoSuit loss' room' most n'
suit-as loss loss' room room' most n n' same_loss same_room same suits =
    subst (λ (m : ℕ). DoSuit loss' room' most m) same
    (subst (λ (m : ℕ). DoSuit loss' m most n) same_room
    (subst (λ (z : ℤ). DoSuit z room most n) same_loss suits))

loss-as : (one two : ℤ) (ps qs : List ℤ) (a : Arc) → one ≡ two → ps ≡ qs
    → (one +ℤ price_at ps a.from) -ℤ price_at ps a.to ≡ (two +ℤ price_at qs a.from) -ℤ price_at qs a.to
loss-as one two ps qs a same same_prices =
    ap (λ (z : ℤ). (z +ℤ price_at ps a.from) -ℤ price_at ps a.to) same
    ∙ ap (λ (xs : List ℤ). (two +ℤ price_at xs a.from) -ℤ price_at xs a.to) same_prices

-- the trip of an arc
abbrev trip_of : ArcKind → ℕ
trip_of (Trip t) = t.0
trip_of _ = 0

-- an arc is no two trips'
same-trip : (n : LayerGraph) (i j k : ℕ) → IsArcOfTrip n.kinds i k → IsArcOfTrip n.kinds j k → i ≡ j
same-trip n i j k one two = ap trip_of (sym one.1 ∙ two.1)

-- an arc of the first so many trips and one more, which isn't the last one's, is one of the first so many
first-before : (n : LayerGraph) (count k : ℕ) → IsOfFirst n (count + 1) k → (IsArcOfTrip n.kinds count k → ⊥)
    → IsOfFirst n count k
first-before n count k first other i arc =
    elim (cases_lt i count) [
      | inl less ↦ less
      | inr past ↦
          let e : i ≡ count = omega (arith, past, first i arc) in
          absurd (other (subst (λ (m : ℕ). IsArcOfTrip n.kinds m k) e arc))
    ]

moved-more : (count : ℕ) (surplus : List ℤ) → AreFewMoved count surplus → AreFewMoved (count + 1) surplus
moved-more count surplus few v =
    let near = few v in
    record { low = omega (arith, ints, near.low); high = omega (arith, ints, near.high) }

module _ (n : LayerGraph) (offers : List (Option ℤ)) where
  -- a trip that has no arc changes nothing
  pub refitted-none : (i : ℕ) (s : Shipment) → ((k : ℕ) → IsArcOfTrip n.kinds i k → ⊥) → AreRefitted n offers i s
      → AreRefitted n offers (i + 1) s
  refitted-none i s none before = record {
    sized = before.sized;
    prices = before.prices;
    fitted = λ k within first. before.fitted k within (first-before n i k first (none k));
    others = λ j k past arc. before.others j k (omega (arith, past)) arc;
    left = before.left;
    moved = moved-more i s.surplus.items before.moved;
  }

  module _ (i k : ℕ) (is : IsArcOfTrip n.kinds i k) (within : k < length n.graph.arcs)
      (one_arc : (j : ℕ) → IsArcOfTrip n.kinds i j → j ≡ k) (cost : ℤ) (room : ℕ)
      (cost_is : cost ≡ offered_cost offers (Trip (record { 0 = i })) (arc_of n.graph k))
      (room_is : room ≡ offered_room offers (Trip (record { 0 = i })) (arc_of n.graph k)) (old new : Shipment)
      (before : AreRefitted n offers i old) (at : IsRefittedAt n.graph k cost room old new) where
    new-sized : IsSized n.graph new
    new-sized = record {
      units = ap length at.units_are ∙ length-set old.flow.units.items k at.units ∙ before.sized.units;
      cost = ap length at.cost_is ∙ length-set old.costs.cost.items k cost ∙ before.sized.cost;
      room = ap length at.room_is ∙ length-set old.costs.room.items k room ∙ before.sized.room;
      prices = ap length at.prices_are ∙ before.sized.prices;
      surplus = at.left.each_node;
    }

    cost_here : price_at new.costs.cost.items k ≡ cost
    cost_here =
        ap (λ (xs : List ℤ). price_at xs k) at.cost_is
        ∙ get_or-set_same old.costs.cost.items k cost (pos 0) (omega (arith, within, before.sized.cost))

    room_here : get_or new.costs.room.items k 0 ≡ room
    room_here =
        ap (λ (xs : List ℕ). get_or xs k 0) at.room_is
        ∙ get_or-set_same old.costs.room.items k room 0 (omega (arith, within, before.sized.room))

    units_here : get_or new.flow.units.items k 0 ≡ at.units
    units_here =
        ap (λ (xs : List ℕ). get_or xs k 0) at.units_are
        ∙ get_or-set_same old.flow.units.items k at.units 0 (omega (arith, within, before.sized.units))

    fitted-here : IsFitted n offers new k
    fitted-here = record {
      cost = cost_here ∙ cost_is
          ∙ ap (λ (kind : ArcKind). offered_cost offers kind (arc_of n.graph k)) (sym is.1);
      room = room_here ∙ room_is
          ∙ ap (λ (kind : ArcKind). offered_room offers kind (arc_of n.graph k)) (sym is.1);
      suits =
          subst (λ (m : ℕ). DoSuit (worth_less n.graph new.costs.cost.items new.prices.items k)
          (get_or new.costs.room.items k 0) (arc_of n.graph k).room m) (sym units_here)
          (subst (λ (m : ℕ). DoSuit (worth_less n.graph new.costs.cost.items new.prices.items k) m
          (arc_of n.graph k).room at.units) (sym room_here) at.suits);
    }

    cost_there : (j : ℕ) → j ≢ k → price_at new.costs.cost.items j ≡ price_at old.costs.cost.items j
    cost_there j other =
        ap (λ (xs : List ℤ). price_at xs j) at.cost_is
        ∙ get_or-set_other old.costs.cost.items k j cost (pos 0) (λ e. other e)

    room_there : (j : ℕ) → j ≢ k → get_or new.costs.room.items j 0 ≡ get_or old.costs.room.items j 0
    room_there j other =
        ap (λ (xs : List ℕ). get_or xs j 0) at.room_is
        ∙ get_or-set_other old.costs.room.items k j room 0 (λ e. other e)

    units_there : (j : ℕ) → j ≢ k → get_or new.flow.units.items j 0 ≡ get_or old.flow.units.items j 0
    units_there j other =
        ap (λ (xs : List ℕ). get_or xs j 0) at.units_are
        ∙ get_or-set_other old.flow.units.items k j at.units 0 (λ e. other e)

    fitted-there : (j : ℕ) → j ≢ k → IsFitted n offers old j → IsFitted n offers new j
    fitted-there j other was = record {
      cost = cost_there j other ∙ was.cost;
      room = room_there j other ∙ was.room;
      suits =
          suit-as _ _ _ _ (arc_of n.graph j).room _ _
          (loss-as _ _ old.prices.items new.prices.items (arc_of n.graph j) (sym (cost_there j other))
          (sym at.prices_are))
          (sym (room_there j other)) (sym (units_there j other)) was.suits;
    }

    fitted-more : (j : ℕ) → j < length n.graph.arcs → IsOfFirst n (i + 1) j → IsFitted n offers new j
    fitted-more j inside first =
        elim (cases_eq j k) [
          | inl same ↦ subst (IsFitted n offers new) (sym same) fitted-here
          | inr other ↦
              fitted-there j (λ e. other e)
              (before.fitted j inside (first-before n i j first (λ arc. other (one_arc j arc))))
        ]

    -- the trip's arc is fitted too
    pub refitted-more : AreRefitted n offers (i + 1) new
    refitted-more = record {
      sized = new-sized;
      prices = subst (AllWithin MAX_FIRST_PRICE) (sym at.prices_are) before.prices;
      fitted = fitted-more;
      others = λ j m past arc.
          let other : m ≢ k =
          λ e. omega (arith, past, same-trip n i j k is (subst (λ (x : ℕ). IsArcOfTrip n.kinds j x) e arc)) in
          let few = before.others j m (omega (arith, past)) arc in
          omega (arith, few, units_there m other);
      left = at.left;
      moved = at.moved i before.moved;
    }

  -- where units are settled and nothing lies at the nodes, the arcs that are no trip's are fitted
  module _ (labelled : IsLabelled n) (s : Shipment) (sized : IsSized n.graph s)
      (prices : AllWithin MAX_FIRST_PRICE s.prices.items)
      (settled : WasSettled n s.flow.units.items s.prices.items) (costs : AreForOffers n s.costs)
      (none : AreNone s.surplus.items) where
    abbrev was : Shipment
    was = settled.shipment

    fitted-first : (k : ℕ) → k < length n.graph.arcs → IsOfFirst n 0 k → IsFitted n offers s k
    fitted-first k within first =
        let kind = kind_of n k in
        let a = arc_of n.graph k in
        let is = settled.settled in
        let no_trip : (t : TripNo) → kind ≡ Trip t → ⊥ =
        λ t of_trip. omega (arith, first t.0 (omega (arith, within, labelled.each_arc), of_trip)) in
        let cost : price_at was.costs.cost.items k ≡ price_at s.costs.cost.items k =
        is.offered.costs k within
        ∙ cost-as settled.offers costs.offers kind a (λ t of_trip. absurd (no_trip t of_trip))
        ∙ sym (costs.cost k within) in
        let room : get_or was.costs.room.items k 0 ≡ get_or s.costs.room.items k 0 =
        is.offered.rooms k within
        ∙ room-as settled.offers costs.offers kind a (λ t of_trip. absurd (no_trip t of_trip))
        ∙ sym (costs.room k within) in
        let suits : DoSuit (worth_less n.graph was.costs.cost.items was.prices.items k)
        (get_or was.costs.room.items k 0) a.room (get_or was.flow.units.items k 0) =
        record {
          in_room = is.offered.in_room k within;
          few = is.circulation.rooms k within;
          more = λ more. is.signs (Forward k) (record { arc = within; room = more });
          less = λ some.
              let back = is.signs (Back k) (record { arc = within; room = some }) in omega (arith, ints, back);
        } in
        record {
          cost = costs.cost k within
              ∙ cost-as costs.offers offers kind a (λ t of_trip. absurd (no_trip t of_trip));
          room = costs.room k within
              ∙ room-as costs.offers offers kind a (λ t of_trip. absurd (no_trip t of_trip));
          suits =
              suit-as _ _ _ _ a.room _ _
              (loss-as _ _ was.prices.items s.prices.items a cost settled.prices_are) room
              (ap (λ (us : List ℕ). get_or us k 0) settled.units_are) suits;
        }

    pub refitted-first : AreRefitted n offers 0 s
    refitted-first = record {
      sized = sized;
      prices = prices;
      fitted = fitted-first;
      others = λ i k past arc.
          let once = settled.settled.flow.once i k arc in
          omega (arith, once, ap (λ (us : List ℕ). get_or us k 0) settled.units_are);
      left = record {
        each_node = sized.surplus;
        balanced = λ weight.
            weighed-none weight s.surplus.items none
            ∙ sym (settled.settled.flow.balanced weight)
            ∙ ap (gained weight n.graph.arcs) settled.units_are;
        even = total-none s.surplus.items none;
      };
      moved = λ v.
          let here = none v in
          record { low = omega (arith, ints, here); high = omega (arith, ints, here) };
    }

  -- once all trips are gone through, all arcs cost and take what the offers say and have units that suit them
  module _ (count : ℕ) (s : Shipment) (all : (i k : ℕ) → IsArcOfTrip n.kinds i k → i < count)
      (are : AreRefitted n offers count s) where
    pub refitted-costs : AreOfferedCosts n offers s.costs.cost.items
    refitted-costs k within = (are.fitted k within (λ i arc. all i k arc)).cost

    pub refitted-rooms : AreOfferedRooms n offers s.costs.room.items
    refitted-rooms k within = (are.fitted k within (λ i arc. all i k arc)).room

    pub refitted-suit : AllSuit n.graph s.costs.cost.items s.costs.room.items s.prices.items s.flow.units.items
    refitted-suit k within = (are.fitted k within (λ i arc. all i k arc)).suits
