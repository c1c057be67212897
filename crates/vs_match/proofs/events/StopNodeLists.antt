-- The nodes of events by their stops, put together one by one.
use Rattle.std.proofs.Common.{◌≡◌, ℕ, ◌+◌, ◌<◌, List, [], length, get_or, Option, Some, None, inl, inr, arith, sym, ap, ◌∙◌, refl, subst, true, false, eqb, ◌&&◌}
use Rattle.std.specs.Prelude.{◌↔◌, Contains, AllPairs, is_some}
use Rattle.std.specs.declared.cmp.Ordering.{Ordering}
use Rattle.std.specs.declared.cmp.Ordering.TheVariants.{Less}
use Rattle.std.specs.Ordering.{nat_cmp, ordering_then}
use Rattle.std.proofs.lemmas.Bool.{eqb-true, and_parts, false≢true}
use Rattle.std.proofs.lemmas.List.{get_or_default}
use Rattle.std.proofs.lemmas.Option.{none-some}
use Rattle.vs_instance.specs.Problem.{Problem}
use Rattle.vs_types.specs.declared.numbers.StopNo.{StopNo}
use Rattle.vs_match.specs.declared.event.Event.{Event}
use Rattle.vs_match.specs.declared.event.Point.{Point}
use Rattle.vs_match.specs.declared.stop_node.StopNode.{StopNode}
use Rattle.vs_match.specs.declared.event.TripEnd.{TripEnd}
use Rattle.vs_match.specs.declared.event.TripEnd.TheVariants.{Departure, Arrival}
use Rattle.vs_match.specs.Events.{MayRun, HasPlace, HasLine, IsBefore, ArePoints, point_of, line_point}
use Rattle.vs_match.specs.TripEnds.{event_at, HappensAt}
use Rattle.vs_match.specs.StopNodes.{event_of, IsStopNodeBefore, AreStopNodes, AreLineNodes}
use Rattle.vs_match.specs.Adds.{Adds}
use Rattle.vs_match.proofs.events.Adding.{Upto, contains-none}
use Rattle.vs_match.proofs.order.Orders.{less, less-then}
use Rattle.vs_match.proofs.events.Places.{placed, place-at, same_node, event_of_point}

abbrev pub stop_node_cmp : StopNode → StopNode → Ordering
stop_node_cmp a b =
    ordering_then (nat_cmp a.stop.0 b.stop.0) (ordering_then (nat_cmp a.minute b.minute) (nat_cmp a.node b.node))

-- nodes that test equal are
pub stop_node_equal : (a b : StopNode)
    → (eqb a.stop.0 b.stop.0 && (eqb a.minute b.minute && eqb a.node b.node)) ≡ true → a ≡ b
stop_node_equal a b is =
    let first = and_parts (eqb a.stop.0 b.stop.0) (eqb a.minute b.minute && eqb a.node b.node) is in
    let second = and_parts (eqb a.minute b.minute) (eqb a.node b.node) first.1 in
    let stop = eqb-true a.stop.0 b.stop.0 first.0 in
    let minute = eqb-true a.minute b.minute second.0 in
    let node = eqb-true a.node b.node second.1 in
    λ i. record { stop = record { 0 = stop i }; minute = minute i; node = node i }

-- a node of an event is known by the event
pub same_stop_node : (points : List Point) → AllPairs IsBefore points → (a b : StopNode) → event_of a ≡ event_of b
    → HasPlace points a.node (event_of a)
    → HasPlace points b.node (event_of b) → a ≡ b
same_stop_node points ordered a b same at at' =
    let P : Event → Type 0 = λ e. HasPlace points a.node e in
    let node = same_node points ordered a.node b.node (point_of (event_of b)) (subst P same at) at' in
    λ i. record { stop = (same i).stop; minute = (same i).minute; node = node i }

-- nodes of events in order by stop, minute and node are in order by stop and minute
module _ (points : List Point) (ordered : AllPairs IsBefore points) (Such : Event → Type 0) (stop_nodes : List StopNode)
    (only : (s : StopNode) → Contains stop_nodes s → HasPlace points s.node (event_of s) × Such (event_of s))
    (every : (s : StopNode) → HasPlace points s.node (event_of s) → Such (event_of s) → Contains stop_nodes s)
    (rising : AllPairs (λ a b. stop_node_cmp a b ≡ Less) stop_nodes) where
  before : (a b : StopNode) → Contains stop_nodes a → Contains stop_nodes b → stop_node_cmp a b ≡ Less
      → IsStopNodeBefore a b
  before a b has has' is = elim (less-then a.stop.0 b.stop.0 _ is) [
    | inl stop ↦ inl stop
    | inr same ↦ elim (less-then a.minute b.minute (nat_cmp a.node b.node) same.1) [
      | inl minute ↦ inr (same.0, minute)
      | inr both ↦
          let same_event : event_of a ≡ event_of b =
          λ i. record { minute = both.0 i; stop = record { 0 = same.0 i } } in
          let equal_nodes = same_stop_node points ordered a b same_event (only a has).0 (only b has').0 in
          absurd (omega (arith, less a.node b.node both.1, ap (λ (s : StopNode). s.node) equal_nodes))
    ]
  ]

  pub are_stop_nodes : AreStopNodes points Such stop_nodes
  are_stop_nodes = record {
    only = only;
    every = every;
    ordered = λ j k d less within. before (get_or stop_nodes j d) (get_or stop_nodes k d)
        (j, omega (arith, less, within), get_or_default stop_nodes j _ d (omega (arith, less, within)))
        (k, within, get_or_default stop_nodes k _ d within) (rising j k d less within);
  }

-- the node of point k, where it is an event
pub record OfPlace (points : List Point) (k : ℕ) (s : StopNode) : Type 0 where
  pub within : k < length points
  pub event : (d : Point) → get_or points k d ≡ point_of (event_of s)
  pub node : s.node ≡ k + 1

pub of_place : (points : List Point) (k : ℕ) (d : Point) (stop : StopNo) → k < length points
    → (get_or points k d).stop ≡ Some stop
    → OfPlace points k (record { stop = stop; minute = (get_or points k d).minute; node = k + 1 })
of_place points k d stop within is = record {
  within = within;
  event = λ e. get_or_default points k e d within
      ∙ (λ i. record { minute = (get_or points k d).minute; stop = is i });
  node = refl;
}

-- there is one such node
pub only_place : (points : List Point) (k : ℕ) (s t : StopNode) → OfPlace points k s → OfPlace points k t → s ≡ t
only_place points k s t of of' =
    let d = point_of (event_of s) in
    let event = event_of_point (event_of s) (event_of t) (sym (of.event d) ∙ of'.event d) in
    let node = of.node ∙ sym of'.node in
    λ i. record { stop = (event i).stop; minute = (event i).minute; node = node i }

-- and none for a point of the depot line
pub no_place : (points : List Point) (k : ℕ) (d : Point) → (get_or points k d).stop ≡ None → (s : StopNode)
    → ¬ (OfPlace points k s)
no_place points k d is s of = none-some s.stop (sym is ∙ ap (λ (x : Point). x.stop) (of.event d))

-- the node of trip i's event
abbrev pub OfTripEnd : TripEnd → Problem → ℕ → List Point → ℕ → StopNode → Type 0
OfTripEnd end p l points i s = MayRun p l i × ((event_at end p i ≡ event_of s) × HasPlace points s.node (event_of s))

pub happens : (end : TripEnd) (p : Problem) (l : ℕ) (e : Event) (i : ℕ) → MayRun p l i → event_at end p i ≡ e
    → HappensAt end p l e
happens Departure p l e i may is = (i, may, is)
happens Arrival p l e i may is = (i, may, is)

pub happening : (end : TripEnd) (p : Problem) (l : ℕ) (e : Event) → HappensAt end p l e → (i : ℕ) × MayRun p l i
    × (event_at end p i ≡ e)
happening Departure p l e has = has
happening Arrival p l e has = has

-- the nodes of all trips' events, put in order
pub trip_stop_nodes : (end : TripEnd) (p : Problem) (l : ℕ) (points : List Point) → AllPairs IsBefore points
    → (found stop_nodes : List StopNode)
    → Adds (Upto (OfTripEnd end p l points) (length p.trips)) [] found
    → ((s : StopNode) → Contains stop_nodes s ↔ Contains found s)
    → AllPairs (λ a b. stop_node_cmp a b ≡ Less) stop_nodes → AreStopNodes points (HappensAt end p l) stop_nodes
trip_stop_nodes end p l points ordered found stop_nodes adds same rising =
    are_stop_nodes points ordered (HappensAt end p l) stop_nodes
    (λ s has. elim ((adds s).0 ((same s).0 has)) [
      | inl none ↦ absurd (contains-none s none)
      | inr is ↦ (is.2.1.1, happens end p l (event_of s) is.0 is.2.0 is.2.1.0)
    ])
    (λ s at is. let i =
    happening end p l (event_of s) is in (same s).1 ((adds s).1 (inr (i.0, i.1.0, (i.1, (i.2, at))))))
    rising

-- the nodes of all events, put in order
pub event_stop_nodes : (points : List Point) → AllPairs IsBefore points → (found stop_nodes : List StopNode)
    → Adds (Upto (OfPlace points) (length points)) [] found
    → ((s : StopNode) → Contains stop_nodes s ↔ Contains found s)
    → AllPairs (λ a b. stop_node_cmp a b ≡ Less) stop_nodes
    → AreStopNodes points (λ e. Contains points (point_of e)) stop_nodes
event_stop_nodes points ordered found stop_nodes adds same rising =
    are_stop_nodes points ordered (λ e. Contains points (point_of e)) stop_nodes
    (λ s has. elim ((adds s).0 ((same s).0 has)) [
      | inl none ↦ absurd (contains-none s none)
      | inr is ↦
          let k = is.0 in
          let of = is.2 in
          let x = point_of (event_of s) in
          let P : ℕ → Type 0 = λ v. HasPlace points v (event_of s) in
          (subst P (sym of.node) (place-at points k x x of.within (of.event x)), (k, of.within, of.event x))
    ])
    (λ s at is.
    let x = placed points s.node (point_of (event_of s)) at in
    (same s).1 ((adds s).1 (inr (x.k, x.within, record { within = x.within; event = x.point; node = x.node }))))
    rising

-- the node of point k, where it is a minute of the depot line
pub record OfLine (points : List Point) (depot : StopNo) (k : ℕ) (s : StopNode) : Type 0 where
  pub within : k < length points
  pub line : (d : Point) → get_or points k d ≡ line_point s.minute
  pub stop : s.stop ≡ depot
  pub node : s.node ≡ k + 1

pub of_line : (points : List Point) (depot : StopNo) (k : ℕ) (d : Point) → k < length points
    → (get_or points k d).stop ≡ None
    → OfLine points depot k (record { stop = depot; minute = (get_or points k d).minute; node = k + 1 })
of_line points depot k d within is = record {
  within = within;
  line = λ e. get_or_default points k e d within
      ∙ (λ i. record { minute = (get_or points k d).minute; stop = is i });
  stop = refl;
  node = refl;
}

pub only_line : (points : List Point) (depot : StopNo) (k : ℕ) (s t : StopNode) → OfLine points depot k s
    → OfLine points depot k t → s ≡ t
only_line points depot k s t of of' =
    let d = line_point s.minute in
    let minute = ap (λ (x : Point). x.minute) (sym (of.line d) ∙ of'.line d) in
    let stop = of.stop ∙ sym of'.stop in
    let node = of.node ∙ sym of'.node in
    λ i. record { stop = stop i; minute = minute i; node = node i }

pub no_line : (points : List Point) (depot : StopNo) (k : ℕ) (d : Point) (stop : StopNo)
    → (get_or points k d).stop ≡ Some stop → (s : StopNode) → ¬ (OfLine points depot k s)
no_line points depot k d stop is s of = none-some stop (sym (ap (λ (x : Point). x.stop) (of.line d)) ∙ is)

-- the nodes of the depot line, put in order
module _ (points : List Point) (ordered : AllPairs IsBefore points) (depot : StopNo) (found line : List StopNode)
    (adds : Adds (Upto (OfLine points depot) (length points)) [] found)
    (same : (s : StopNode) → Contains line s ↔ Contains found s)
    (rising : AllPairs (λ a b. stop_node_cmp a b ≡ Less) line) where
  line_only : (s : StopNode) → Contains line s → HasLine points s.node s.minute × (s.stop ≡ depot)
  line_only s has = elim ((adds s).0 ((same s).0 has)) [
    | inl none ↦ absurd (contains-none s none)
    | inr is ↦
        let of = is.2 in
        let x = line_point s.minute in
        let P : ℕ → Type 0 = λ v. HasLine points v s.minute in
        (subst P (sym of.node) (place-at points is.0 x x of.within (of.line x)), of.stop)
  ]

  line_before : (a b : StopNode) → Contains line a → Contains line b → stop_node_cmp a b ≡ Less → a.minute < b.minute
  line_before a b has has' is =
      let x = line_only a has in
      let y = line_only b has' in
      elim (less-then a.stop.0 b.stop.0 _ is) [
        | inl stop ↦
            absurd (omega (arith, stop, ap (λ (s : StopNo). s.0) x.1, ap (λ (s : StopNo). s.0) y.1))
        | inr same_stop ↦ elim (less-then a.minute b.minute (nat_cmp a.node b.node) same_stop.1) [
          | inl minute ↦ minute
          | inr both ↦
              let P : ℕ → Type 0 = λ m. HasLine points a.node m in
              let node = same_node points ordered a.node b.node (line_point b.minute) (subst P both.0 x.0) y.0 in
              absurd (omega (arith, less a.node b.node both.1, node))
        ]
      ]

  pub are_line_nodes : AreLineNodes points depot line
  are_line_nodes = record {
    only = line_only;
    every = λ s at stop.
        let x = placed points s.node (line_point s.minute) at in
        (same s).1
        ((adds s).1 (inr (x.k, x.within, record { within = x.within; line = x.point; stop = stop; node = x.node })));
    rising = λ j k d less within. line_before (get_or line j d) (get_or line k d)
        (j, omega (arith, less, within), get_or_default line j _ d (omega (arith, less, within)))
        (k, within, get_or_default line k _ d within) (rising j k d less within);
  }

-- a trip's event is one of the points
pub event_known : (end : TripEnd) (p : Problem) (l i : ℕ) (points : List Point) → ArePoints p l points
    → MayRun p l i → Contains points (point_of (event_at end p i))
event_known Departure p l i points are may = are.every (point_of (event_at Departure p i)) (inl (i, may, refl))
event_known Arrival p l i points are may = are.every (point_of (event_at Arrival p i)) (inr (i, may, refl))

-- what the test of a stop tells
pub none_of_test : (o : Option StopNo) → is_some o ≡ false → o ≡ None
none_of_test None is = refl
none_of_test (Some stop) is = absurd (false≢true (sym is))

pub some_of_test : (o : Option StopNo) → is_some o ≡ true → (stop : StopNo) × (o ≡ Some stop)
some_of_test None is = absurd (false≢true is)
some_of_test (Some stop) is = (stop, refl)
