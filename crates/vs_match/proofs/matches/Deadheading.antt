-- The matches between the nodes at two stops are the deadheads between them.
use Rattle.std.proofs.Common.{◌≡◌, ◌≢◌, ℕ, ◌+◌, ◌<◌, List, length, get_or, Some, inl, inr, arith, sym, ap, ◌∙◌, refl, subst}
use Rattle.std.specs.Prelude.{◌↔◌, Contains}
use Rattle.std.proofs.lemmas.Bool.{cases_lt}
use Rattle.std.specs.List.{All}
use Rattle.std.proofs.lemmas.List.{get_or_default}
use Rattle.vs_instance.specs.declared.limits.TheConstants.{TWO_DAYS}
use Rattle.vs_types.specs.declared.numbers.StopNo.{StopNo}
use Rattle.vs_instance.specs.declared.way.Way.{Way}
use Rattle.vs_instance.specs.Problem.{Problem}
use Rattle.vs_instance.specs.Ways.{way, no_trip}
use Rattle.vs_instance.specs.Instance.{IsInstance}
use Rattle.vs_match.specs.declared.event.Event.{Event}
use Rattle.vs_match.specs.declared.event.Point.{Point}
use Rattle.vs_match.specs.declared.nodes.Nodes.{Nodes}
use Rattle.vs_match.specs.declared.stop_node.StopNode.{StopNode}
use Rattle.vs_match.specs.declared.arc_kind.LayerArc.{LayerArc}
use Rattle.vs_match.specs.declared.matching.Matching.{Matching}
use Rattle.vs_match.specs.declared.matching.Matching.TheVariants.{First, Latest}
use Rattle.vs_match.specs.Events.{DepartsAt, ArrivesAt, IsEvent, HasPlace, point_of}
use Rattle.vs_match.specs.Matches.{IsMatch, IsFirstMatch}
use Rattle.vs_match.specs.StopNodes.{event_of}
use Rattle.vs_match.specs.Nodes.{AreNodes}
use Rattle.vs_match.specs.Adds.{Adds}
use Rattle.vs_match.specs.Parts.{IsDeadhead, IsDeadheadFrom, IsDeadheadTo}
use Rattle.vs_match.specs.Sweep.{IsFirstFrom, IsKept, IsMatched}
use Rattle.vs_match.specs.ArcsOf.{deadhead_of}
use Rattle.vs_match.proofs.events.Adding.{Upto, adds-as}
use Rattle.vs_match.proofs.walks.ClosedWays.{some-same}
use Rattle.vs_match.proofs.events.Places.{has_node}
use Rattle.vs_match.proofs.walks.WalkBounds.{first_of_match}
use Rattle.vs_match.proofs.walks.WaitingChains.{same_stop}

-- these are the nodes at a stop, of those
abbrev pub AreAt : StopNo → List StopNode → List StopNode → Type 0
AreAt stop stop_nodes here = (s : StopNode) → Contains here s ↔ (Contains stop_nodes s × (s.stop ≡ stop))

pub departs_within : (p : Problem) → IsInstance p → (l : ℕ) (e : Event) → DepartsAt p l e → (e.minute < TWO_DAYS)
    × (e.stop.0 < p.stops)
departs_within p is l e (i, may, at) =
    let trip = is.trips i no_trip may.0 in (
      omega (arith, trip.lasts, trip.end, ap (λ (x : Event). x.minute) at),
      omega (arith, trip.from, ap (λ (x : Event). x.stop.0) at),
    )

pub arrives_within : (p : Problem) → IsInstance p → (l : ℕ) (e : Event) → ArrivesAt p l e → (e.minute < TWO_DAYS)
    × (e.stop.0 < p.stops)
arrives_within p is l e (i, may, at) =
    let trip = is.trips i no_trip may.0 in
    (omega (arith, trip.end, ap (λ (x : Event). x.minute) at), omega (arith, trip.to, ap (λ (x : Event). x.stop.0) at))

module _ (p : Problem) (l : ℕ) (nodes : Nodes) (are : AreNodes p l nodes) where
  abbrev points : List Point
  points = nodes.points.items

  module _ (matching : Matching) (w : Way) (k s : StopNo) (apart : k.0 ≢ s.0) (way_is : way p k.0 s.0 ≡ Some w)
      (arrivals departures : List StopNode)
      (from : AreAt k nodes.arrivals.items arrivals) (to : AreAt s nodes.departures.items departures) where
    -- the node of an arrival at the one stop, and of a departure at the other
    arrival_there : (e : Event) → ArrivesAt p l e → e.stop ≡ k → (x : StopNode) × Contains arrivals x × (event_of x ≡ e)
    arrival_there e arrives at =
        let v = has_node points (point_of e) (are.points.every (point_of e) (inr arrives)) in
        let x : StopNode = record { stop = e.stop; minute = e.minute; node = v.0 } in
        (x, (from x).1 (are.arrivals.every x v.1 arrives, at), refl)

    departure_there : (e : Event) → DepartsAt p l e → e.stop ≡ s
        → (x : StopNode) × Contains departures x × (event_of x ≡ e)
    departure_there e departs at =
        let v = has_node points (point_of e) (are.points.every (point_of e) (inl departs)) in
        let x : StopNode = record { stop = e.stop; minute = e.minute; node = v.0 } in
        (x, (to x).1 (are.departures.every x v.1 departs, at), refl)

    arrives_at : (a : StopNode) → Contains arrivals a
        → (HasPlace points a.node (event_of a) × ArrivesAt p l (event_of a)) × (a.stop ≡ k)
    arrives_at a has = let both = (from a).0 has in (are.arrivals.only a both.0, both.1)

    departs_at : (b : StopNode) → Contains departures b
        → (HasPlace points b.node (event_of b) × DepartsAt p l (event_of b)) × (b.stop ≡ s)
    departs_at b has = let both = (to b).0 has in (are.departures.only b both.0, both.1)

    way_of : (a b : StopNode) → a.stop ≡ k → b.stop ≡ s → way p a.stop.0 b.stop.0 ≡ Some w
    way_of a b at at' = ap (λ (x : StopNo). way p x.0 b.stop.0) at ∙ ap (λ (x : StopNo). way p k.0 x.0) at' ∙ way_is

    first_match : (a b : StopNode) → Contains arrivals a → IsFirstFrom departures (a.minute + w.minutes) b
        → IsFirstMatch p l w (event_of a) (event_of b)
    first_match a b has first =
        let x = arrives_at a has in
        let y = departs_at b first.departs in
        record {
          arrives = x.0.1;
          departs = y.0.1;
          apart = λ same. apart (sym (ap (λ (z : StopNo). z.0) x.1) ∙ same ∙ ap (λ (z : StopNo). z.0) y.1);
          way_is = way_of a b x.1 y.1;
          in_time = first.in_time;
          first = λ c departs same late.
              let z = departure_there c departs (same ∙ y.1) in
              let minute = ap (λ (e : Event). e.minute) z.2 in
              omega (arith, minute, first.first z.0 z.1 (omega (arith, minute, late)));
        }

    match_of : (m : Matching) (a b : StopNode) → Contains arrivals a → IsFirstFrom departures (a.minute + w.minutes) b
        → IsKept m arrivals w a b
        → IsMatch p l m w (event_of a) (event_of b)
    match_of First a b has first kept = first_match a b has first
    match_of Latest a b has first kept = record {
      is_match = first_match a b has first;
      latest = λ c same other.
          let z = arrival_there c other.arrives (same ∙ (arrives_at a has).1) in
          let minute = ap (λ (e : Event). e.minute) z.2 in
          omega (arith, minute, kept z.0 z.1 (omega (arith, minute, other.in_time)));
    }

    -- a match is a deadhead
    to_deadhead : (x : LayerArc) → IsMatched p l matching w arrivals departures x
        → IsDeadheadTo p l matching points k.0 s.0 x
    to_deadhead x m =
        let a = arrives_at m.since m.arrives in
        let b = departs_at m.until m.first.departs in
        let P : ℕ → Type 0 = λ v. HasPlace points v (event_of m.since) in
        let Q : ℕ → Type 0 = λ v. HasPlace points v (event_of m.until) in
        record {
          kind = ap (λ (y : LayerArc). y.kind) m.is;
          arc = record {
            since = event_of m.since;
            until = event_of m.until;
            by = w;
            from = subst P (sym (ap (λ (y : LayerArc). y.from) m.is)) a.0.0;
            to = subst Q (sym (ap (λ (y : LayerArc). y.to) m.is)) b.0.0;
            matched = match_of matching m.since m.until m.arrives m.first m.kept;
            cost = ap (λ (y : LayerArc). y.cost) m.is;
            room = ap (λ (y : LayerArc). y.room) m.is;
          };
          leaves = ap (λ (z : StopNo). z.0) a.1;
          reaches = ap (λ (z : StopNo). z.0) b.1;
        }

    first_from : (a b : Event) (u v : ℕ) → HasPlace points v b → b.stop ≡ s → IsFirstMatch p l w a b
        → IsFirstFrom departures (a.minute + w.minutes) (record { stop = b.stop; minute = b.minute; node = v })
    first_from a b u v at there first =
        let x : StopNode = record { stop = b.stop; minute = b.minute; node = v } in
        record {
          departs = (to x).1 (are.departures.every x at first.departs, there);
          in_time = first.in_time;
          first = λ c has late. let y = departs_at c has in first.first (event_of c) y.0.1 (y.1 ∙ sym there) late;
        }

    kept_from : (m : Matching) (a b : Event) (u v : ℕ) → a.stop ≡ k → b.stop ≡ s → IsMatch p l m w a b
        → IsKept m arrivals w (record { stop = a.stop; minute = a.minute; node = u })
        (record { stop = b.stop; minute = b.minute; node = v })
    kept_from First a b u v at at' match = tt
    kept_from Latest a b u v at at' match = λ c has early.
        elim (cases_lt a.minute c.minute) [
          | inr no_later ↦ no_later
          | inl later ↦
              let y = arrives_at c has in
              let first = match.is_match in
              match.latest (event_of c) (y.1 ∙ sym at) (record {
                arrives = y.0.1;
                departs = first.departs;
                apart = λ same. first.apart (ap (λ (z : StopNo). z.0) (at ∙ sym y.1) ∙ same);
                way_is = ap (λ (z : StopNo). way p z.0 b.stop.0) (y.1 ∙ sym at) ∙ first.way_is;
                in_time = early;
                first = λ e departs same late. first.first e departs same (omega (arith, later, late));
              })
        ]

    -- a deadhead is a match
    from_deadhead : (x : LayerArc) → IsDeadheadTo p l matching points k.0 s.0 x
        → IsMatched p l matching w arrivals departures x
    from_deadhead x d =
        let arc = d.arc in
        let first = first_of_match p l matching arc.by arc.since arc.until arc.matched in
        let at = same_stop arc.since.stop k d.leaves in
        let at' = same_stop arc.until.stop s d.reaches in
        let by : arc.by ≡ w =
        some-same arc.by w
        (sym first.way_is ∙ ap (λ (z : StopNo). way p z.0 arc.until.stop.0) at
        ∙ ap (λ (z : StopNo). way p k.0 z.0) at' ∙ way_is) in
        let P : Way → Type 0 = λ v. IsMatch p l matching v arc.since arc.until in
        let matched = subst P by arc.matched in
        let first' = first_of_match p l matching w arc.since arc.until matched in
        let since : StopNode = record { stop = arc.since.stop; minute = arc.since.minute; node = x.from } in
        let until : StopNode = record { stop = arc.until.stop; minute = arc.until.minute; node = x.to } in
        let cost = arc.cost ∙ ap (λ (v : Way). (deadhead_of p l v since until).cost) by in
        record {
          since = since;
          until = until;
          arrives = (from since).1 (are.arrivals.every since arc.from first'.arrives, at);
          first = first_from arc.since arc.until x.from x.to arc.to at' first';
          kept = kept_from matching arc.since arc.until x.from x.to at at' matched;
          is = λ i. record { from = x.from; to = x.to; kind = d.kind i; cost = cost i; room = arc.room i };
        }

    pub matches_are : (old new : List LayerArc) → Adds (IsMatched p l matching w arrivals departures) old new
        → Adds (IsDeadheadTo p l matching points k.0 s.0) old new
    matches_are old new adds =
        adds-as (IsMatched p l matching w arrivals departures)
        (IsDeadheadTo p l matching points k.0 s.0) old new adds to_deadhead from_deadhead

  -- no deadhead from a stop without an arrival, to the stop itself, or where there is no way
  pub none_from : (matching : Matching) (k : StopNo) (arrivals : List StopNode) → AreAt k nodes.arrivals.items arrivals
      → length arrivals ≡ 0
      → (x : LayerArc) → ¬ (IsDeadheadFrom p l matching points k.0 x)
  none_from matching k arrivals from none x d =
      let arc = d.arc in
      let first = first_of_match p l matching arc.by arc.since arc.until arc.matched in
      let since : StopNode = record { stop = arc.since.stop; minute = arc.since.minute; node = x.from } in
      let has = (from since).1 (are.arrivals.every since arc.from first.arrives, same_stop arc.since.stop k d.leaves) in
      omega (arith, has.1, none)

  pub none_itself : (matching : Matching) (k s : ℕ) → k ≡ s → (x : LayerArc)
      → ¬ (IsDeadheadTo p l matching points k s x)
  none_itself matching k s same x d =
      (first_of_match p l matching d.arc.by d.arc.since d.arc.until d.arc.matched).apart
      (d.leaves ∙ same ∙ sym d.reaches)

  pub none_without : (matching : Matching) (k s : ℕ) → ((w : Way) → ¬ (way p k s ≡ Some w)) → (x : LayerArc)
      → ¬ (IsDeadheadTo p l matching points k s x)
  none_without matching k s none x d =
      none d.arc.by
      (sym (ap (λ (n : ℕ). way p n s) d.leaves) ∙ sym (ap (λ (n : ℕ). way p d.arc.since.stop.0 n) d.reaches)
      ∙ (first_of_match p l matching d.arc.by d.arc.since d.arc.until d.arc.matched).way_is)

  -- the deadheads to all stops, and from all stops
  pub from_all : IsInstance p → (matching : Matching) (k : ℕ) (old new : List LayerArc)
      → Adds (Upto (IsDeadheadTo p l matching points k) p.stops) old new
      → Adds (IsDeadheadFrom p l matching points k) old new
  from_all is matching k old new adds =
      adds-as (Upto (IsDeadheadTo p l matching points k) p.stops) (IsDeadheadFrom p l matching points k) old new adds
      (λ x (s, within, d). record { kind = d.kind; arc = d.arc; leaves = d.leaves })
      (λ x d.
      let first = first_of_match p l matching d.arc.by d.arc.since d.arc.until d.arc.matched in (
        d.arc.until.stop.0,
        (departs_within p is l d.arc.until first.departs).1,
        record {
          kind = d.kind;
          arc =
              d.arc;
          leaves = d.leaves;
          reaches = refl;
        },
      ))

  pub all_deadheads : IsInstance p → (matching : Matching) (old new : List LayerArc)
      → Adds (Upto (IsDeadheadFrom p l matching points) p.stops) old new
      → Adds (IsDeadhead p l matching points) old new
  all_deadheads is matching old new adds =
      adds-as (Upto (IsDeadheadFrom p l matching points) p.stops) (IsDeadhead p l matching points) old new adds
      (λ x (k, within, d). (d.kind, d.arc))
      (λ x (kind, arc).
      let first = first_of_match p l matching arc.by arc.since arc.until arc.matched in (
        arc.since.stop.0,
        (arrives_within p is l arc.since first.arrives).1,
        record {
          kind = kind;
          arc =
              arc;
          leaves = refl;
        },
      ))

  -- nodes at a stop have minutes of the two days
  pub arrivals_within : IsInstance p → (k : StopNo) (arrivals : List StopNode) → AreAt k nodes.arrivals.items arrivals
      → All (λ s. s.minute < TWO_DAYS) arrivals
  arrivals_within is k arrivals from j d within =
      let s = get_or arrivals j d in
      let has = ((from s).0 (j, within, get_or_default arrivals j s d within)).0 in
      (arrives_within p is l (event_of s) (are.arrivals.only s has).1).0

  pub departures_within : IsInstance p → (k : StopNo) (departures : List StopNode)
      → AreAt k nodes.departures.items departures → All (λ s. s.minute < TWO_DAYS) departures
  departures_within is k departures to j d within =
      let s = get_or departures j d in
      let has = ((to s).0 (j, within, get_or_default departures j s d within)).0 in
      (departs_within p is l (event_of s) (are.departures.only s has).1).0

-- an event's minute is of the two days
pub event_within : (p : Problem) → IsInstance p → (l : ℕ) (e : Event) → IsEvent p l e → e.minute < TWO_DAYS
event_within p is l e (inl departs) = (departs_within p is l e departs).0
event_within p is l e (inr arrives) = (arrives_within p is l e arrives).0
