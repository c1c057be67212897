-- The arcs of trips, one by one.
use Rattle.std.proofs.Common.{◌≡◌, ℕ, List, length, sym, ◌∙◌}
use Rattle.std.specs.Prelude.{AllPairs}
use Rattle.vs_instance.specs.Problem.{Problem}
use Rattle.vs_match.specs.declared.event.Point.{Point}
use Rattle.vs_match.specs.declared.arc_kind.ArcKind.TheVariants.{Trip}
use Rattle.vs_match.specs.declared.arc_kind.LayerArc.{LayerArc}
use Rattle.vs_match.specs.Events.{departure, arrival, IsBefore, point_of}
use Rattle.vs_match.specs.NetArcs.{IsTripArc}
use Rattle.vs_match.specs.Adds.{Adds, arc_in}
use Rattle.vs_match.specs.Parts.{IsTrip}
use Rattle.vs_match.proofs.events.Adding.{Upto, adds-as}
use Rattle.vs_match.proofs.events.Places.{same_node}

-- trip i's arc
abbrev pub OfTripNo : Problem → ℕ → List Point → ℕ → LayerArc → Type 0
OfTripNo p l points i x = (x.kind ≡ Trip (record { 0 = i })) × IsTripArc p l points i (arc_in x)

pub only_trip : (p : Problem) (l : ℕ) (points : List Point) → AllPairs IsBefore points → (i : ℕ) (x y : LayerArc)
    → OfTripNo p l points i x
    → OfTripNo p l points i y → x ≡ y
only_trip p l points ordered i x y (kind, arc) (kind', arc') =
    let from = same_node points ordered x.from y.from (point_of (departure p i)) arc.from arc'.from in
    let to = same_node points ordered x.to y.to (point_of (arrival p i)) arc.to arc'.to in
    let kinds = kind ∙ sym kind' in
    let costs = arc.cost ∙ sym arc'.cost in
    let rooms = arc.room ∙ sym arc'.room in
    λ t. record { from = from t; to = to t; kind = kinds t; cost = costs t; room = rooms t }

pub trips_are : (p : Problem) (l : ℕ) (points : List Point) (old new : List LayerArc)
    → Adds (Upto (OfTripNo p l points) (length p.trips)) old new
    → Adds (IsTrip p l points) old new
trips_are p l points old new adds =
    adds-as (Upto (OfTripNo p l points) (length p.trips)) (IsTrip p l points) old new adds
    (λ x (i, within, of). (record { 0 = i }, of.0, of.1))
    (λ x (i, kind, arc). (i.0, arc.may_run.0, (kind, arc)))
