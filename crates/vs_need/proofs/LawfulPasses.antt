-- A lawful net whose arcs are in order can be gone along once.
use Rattle.std.proofs.Common.{◌≡◌, ◌≢◌, ℕ, ◌+◌, ◌<◌, inl, inr, List, length, refl, subst, arith}
use Rattle.std.proofs.lemmas.Bool.{cases_eq}
use Rattle.vs_layer.specs.declared.arc.Arc.{Arc}
use Rattle.vs_layer.specs.Graph.{arc_of}
use Rattle.vs_instance.specs.Problem.{Problem}
use Rattle.vs_match.specs.declared.event.Point.{Point}
use Rattle.vs_match.specs.declared.arc_kind.ArcKind.{ArcKind}
use Rattle.vs_match.specs.declared.arc_kind.ArcKind.TheVariants.{Trip, Waiting, Deadhead, PullOut, PullIn, RestIn, RestWait, RestOut, Return}
use Rattle.vs_match.specs.Events.{HasPoint}
use Rattle.vs_match.specs.NetArcs.{IsTripArc}
use Rattle.vs_match.specs.LayerGraph.{LayerGraph, IsArcOfTrip, arcs_in, kind_of}
use Rattle.vs_match.specs.LayerNets.{HasRisingArcs}
use Rattle.vs_match.specs.TripIndex.{IsBelow}
use Rattle.vs_match.specs.LawfulNets.{IsLawful, IsLawfulArc}
use Rattle.vs_match.proofs.CallerLemmas.{placed}
use Rattle.vs_need.specs.Nets.{CanBePassed}

placed_above : (points : List Point) (v : ℕ) (x : Point) → HasPoint points v x → 0 < v
placed_above points v x has = let is = placed points v x has in omega (arith, is.node)

module _ (p : Problem) (l : ℕ) (n : LayerGraph) (lawful : IsLawful p l n) where
  reaches_above : (kind : ArcKind) (a : Arc) → IsLawfulArc p l n.points kind a → kind ≢ Return → 0 < a.to
  reaches_above (Trip i) a is real = placed_above n.points a.to _ is.to
  reaches_above Waiting a is real = placed_above n.points a.to _ is.1.1
  reaches_above Deadhead a is real = placed_above n.points a.to _ is.1.1
  reaches_above PullOut a is real = placed_above n.points a.to _ is.1.1
  reaches_above PullIn a is real = omega (arith, is.1)
  reaches_above RestIn a is real = placed_above n.points a.to _ is.1.1
  reaches_above RestWait a is real = placed_above n.points a.to _ is.1.1
  reaches_above RestOut a is real = placed_above n.points a.to _ is.1.1
  reaches_above Return a is real = absurd (real refl)

  goes_up : (k : ℕ) → k < arcs_in n → kind_of n k ≢ Return → (arc_of n.graph k).from < (arc_of n.graph k).to
  goes_up k within real =
      let right = lawful.net.each_arc k within in
      elim (cases_eq (k + 1) (arcs_in n)) [
        | inl last ↦
            let above = reaches_above (kind_of n k) (arc_of n.graph k) (lawful.arcs k within) real in
            let first = right.goes_on.to_first last in
            absurd (omega (arith, above, first))
        | inr earlier ↦ right.goes_on.forward (omega arith)
      ]

  pub arc_of_trip : (i k : ℕ) → IsArcOfTrip n.kinds i k → IsTripArc p l n.points i (arc_of n.graph k)
  arc_of_trip i k is =
      let P : ArcKind → Type 0 = λ kind. IsLawfulArc p l n.points kind (arc_of n.graph k) in
      subst P is.1 (lawful.arcs k (omega (arith, is.0, lawful.labelled.each_arc)))

  pub can_be_passed : HasRisingArcs n → CanBePassed n (length p.trips)
  can_be_passed rising = record {
    net = lawful.net;
    labelled = lawful.labelled;
    rising = rising;
    upward = goes_up;
    below = λ i k is. (arc_of_trip i k is).may_run.0;
    one_arc = lawful.one_arc;
  }

-- the trip of an arc of such a net has a number below this one
pub kind_below : (n : LayerGraph) (trips k : ℕ) → CanBePassed n trips → k < arcs_in n → IsBelow trips (kind_of n k)
kind_below n trips k can within = by_kind (kind_of n k) refl
  where
    by_kind : (kind : ArcKind) → kind_of n k ≡ kind → IsBelow trips kind
    by_kind (Trip i) is = can.below i.0 k (omega (arith, can.labelled.each_arc, within), is)
    by_kind Waiting is = tt
    by_kind Deadhead is = tt
    by_kind PullOut is = tt
    by_kind PullIn is = tt
    by_kind RestIn is = tt
    by_kind RestWait is = tt
    by_kind RestOut is = tt
    by_kind Return is = tt
