-- The blocks of a circulation run its trips, and are paid the same.
use Rattle.std.proofs.Common.{◌≡◌, ℕ, zero, suc, ◌<◌, ◌≤◌, Bool, cond, eqb, List, [], ◌∷◌, length, get_or, count_by, refl, sym, ap, ◌∙◌, arith, inl, inr, ℤ, pos, ◌*ℤ◌}
use Rattle.std.specs.Prelude.{slice_index}
use Rattle.std.specs.List.{All}
use Rattle.std.proofs.lemmas.Bool.{eq-eqb}
use Rattle.std.proofs.lemmas.List.Elements.{All-head, All-tail, All-nil, All-append}
use Rattle.std.proofs.lemmas.List.Sums.{sum_by-cons}
use Rattle.vs_types.proofs.CallerLemmas.{none_times, times_none}
use Rattle.vs_layer.specs.Circulation.{IsCirculation}
use Rattle.vs_types.specs.declared.numbers.LayerNo.{LayerNo}
use Rattle.vs_types.specs.declared.numbers.TripNo.{TripNo}
use Rattle.vs_instance.specs.Problem.{Problem}
use Rattle.vs_instance.specs.Lagrangian.{AreBlocksOf, multiplier_of, paid_for}
use Rattle.vs_instance.specs.Plan.{LayerBlock, all_trips, times_run}
use Rattle.vs_instance.proofs.CallerLemmas.{IsOwnBlock, trips_inside, total-by_count}
use Rattle.vs_match.specs.declared.arc_kind.ArcKind.{ArcKind}
use Rattle.vs_match.specs.declared.arc_kind.ArcKind.TheVariants.{Trip, Waiting, Deadhead, PullOut, PullIn, RestIn, RestWait, RestOut, Return}
use Rattle.vs_match.specs.Decomposition.{Decompose}
use Rattle.vs_match.specs.Events.{MayRun}
use Rattle.vs_match.specs.LawfulNets.{IsLawful}
use Rattle.vs_match.specs.LayerGraph.{IsArcOfTrip, LayerGraph, kind_of}
use Rattle.vs_circ.specs.Circulations.{RunTrip, paid_by_units, paid_on}
use Rattle.vs_circ.specs.PricedFlows.{last_arc}
use Rattle.vs_circ.proofs.low.ArcTotals.{paid_by_arcs, paid_on_units}
use Rattle.vs_circ.proofs.low.LayerBounds.{not_run, paid_for-total}
use Rattle.vs_circ.proofs.low.Reindexing.{over_range, total-same}
use Rattle.vs_circ.proofs.low.LawfulArcs.{return_arc, trip_arc}
use Rattle.vs_circ.proofs.low.TripArcs.{arc_or_none, at_trip, at_trip-arc, at_trip-none, on_trip, on_trips, total-by_trip}

-- each trip of a layer's blocks is one that the layer may run
trips_may_run : (p : Problem) (l : LayerNo) (blocks : List LayerBlock) → All (IsOwnBlock p l) blocks
    → All (λ i. MayRun p l.0 i.0) (all_trips blocks)
trips_may_run p l [] each = All-nil (λ (i : TripNo). MayRun p l.0 i.0)
trips_may_run p l (b ∷ blocks) each =
    let block = (All-head (IsOwnBlock p l) b blocks each).1 in
    All-append (λ (i : TripNo). MayRun p l.0 i.0) b.1 (all_trips blocks)
    (λ k d within. (block.of_instance k d within, block.permitted k d within))
    (trips_may_run p l blocks (All-tail (IsOwnBlock p l) b blocks each))

-- a trip that stands in a list is counted there
counted_once : (trips : List TripNo) (k : ℕ) (d : TripNo) → k < length trips
    → 0 < count_by (λ t. eqb t.0 (get_or trips k d).0) trips
counted_once [] k d within = absurd (omega arith)
counted_once (t ∷ trips) zero d within =
    let more = sum_by-cons (λ (s : TripNo). cond (eqb s.0 t.0) 1 0) t trips in
    let here = ap {B = ℕ} (λ (b : Bool). cond b 1 0) (eq-eqb t.0 t.0 refl) in
    omega (arith, more, here)
counted_once (t ∷ trips) (suc k) d within =
    let i = (get_or trips k d).0 in
    let more = sum_by-cons (λ (s : TripNo). cond (eqb s.0 i) 1 0) t trips in
    let rest = counted_once trips k d (omega arith) in
    omega (arith, more, rest)

-- units on an arc of no trip aren't paid
paid_on_trips : (multipliers : List ℤ) (kind : ArcKind) (u : ℕ)
    → paid_on multipliers kind *ℤ pos u ≡ on_trip kind (paid_on multipliers kind *ℤ pos u)
paid_on_trips multipliers (Trip i) u = refl
paid_on_trips multipliers Waiting u = none_times u
paid_on_trips multipliers Deadhead u = none_times u
paid_on_trips multipliers PullOut u = none_times u
paid_on_trips multipliers PullIn u = none_times u
paid_on_trips multipliers RestIn u = none_times u
paid_on_trips multipliers RestWait u = none_times u
paid_on_trips multipliers RestOut u = none_times u
paid_on_trips multipliers Return u = none_times u

module _ (p : Problem) (l : LayerNo) (n : LayerGraph) (lawful : IsLawful p l.0 n) (units : List ℕ) where
  -- the trips on the arcs are the instance's
  pub arcs_inside : (i k : ℕ) → IsArcOfTrip n.kinds i k → i < length p.trips
  arcs_inside i k arc = (trip_arc p l n lawful i k arc).may_run.0

  -- what the trips of the units are paid, trip by trip
  pub paid_by_trips : (multipliers : List ℤ) → length units ≡ length n.graph.arcs
      → paid_by_units multipliers n.kinds units
      ≡ over_range (at_trip n.kinds (paid_on_units n units multipliers)) 0 (length p.trips)
  paid_by_trips multipliers sized =
      paid_by_arcs n units sized multipliers lawful.labelled.each_arc
      ∙ total-same (paid_on_units n units multipliers) (on_trips n.kinds (paid_on_units n units multipliers)) 0
      (length n.kinds) (λ k from within. paid_on_trips multipliers (kind_of n k) (slice_index units k))
      ∙ total-by_trip n.kinds (paid_on_units n units multipliers) (length p.trips) arcs_inside

  module _ (circulation : IsCirculation n.graph units) where
    -- a circulation runs no trip twice
    pub run_once : (i k : ℕ) → IsArcOfTrip n.kinds i k → slice_index units k ≤ 1
    run_once i k arc =
        let room = (trip_arc p l n lawful i k arc).room in
        let labelled = lawful.labelled.each_arc in
        let within = circulation.rooms k (omega (arith, arc.0)) in
        omega arith

    module _ (blocks : List LayerBlock) (parts : Decompose p l n units blocks) where
      -- a trip without an arc isn't run
      without_arc : (i : ℕ) → ((k : ℕ) → ¬ (IsArcOfTrip n.kinds i k)) → times_run blocks i ≡ 0
      without_arc i none =
          not_run (MayRun p l.0) (all_trips blocks) i (trips_may_run p l blocks parts.each_block)
          (λ may. let arc = lawful.each_trip i may in none arc.0 arc.1)

      -- a trip is run at most once
      at_most_once : (i : ℕ) → times_run blocks i ≤ 1
      at_most_once i =
          elim (arc_or_none n.kinds i) [
            | inl arc ↦
                let same = parts.trips i arc.0 arc.1 in
                let once = run_once i arc.0 arc.1 in
                omega arith
            | inr none ↦ let never = without_arc i none in omega arith
          ]

      -- a trip of the blocks is one that the units run
      pub units_run : (i : ℕ) → 0 < times_run blocks i → RunTrip n units i
      units_run i some =
          elim (arc_or_none n.kinds i) [
            | inl arc ↦
                let same = parts.trips i arc.0 arc.1 in
                (arc.0, arc.1, omega arith)
            | inr none ↦ let never = without_arc i none in absurd (omega arith)
          ]

      -- the blocks are such of trips that may be run, where the units run no others
      pub are_blocks : (May : ℕ → Type 0) → ((i : ℕ) → RunTrip n units i → May i) → AreBlocksOf p l May blocks
      are_blocks May only =
          let some = lawful.net.some_arc in
          let room = (return_arc p l n lawful).room in
          let within = circulation.rooms (last_arc n) (omega arith) in
          let few = parts.vehicles in
          record {
            each_block = parts.each_block;
            fleet = omega arith;
            at_most_once = λ i inside. at_most_once i;
            within = λ k d inside. only (get_or (all_trips blocks) k d).0
                (units_run (get_or (all_trips blocks) k d).0 (counted_once (all_trips blocks) k d inside));
          }

      -- the blocks are paid what the units are
      pub paid_the_same : (multipliers : List ℤ)
          → paid_for multipliers (all_trips blocks) ≡ paid_by_units multipliers n.kinds units
      paid_the_same multipliers =
          let mult = multiplier_of multipliers in
          paid_for-total multipliers (all_trips blocks)
          ∙ total-by_count mult (λ (t : TripNo). t.0) (length p.trips) (all_trips blocks)
          (trips_inside p l blocks parts.each_block)
          ∙ total-same (λ i. mult i *ℤ pos (times_run blocks i))
          (at_trip n.kinds (paid_on_units n units multipliers)) 0 (length p.trips)
          (λ i from within. elim (arc_or_none n.kinds i) [
            | inl arc ↦
                ap (λ (u : ℕ). mult i *ℤ pos u) (parts.trips i arc.0 arc.1)
                ∙ sym (at_trip-arc n.kinds (paid_on_units n units multipliers) i arc.0 arc.1
                (λ j other. lawful.one_arc i j arc.0 other arc.1)
                ∙ ap (λ (kind : ArcKind). paid_on multipliers kind *ℤ pos (slice_index units arc.0)) arc.1.1)
            | inr none ↦
                ap (λ (u : ℕ). mult i *ℤ pos u) (without_arc i none) ∙ times_none (mult i)
                ∙ sym (at_trip-none n.kinds (paid_on_units n units multipliers) i none)
          ])
          ∙ sym (paid_by_trips multipliers circulation.each_arc)
