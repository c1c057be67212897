-- What a search names has a name: the trips and layers of its steps, and those of its plans.
use Rattle.std.proofs.Common.{◌<◌, List, [], ◌∷◌, length, map, ap, subst, arith, Option, Some, None, IfSome}
use Rattle.std.specs.List.{All}
use Rattle.std.proofs.lemmas.List.Elements.{All-cons, All-map, All-nil, All-weaker}
use Rattle.vs_types.specs.Parts.{IsProperPart}
use Rattle.vs_types.specs.declared.layer_set.LayerSet.{LayerSet}
use Rattle.vs_types.specs.declared.numbers.TripNo.{TripNo}
use Rattle.vs_instance.specs.Blocks.{IsBlock}
use Rattle.vs_instance.specs.Plan.{LayerBlock}
use Rattle.vs_instance.specs.Problem.{Problem}
use Rattle.vs_instance.specs.Restriction.{IsRestriction, set_of}
use Rattle.vs_instance.specs.Ways.{no_trip}
use Rattle.vs_plan.specs.Blocks.{IsOfInstance}
use Rattle.vs_plan.specs.CheckedPlan.{Checked}
use Rattle.vs_reader.specs.Names.{HaveCounts, NameLists}
use Rattle.vs_rows.specs.DocumentRows.{IsNamedBlock}
use Rattle.vs_rows.proofs.CallerLemmas.{block_form}
use Rattle.vs_tree.specs.History.{FullStep, Opening, State, Took, Split, Closed, Offered, GaveBack, MayCome, MayFollow, after, first_state, is_inner, sets_at}
use Rattle.vs_tree.specs.Log.{plain_step}
use Rattle.vs_tree.specs.Sound.{IsOpening, IsPlanOf, IsSound}
use Rattle.vs_tree.proofs.CallerLemmas.{first_sound, leaf_within, step_sound}
use Rattle.vs_trace.specs.TraceRows.{IsSplitForm}
use Rattle.vs_trace.specs.Writing.{HasNames}

module _ (o : Opening) (opening : IsOpening o) (names : NameLists) (counts : HaveCounts o.problem names) where
  abbrev p : Problem
  p = o.problem

  split_named : (sets : List LayerSet) (trip : TripNo) (left : LayerSet) → IsRestriction p sets
      → trip.0 < length p.trips → IsProperPart left (set_of sets trip.0) → IsSplitForm names trip left
  split_named sets trip left restriction inside proper = record {
    trip_is = omega (arith, counts.trips, inside);
    some_layer = proper.some;
    layers_are = λ l has.
        let within = (opening.instance.trips trip.0 no_trip inside).layers l
        (restriction.permitted trip.0 l inside (proper.within l has)) in
        omega (arith, counts.layers, within);
  }

  pub step_named : (s : State) (step : FullStep) → MayCome o s step → IsSound o s → HasNames names (plain_step step)
  step_named s (Took worker leaf) may sound = tt
  step_named s (Split worker leaf table trip left prices) may sound =
      let within = leaf_within s.places leaf (ap is_inner may.holds.1) in
      split_named (sets_at s leaf) trip left (sound.restrictions leaf within) may.of_instance may.part
  step_named s (Closed worker leaf table prices) may sound = tt
  step_named s (Offered worker cost number added) may sound = tt
  step_named s (GaveBack worker leaf) may sound = tt

  steps_from : (s : State) (steps : List FullStep) → MayFollow o s steps → IsSound o s
      → All (λ step. HasNames names (plain_step step)) steps
  steps_from s [] may sound = All-nil (λ step. HasNames names (plain_step step))
  steps_from s (step ∷ steps) may sound =
      All-cons (λ x. HasNames names (plain_step x)) step steps (step_named s step may.0 sound)
      (steps_from (after s step) steps may.1 (step_sound o opening s step may.0 sound))

  -- of a history, as its steps are shown
  pub steps_named : (steps : List FullStep) → MayFollow o (first_state o) steps
      → All (HasNames names) (map plain_step steps)
  steps_named steps may =
      All-map (HasNames names) plain_step steps (steps_from (first_state o) steps may (first_sound o opening))

  -- the blocks of a plan of the instance
  pub blocks_named : (plan : Checked) → IsPlanOf p plan → All (IsNamedBlock names) plan.blocks
  blocks_named plan is =
      let of_instance : All (IsOfInstance p) plan.blocks =
      subst (λ (q : Problem). All (IsOfInstance q) plan.blocks) is.1
      (All-weaker (λ (b : LayerBlock). IsBlock plan.problem b.0 b.1) (IsOfInstance plan.problem)
      (λ b block. record { layer = block.layer; some_trip = block.some_trip; trips = block.of_instance })
      plan.blocks is.0.plan.each_block) in
      All-weaker (IsOfInstance p) (IsNamedBlock names) (block_form p names opening.instance counts) plan.blocks
      of_instance

  pub first_named : (first : Option Checked) → IfSome first (IsPlanOf p)
      → IfSome first (λ plan. All (IsNamedBlock names) plan.blocks)
  first_named None is = tt
  first_named (Some plan) is = blocks_named plan is
