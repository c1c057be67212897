-- The circulations of a lawful net cost what the blocks of its layer do.
use Rattle.std.proofs.Common.{◌≡◌, ℕ, ◌*◌, ◌<◌, ◌≤◌, Bool, cond, eqb, List, [], ◌∷◌, length, All, Option, Some, None, refl, sym, ap, ◌∙◌, subst, arith, inl, inr, ℤ, pos, ◌≤ℤ◌, option_map}
use Rattle.std.specs.Prelude.{slice_index, ◌⊎◌, ◌↔◌}
use Rattle.std.proofs.lemmas.Bool.{cases_eq, ne_eqb}
use Rattle.std.proofs.lemmas.Int.{ints}
use Rattle.std.proofs.lemmas.List.Elements.{All-head, All-tail, All-append}
use Rattle.std.proofs.lemmas.List.Sums.{sum_by-cons}
use Rattle.vs_layer.specs.Graph.{arc_of}
use Rattle.vs_layer.specs.Circulation.{IsCirculation, flow_cost}
use Rattle.vs_types.specs.declared.numbers.LayerNo.{LayerNo}
use Rattle.vs_types.specs.declared.numbers.TripNo.{TripNo}
use Rattle.vs_instance.specs.Problem.{Problem}
use Rattle.vs_instance.specs.Instance.{IsInstance}
use Rattle.vs_instance.specs.Blocks.{IsBlock}
use Rattle.vs_instance.specs.Plan.{LayerBlock, all_trips, plan_cost, times_run}
use Rattle.vs_match.specs.declared.arc_kind.ArcKind.{ArcKind}
use Rattle.vs_match.specs.Events.{MayRun}
use Rattle.vs_match.specs.NetArcs.{at_scale, IsTripArc}
use Rattle.vs_match.specs.LawfulNets.{IsLawful, IsLawfulArc}
use Rattle.vs_match.specs.LayerGraph.{LayerGraph, IsArcOfTrip}
use Rattle.vs_match.specs.Aggregation.{BlocksRun, UnitsRun, IsLeastOfBlocks, IsLeastOfUnits}
use Rattle.vs_match.proofs.decomposition.Dividing.{circulation_decomposes}
use Rattle.vs_match.proofs.composition.NetEnds.{last, last-within, last_arc}
use Rattle.vs_match.proofs.composition.Runs.{times_in}
use Rattle.vs_match.proofs.composition.Composing.{compose}

module _ (p : Problem) (l : LayerNo) where
  -- a trip that stands among trips of the layer is one that it may run
  times_or_may : (trips : List TripNo) (i : ℕ) → All (λ t. MayRun p l.0 t.0) trips
      → (times_in trips i ≡ 0) ⊎ MayRun p l.0 i
  times_or_may [] i each = inl refl
  times_or_may (t ∷ trips) i each =
      let here = All-head (λ (x : TripNo). MayRun p l.0 x.0) t trips each in
      let rest = times_or_may trips i (All-tail (λ (x : TripNo). MayRun p l.0 x.0) t trips each) in
      elim (cases_eq t.0 i) [
        | inl same ↦ inr (subst (MayRun p l.0) same here)
        | inr apart ↦ elim rest [
          | inl none ↦
              let more = sum_by-cons (λ (x : TripNo). cond (eqb x.0 i) 1 0) t trips in
              let skipped = ap {B = ℕ} (λ (b : Bool). cond b 1 0) (ne_eqb t.0 i apart) in
              inl (omega (arith, more, skipped, none))
          | inr may ↦ inr may
        ]
      ]

  -- so are all trips of blocks of the layer
  each_may : (blocks : List LayerBlock) → All (λ b. (b.0 ≡ l) × IsBlock p l b.1) blocks
      → All (λ t. MayRun p l.0 t.0) (all_trips blocks)
  each_may [] each = λ k d within. absurd (omega arith)
  each_may (b ∷ blocks) each =
      let here = All-head (λ (c : LayerBlock). (c.0 ≡ l) × IsBlock p l c.1) b blocks each in
      let rest = All-tail (λ (c : LayerBlock). (c.0 ≡ l) × IsBlock p l c.1) b blocks each in
      All-append (λ (t : TripNo). MayRun p l.0 t.0) b.1 (all_trips blocks)
      (λ k d within. (here.1.of_instance k d within, here.1.permitted k d within))
      (each_may blocks rest)

  -- a trip that blocks of the layer run once is one that it may run
  may_of_once : (blocks : List LayerBlock) (i : ℕ) → All (λ b. (b.0 ≡ l) × IsBlock p l b.1) blocks
      → times_run blocks i ≡ 1 → MayRun p l.0 i
  may_of_once blocks i each once =
      elim (times_or_may (all_trips blocks) i (each_may blocks each)) [
        | inl none ↦ absurd (omega (arith, once, none))
        | inr may ↦ may
      ]

module _ (p : Problem) (inst : IsInstance p) (l : LayerNo) (n : LayerGraph) (lawful : IsLawful p l.0 n) where
  -- a trip's arc carries one unit at most
  carries_≤ : (units : List ℕ) (i k : ℕ) → IsCirculation n.graph units → IsArcOfTrip n.kinds i k
      → slice_index units k ≤ 1
  carries_≤ units i k circulation is =
      let within : k < length n.graph.arcs = omega (arith, is.0, lawful.labelled.each_arc) in
      let arc : IsTripArc p l.0 n.points i (arc_of n.graph k) =
      subst (λ (t : ArcKind). IsLawfulArc p l.0 n.points t (arc_of n.graph k)) is.1 (lawful.arcs k within) in
      omega (arith, circulation.rooms k within, arc.room)

  -- blocks are a circulation that runs the same trips at the same cost
  units_of_blocks : (chosen : ℕ → Bool) (blocks : List LayerBlock) → BlocksRun p l chosen blocks
      → (units : List ℕ) × UnitsRun n chosen units × (flow_cost n.graph units ≡ pos (1000 * plan_cost p blocks))
  units_of_blocks chosen blocks run =
      let found = compose p l n blocks inst lawful run.of_layer in
      let c = found.1 in (
        found.0,
        record {
          circulation = c.circulation;
          exactly = λ i. (
            λ in_chosen.
                let once = (run.exactly i).0 in_chosen in
                let arc = lawful.each_trip i (may_of_once p l blocks i run.of_layer.each_block once) in
                (arc.0, arc.1, sym (c.trips i arc.0 arc.1) ∙ once),
            λ carries. (run.exactly i).1 (c.trips i carries.0 carries.1 ∙ carries.2),
          );
        },
        c.cost,
      )

  module _ (chosen : ℕ → Bool) where
    -- a circulation's trips are run by blocks that cost no more
    blocks_of : (units : List ℕ) → UnitsRun n chosen units
        → (blocks : List LayerBlock) × BlocksRun p l chosen blocks
        × (pos (1000 * plan_cost p blocks) ≤ℤ flow_cost n.graph units)
    blocks_of units run =
        let found = circulation_decomposes p inst l n lawful units run.circulation in
        let blocks = found.0 in
        let d = found.1 in
        let room = run.circulation.rooms (last p l.0 n lawful) (last-within p l.0 n lawful) in
        let fleet = (last_arc p l.0 n lawful).room in (
          blocks,
          record {
            of_layer = record {
              each_block = d.each_block;
              fleet = omega (arith, d.vehicles, room, fleet);
              at_most_once = λ i known.
                  elim (times_or_may p l (all_trips blocks) i (each_may p l blocks d.each_block)) [
                    | inl none ↦ omega (arith, none)
                    | inr may ↦
                        let arc = lawful.each_trip i may in
                        omega (arith, d.trips i arc.0 arc.1, carries_≤ units i arc.0 run.circulation arc.1)
                  ];
              within = λ k d within. tt;
            };
            exactly = λ i. (
              λ in_chosen. let carries = (run.exactly i).0 in_chosen in d.trips i carries.0 carries.1 ∙ carries.2,
              λ once.
                  let arc = lawful.each_trip i (may_of_once p l blocks i d.each_block once) in
                  (run.exactly i).1 (arc.0, arc.1, sym (d.trips i arc.0 arc.1) ∙ once),
            );
          },
          d.no_dearer,
        )

    -- what is least of blocks is least of circulations
    least_to_net : (cost : Option ℕ) → IsLeastOfBlocks p l chosen cost
        → IsLeastOfUnits n chosen (option_map at_scale cost)
    least_to_net None none = λ units run. none (blocks_of units run).0 (blocks_of units run).1
    least_to_net (Some c) least =
        let units = units_of_blocks chosen least.0.0 least.0.1 in (
          (units.0, units.1, units.2 ∙ ap (λ (x : ℕ). pos (1000 * x)) least.0.2),
          λ others run.
              let blocks = blocks_of others run in
              let no_less = least.1 blocks.0 blocks.1 in
              omega (arith, ints, blocks.2, no_less),
        )

    -- and the other way round
    least_of_net : (cost : Option ℕ) → IsLeastOfUnits n chosen (option_map at_scale cost)
        → IsLeastOfBlocks p l chosen cost
    least_of_net None none = λ blocks run.
        let units = units_of_blocks chosen blocks run in none units.0 units.1
    least_of_net (Some c) least =
        let no_less : (blocks : List LayerBlock) → BlocksRun p l chosen blocks → c ≤ plan_cost p blocks =
        λ blocks run.
        let units = units_of_blocks chosen blocks run in
        let bound = least.1 units.0 units.1 in
        omega (arith, ints, bound, units.2) in
        let blocks = blocks_of least.0.0 least.0.1 in
        let bound = no_less blocks.0 blocks.1 in
        ((blocks.0, blocks.1, omega (arith, ints, bound, blocks.2, least.0.2)), no_less)

    -- each set of trips costs the same by blocks and by circulations
    pub same_least : (cost : Option ℕ)
        → IsLeastOfBlocks p l chosen cost ↔ IsLeastOfUnits n chosen (option_map at_scale cost)
    same_least cost = (least_to_net cost, least_of_net cost)

-- two nets of one layer
module _ (p : Problem) (inst : IsInstance p) (l : LayerNo) (chosen : ℕ → Bool) where
  -- a circulation of one net is one of the other that costs no more
  carried_over : (n m : LayerGraph) → IsLawful p l.0 n → IsLawful p l.0 m → (units : List ℕ)
      → UnitsRun n chosen units
      → (others : List ℕ) × UnitsRun m chosen others × (flow_cost m.graph others ≤ℤ flow_cost n.graph units)
  carried_over n m lawful lawful' units run =
      let blocks = blocks_of p inst l n lawful chosen units run in
      let others = units_of_blocks p inst l m lawful' chosen blocks.0 blocks.1 in
      (others.0, others.1, omega (arith, ints, others.2, blocks.2))

  -- what is least over one net is least over the other
  least_over : (n m : LayerGraph) → IsLawful p l.0 n → IsLawful p l.0 m
      → (cost : Option ℤ) → IsLeastOfUnits n chosen cost → IsLeastOfUnits m chosen cost
  least_over n m lawful lawful' None none = λ units run.
      let back = carried_over m n lawful' lawful units run in none back.0 back.1
  least_over n m lawful lawful' (Some c) least =
      let no_less : (units : List ℕ) → UnitsRun m chosen units → c ≤ℤ flow_cost m.graph units =
      λ units run.
      let back = carried_over m n lawful' lawful units run in
      let bound = least.1 back.0 back.1 in
      omega (arith, ints, bound, back.2) in
      let units = carried_over n m lawful lawful' least.0.0 least.0.1 in
      let bound = no_less units.0 units.1 in
      ((units.0, units.1, omega (arith, ints, bound, units.2, least.0.2)), no_less)

  -- each set of trips costs the same over both
  pub nets_alike : (n m : LayerGraph) → IsLawful p l.0 n → IsLawful p l.0 m
      → (cost : Option ℤ) → IsLeastOfUnits n chosen cost ↔ IsLeastOfUnits m chosen cost
  nets_alike n m lawful lawful' cost = (
    least_over n m lawful lawful' cost,
    least_over m n lawful' lawful cost,
  )
