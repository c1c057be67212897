-- Blocks of a layer are a circulation of its net.
use Rattle.std.proofs.Common.{◌≡◌, ℕ, ◌<◌, ◌≤◌, List, length, refl, sym, ◌∙◌, arith}
use Rattle.vs_layer.specs.Graph.{arc_of}
use Rattle.vs_types.specs.declared.numbers.LayerNo.{LayerNo}
use Rattle.vs_instance.specs.Problem.{Problem}
use Rattle.vs_instance.specs.Instance.{IsInstance}
use Rattle.vs_instance.specs.Ways.{layer_of}
use Rattle.vs_instance.specs.Plan.{LayerBlock}
use Rattle.vs_match.specs.declared.arc_kind.ArcKind.{ArcKind}
use Rattle.vs_match.specs.declared.arc_kind.ArcKind.TheVariants.{Trip, Waiting, Deadhead, PullOut, PullIn, RestIn, RestWait, RestOut, Return}
use Rattle.vs_match.specs.LawfulNets.{IsLawful, IsLawfulArc}
use Rattle.vs_match.specs.LayerGraph.{LayerGraph, kind_of}
use Rattle.vs_match.specs.Aggregation.{AreLayerBlocks, Compose}
use Rattle.vs_match.proofs.composition.Takings.{taken}
use Rattle.vs_match.proofs.composition.UnitsTaken.{units_of, length-units_of, units_of-at, units_conserved, units_cost}
use Rattle.vs_match.proofs.composition.NetEnds.{last}
use Rattle.vs_match.proofs.composition.Rounds.{Rounds, rounds_of}

module _ (p : Problem) (l : LayerNo) (n : LayerGraph) (lawful : IsLawful p l.0 n) (blocks : List LayerBlock)
    (list : AreLayerBlocks p l blocks) (rounds : Rounds p l n lawful blocks) where
  -- an arc with room for all vehicles
  room_for_all : (k : ℕ) → (arc_of n.graph k).room ≡ (layer_of p l.0).fleet
      → taken rounds.arcs k ≤ (arc_of n.graph k).room
  room_for_all k room = omega (arith, room, rounds.few k, list.fleet)

  -- no arc is taken more often than it has room
  rooms : (k : ℕ) (t : ArcKind) → k < length n.graph.arcs → kind_of n k ≡ t
      → IsLawfulArc p l.0 n.points t (arc_of n.graph k)
      → taken rounds.arcs k ≤ (arc_of n.graph k).room
  rooms k (Trip i) within is arc =
      let once = list.at_most_once i.0 arc.may_run.0 in
      let inside : k < length n.kinds = omega (arith, within, lawful.labelled.each_arc) in
      omega (arith, rounds.runs i.0 k (inside, is), once, arc.room)
  rooms k Waiting within is arc = room_for_all k arc.2.room
  rooms k Deadhead within is arc = room_for_all k arc.2.room
  rooms k PullOut within is arc = room_for_all k arc.2.room
  rooms k PullIn within is arc = room_for_all k arc.2.room
  rooms k RestIn within is arc = room_for_all k arc.2.room
  rooms k RestWait within is arc = room_for_all k arc.2.room
  rooms k RestOut within is arc = room_for_all k arc.2.room
  rooms k Return within is arc = room_for_all k arc.room

  -- the units of the rounds
  composed : Compose p n blocks (units_of n.graph rounds.arcs)
  composed =
      let any : ℕ → Type 0 = λ k. Unit {0} in
      let each = λ (k : ℕ). units_of-at n.graph any rounds.arcs 0 0 k rounds.closed in
      record {
        circulation = record {
          each_arc = length-units_of n.graph any rounds.arcs;
          rooms = λ k within.
              let room = rooms k (kind_of n k) within refl (lawful.arcs k within) in omega (arith, each k, room);
          conserved = λ v within. units_conserved n.graph any rounds.arcs 0 v rounds.closed;
        };
        vehicles = each (last p l.0 n lawful) ∙ rounds.returns;
        trips = λ i k is. sym (each k ∙ rounds.runs i k is);
        cost = units_cost n.graph any rounds.arcs 0 0 rounds.closed ∙ rounds.cost_is;
      }

-- the circulation of blocks
pub compose : (p : Problem) (l : LayerNo) (n : LayerGraph) (blocks : List LayerBlock) → IsInstance p
    → IsLawful p l.0 n → AreLayerBlocks p l blocks
    → (units : List ℕ) × Compose p n blocks units
compose p l n blocks inst lawful list =
    let rounds = rounds_of p l n lawful blocks inst list.each_block in
    (units_of n.graph rounds.arcs, composed p l n lawful blocks list rounds)
