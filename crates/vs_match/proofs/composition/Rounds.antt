-- Blocks as rounds through the net, from the depot's beginning to its end and back.
use Rattle.std.proofs.Common.{◌≡◌, ◌≢◌, ℕ, ◌+◌, ◌*◌, ◌<◌, ◌≤◌, List, [], ◌∷◌, ◌++◌, length, All, refl, sym, ap, ◌∙◌, subst, arith, ℤ, pos, ◌+ℤ◌, append-nil, inl, inr}
use Rattle.std.proofs.lemmas.Bool.{cases_eq}
use Rattle.std.proofs.lemmas.Int.{ints}
use Rattle.std.proofs.lemmas.List.Elements.{All-head, All-tail}
use Rattle.std.proofs.lemmas.List.Sums.{sum_by-cons}
use Rattle.vs_layer.specs.Graph.{arc_of}
use Rattle.vs_layer.specs.Walks.{Leads, path_cost}
use Rattle.vs_types.specs.declared.numbers.LayerNo.{LayerNo}
use Rattle.vs_types.specs.declared.numbers.TripNo.{TripNo}
use Rattle.vs_instance.specs.Problem.{Problem}
use Rattle.vs_instance.specs.Instance.{IsInstance}
use Rattle.vs_instance.specs.Ways.{HasPullIn}
use Rattle.vs_instance.specs.Pieces.{out_piece, trip_piece, link_piece, in_piece}
use Rattle.vs_instance.specs.BlockPieces.{cost_of, links_between}
use Rattle.vs_instance.specs.Blocks.{IsBlock, block_cost}
use Rattle.vs_instance.specs.Plan.{LayerBlock, all_trips, plan_cost, times_run}
use Rattle.vs_instance.proofs.CallerLemmas.{out_taken, in_taken, link_taken, IsChain, chain_of_block, last_trip, first_of_chain, last_of_chain, last_of-is, trips_cost, links_cost, blocks_cost_their_pieces}
use Rattle.vs_match.specs.Events.{departure, arrival, MayRun, HasPlace, last_node}
use Rattle.vs_match.specs.LawfulNets.{IsLawful, IsLawfulArc}
use Rattle.vs_match.specs.LayerGraph.{LayerGraph, IsArcOfTrip, kind_of}
use Rattle.vs_match.specs.WalkLaw.{IsWalk, IsWayOut, IsWayIn}
use Rattle.vs_match.proofs.walks.WaitingChains.{leads-append, path_cost-append}
use Rattle.vs_match.proofs.composition.Takings.{taken, taken-own, taken-other, taken-append, taken-last, taken-once, IsForward}
use Rattle.vs_match.proofs.composition.NetEnds.{last, last-within, last-is, last_kind, last_arc}
use Rattle.vs_match.proofs.composition.Runs.{times_in-append, least_list, Run, run_then, idle_walk, idle_way_out, idle_way_in, trip_arc}

module _ (p : Problem) (l : LayerNo) (n : LayerGraph) (lawful : IsLawful p l.0 n) where
  -- a run in the net, at its cost
  abbrev Runs : ℕ → ℕ → List TripNo → ℕ → Type 0
  Runs = Run p l.0 n lawful

  -- a trip, from where it departs to where it arrives
  record TripRun (i : TripNo) : Type 0 where
    u : ℕ
    v : ℕ
    departs : HasPlace n.points u (departure p i.0)
    arrives : HasPlace n.points v (arrival p i.0)
    run : Runs u v (i ∷ []) (trip_piece p l.0 i.0)

  -- a trip that the layer may run has one
  trip_run : (i : TripNo) → MayRun p l.0 i.0 → TripRun i
  trip_run i may =
      let found = lawful.each_trip i.0 may in
      let k = found.0 in
      let within : k < length n.graph.arcs = omega (arith, found.1.0, lawful.labelled.each_arc) in
      let arc = subst (λ t. IsLawfulArc p l.0 n.points t (arc_of n.graph k)) found.1.1 (lawful.arcs k within) in
      record {
        u = (arc_of n.graph k).from;
        v = (arc_of n.graph k).to;
        departs = arc.from;
        arrives = arc.to;
        run = record {
          arcs = k ∷ [];
          is_run = trip_arc p l.0 n lawful i k found.1;
          cost_is = ap (λ (x : ℤ). x +ℤ pos 0) arc.cost ∙ omega (arith, ints);
        };
      }

  -- trips that one vehicle runs one after another, from where the first departs to where the last arrives
  record ChainRun (i : TripNo) (rest : List TripNo) : Type 0 where
    u : ℕ
    v : ℕ
    departs : HasPlace n.points u (departure p i.0)
    arrives : HasPlace n.points v (arrival p (last_trip i rest).0)
    run : Runs u v (i ∷ rest) (trips_cost p l (i ∷ rest) + links_cost p l (i ∷ rest))

  -- trips that connect have one
  chain_run : (i : TripNo) (rest : List TripNo) → IsChain p l (i ∷ rest) → ChainRun i rest
  chain_run i [] chain =
      let trip = trip_run i chain in
      let cost : trip_piece p l.0 i.0 ≡ trips_cost p l (i ∷ []) + links_cost p l (i ∷ []) = omega arith in
      record {
        u = trip.u;
        v = trip.v;
        departs = trip.departs;
        arrives = trip.arrives;
        run = subst (Runs trip.u trip.v (i ∷ [])) cost trip.run;
      }
  chain_run i (j ∷ rest) chain =
      let trip = trip_run i (chain.0, chain.1) in
      let after = chain_run j rest chain.3 in
      let may = first_of_chain p l j rest chain.3 in
      let link = link_taken p l i j chain.2 in
      let walk =
      least_list n.graph (λ ks. IsWalk n trip.v ks after.u) (link_piece p l.0 i.0 j.0) link.cost link.is
      (lawful.walks.links i.0 j.0 trip.v after.u (chain.0, chain.1) may trip.arrives after.departs) in
      let between : Runs trip.v after.u [] (cost_of (link_piece p l.0 i.0 j.0)) = record {
        arcs = walk.0;
        is_run = idle_walk p l.0 n lawful walk.0 trip.v after.u walk.1;
        cost_is = walk.2;
      } in
      let all =
      run_then p l.0 n lawful trip.u trip.v after.v (i ∷ []) (j ∷ rest) _ _ trip.run
      (run_then p l.0 n lawful trip.v after.u after.v [] (j ∷ rest) _ _ between after.run) in
      let trips = sum_by-cons (λ (k : TripNo). trip_piece p l.0 k.0) i (j ∷ rest) in
      let links = sum_by-cons cost_of (link_piece p l.0 i.0 j.0) (links_between p l (j ∷ rest)) in
      let cost : trip_piece p l.0 i.0
      + (cost_of (link_piece p l.0 i.0 j.0) + (trips_cost p l (j ∷ rest) + links_cost p l (j ∷ rest)))
      ≡ trips_cost p l (i ∷ j ∷ rest) + links_cost p l (i ∷ j ∷ rest) =
      omega (arith, trips, links) in
      record {
        u = trip.u;
        v = after.v;
        departs = trip.departs;
        arrives = after.arrives;
        run = subst (Runs trip.u after.v (i ∷ j ∷ rest)) cost all;
      }

  -- a block, from the depot's beginning to its end
  pub block_run : (trips : List TripNo) → IsInstance p → IsBlock p l trips
      → Runs 0 (last_node n.points) trips (block_cost p l trips)
  block_run [] inst block = absurd (omega (arith, block.some_trip))
  block_run (i ∷ rest) inst block =
      let chain = chain_of_block p l (i ∷ rest) block in
      let run = chain_run i rest chain in
      let z = last_trip i rest in
      let last_is = last_of-is i rest in
      let out = out_taken p l.0 i.0 block.pull_out in
      let back = in_taken p l.0 z.0 (subst (HasPullIn p l.0) last_is block.pull_in) in
      let way_out =
      least_list n.graph (IsWayOut n run.u) (out_piece p l.0 i.0) _ out.costs
      (lawful.walks.outs i.0 run.u (first_of_chain p l i rest chain) run.departs) in
      let way_in =
      least_list n.graph (IsWayIn n run.v) (in_piece p l.0 z.0) _ back.costs
      (lawful.walks.ins z.0 run.v (last_of_chain p l i rest chain) run.arrives) in
      let before : Runs 0 run.u [] (cost_of (out_piece p l.0 i.0)) = record {
        arcs = way_out.0;
        is_run = idle_way_out p l.0 n lawful way_out.0 run.u way_out.1;
        cost_is = way_out.2;
      } in
      let after : Runs run.v (last_node n.points) [] (cost_of (in_piece p l.0 z.0)) = record {
        arcs = way_in.0;
        is_run = idle_way_in p l.0 n lawful way_in.0 run.v way_in.1;
        cost_is = way_in.2;
      } in
      let all =
      run_then p l.0 n lawful 0 run.u (last_node n.points) [] ((i ∷ rest) ++ []) _ _ before
      (run_then p l.0 n lawful run.u run.v (last_node n.points) (i ∷ rest) [] _ _ run.run after) in
      let same = ap (λ (k : ℕ). cost_of (in_piece p l.0 k)) last_is in
      let pieces = cost_of (out_piece p l.0 i.0)
      + ((trips_cost p l (i ∷ rest) + links_cost p l (i ∷ rest)) + cost_of (in_piece p l.0 z.0)) in
      let cost : pieces ≡ block_cost p l (i ∷ rest) =
      omega (arith, same, blocks_cost_their_pieces p l (i ∷ rest) inst block) in
      subst (Runs 0 (last_node n.points) (i ∷ rest)) cost
      (subst (λ (ts : List TripNo). Runs 0 (last_node n.points) ts pieces) (append-nil (i ∷ rest)) all)

  -- rounds from the first node back to it, one for each block
  pub record Rounds (blocks : List LayerBlock) : Type 0 where
    pub arcs : List ℕ
    pub closed : Leads n.graph (λ k. Unit {0}) 0 arcs 0
    pub cost_is : path_cost n.graph arcs ≡ pos (1000 * plan_cost p blocks)
    pub runs : (i k : ℕ) → IsArcOfTrip n.kinds i k → taken arcs k ≡ times_run blocks i
    pub few : (k : ℕ) → taken arcs k ≤ length blocks
    pub returns : taken arcs (last p l.0 n lawful) ≡ length blocks

  -- no block, no round
  no_rounds : Rounds []
  no_rounds = record {
    arcs = [];
    closed = refl;
    cost_is = refl;
    runs = λ i k is. refl;
    few = λ k. omega arith;
    returns = refl;
  }

  -- arcs that go forward lead anyhow
  any_arc : (ks : List ℕ) (u v : ℕ) → Leads n.graph (IsForward n.graph) u ks v → Leads n.graph (λ k. Unit {0}) u ks v
  any_arc [] u v same = same
  any_arc (k ∷ ks) u v walk = (walk.0, tt, walk.2, any_arc ks (arc_of n.graph k).to v walk.3)

  -- a block's round before others
  round_then : (b : LayerBlock) (blocks : List LayerBlock) → b.0 ≡ l
      → Runs 0 (last_node n.points) b.1 (block_cost p l b.1) → Rounds blocks → Rounds (b ∷ blocks)
  round_then b blocks of_layer run rest =
      let r = last p l.0 n lawful in
      let arc = last_arc p l.0 n lawful in
      let path = run.is_run.leads in
      let back : Leads n.graph (λ k. Unit {0}) (last_node n.points) (r ∷ rest.arcs) 0 = (
        last-within p l.0 n lawful,
        tt,
        arc.from,
        subst (λ (v : ℕ). Leads n.graph (λ k. Unit {0}) v rest.arcs 0) (sym arc.to) rest.closed,
      ) in
      record {
        arcs = run.arcs ++ r ∷ rest.arcs;
        closed =
            leads-append n.graph (λ k. Unit {0}) run.arcs (r ∷ rest.arcs) 0 (last_node n.points) 0
            (any_arc run.arcs 0 (last_node n.points) path) back;
        cost_is =
            let total = sum_by-cons (λ (c : LayerBlock). block_cost p c.0 c.1) b blocks in
            let own = ap (λ (m : LayerNo). block_cost p m b.1) of_layer in
            let both : 1000 * plan_cost p (b ∷ blocks) ≡ 1000 * block_cost p l b.1 + 1000 * plan_cost p blocks =
            omega (arith, total, own) in
            path_cost-append n.graph run.arcs (r ∷ rest.arcs)
            ∙ ap (λ (x : ℤ). x +ℤ path_cost n.graph (r ∷ rest.arcs)) run.cost_is
            ∙ ap (λ (x : ℤ). pos (1000 * block_cost p l b.1) +ℤ (x +ℤ path_cost n.graph rest.arcs)) arc.cost
            ∙ ap (λ (x : ℤ). pos (1000 * block_cost p l b.1) +ℤ (pos 0 +ℤ x)) rest.cost_is
            ∙ omega (arith, ints, both);
        runs = λ i k is.
            let apart : r ≢ k = λ same.
            let e = sym (last_kind p l.0 n lawful) ∙ ap (λ (j : ℕ). kind_of n j) same ∙ is.1 in
            cc in
            omega (
              arith,
              taken-append run.arcs (r ∷ rest.arcs) k,
              taken-other r k rest.arcs apart,
              run.is_run.runs i k is,
              rest.runs i k is,
              times_in-append b.1 (all_trips blocks) i,
            );
        few = λ k.
            let count = taken-append run.arcs (r ∷ rest.arcs) k in
            elim (cases_eq r k) [
              | inl same ↦
                  let own = taken-own r k rest.arcs same in
                  let none =
                  taken-last n.graph run.arcs 0 (last_node n.points) k path
                  (omega (arith, last-is p l.0 n lawful, same)) in
                  omega (arith, count, own, none, rest.few k)
              | inr apart ↦
                  let other = taken-other r k rest.arcs apart in
                  let once = taken-once n.graph lawful.net run.arcs 0 (last_node n.points) k path in
                  omega (arith, count, other, once, rest.few k)
            ];
        returns =
            omega (
              arith,
              taken-append run.arcs (r ∷ rest.arcs) r,
              taken-own r r rest.arcs refl,
              taken-last n.graph run.arcs 0 (last_node n.points) r path (last-is p l.0 n lawful),
              rest.returns,
            );
      }

  -- blocks of the layer as rounds
  pub rounds_of : (blocks : List LayerBlock) → IsInstance p → All (λ b. (b.0 ≡ l) × IsBlock p l b.1) blocks
      → Rounds blocks
  rounds_of [] inst each = no_rounds
  rounds_of (b ∷ blocks) inst each =
      let here = All-head (λ (c : LayerBlock). (c.0 ≡ l) × IsBlock p l c.1) b blocks each in
      let rest = All-tail (λ (c : LayerBlock). (c.0 ≡ l) × IsBlock p l c.1) b blocks each in
      round_then b blocks here.0 (block_run b.1 inst here.1) (rounds_of blocks inst rest)
