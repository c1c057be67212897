-- What a vehicle runs, as arcs that go forward through the net.
use Rattle.std.proofs.Common.{◌≡◌, ℕ, ◌+◌, ◌*◌, ◌<◌, ◌==◌, cond, eqb, count_by, List, [], ◌∷◌, ◌++◌, length, Option, Some, None, refl, sym, ap, ◌∙◌, subst, arith, inl, inr, ℤ, pos, ◌+ℤ◌, option_map}
use Rattle.std.proofs.Math.Nat.{mul-add}
use Rattle.std.proofs.lemmas.Bool.{cases_eq}
use Rattle.std.proofs.lemmas.List.Sums.{sum_by-append}
use Rattle.vs_layer.specs.Graph.{Graph, arc_of}
use Rattle.vs_layer.specs.Walks.{Leads, path_cost, IsLeastCost}
use Rattle.vs_types.specs.declared.numbers.TripNo.{TripNo}
use Rattle.vs_instance.specs.Problem.{Problem}
use Rattle.vs_instance.specs.BlockPieces.{cost_of}
use Rattle.vs_match.specs.declared.arc_kind.ArcKind.{ArcKind}
use Rattle.vs_match.specs.declared.arc_kind.ArcKind.TheVariants.{Trip, Waiting, Deadhead, PullOut, PullIn, RestIn, RestWait, RestOut, Return}
use Rattle.vs_match.specs.NetArcs.{at_scale}
use Rattle.vs_match.specs.Events.{last_node}
use Rattle.vs_match.specs.LawfulNets.{IsLawful, IsLawfulArc}
use Rattle.vs_match.specs.LayerGraph.{LayerGraph, IsArcOfTrip, kind_of}
use Rattle.vs_match.specs.WalkLaw.{IsMove, IsWalk, IsWayOut, IsWayIn}
use Rattle.vs_match.proofs.walks.WaitingChains.{leads-append, path_cost-append}
use Rattle.vs_match.proofs.composition.Takings.{taken, taken-own, taken-other, taken-append, one-same, one-apart, IsForward}
use Rattle.vs_match.proofs.composition.NetEnds.{forward}

-- how often trip i stands among the trips
abbrev pub times_in : List TripNo → ℕ → ℕ
times_in trips i = count_by (λ t. t.0 == i) trips

-- a trip stands among two lists as often as among both
pub times_in-append : (trips others : List TripNo) (i : ℕ)
    → times_in (trips ++ others) i ≡ times_in trips i + times_in others i
times_in-append trips others i = sum_by-append (λ (t : TripNo). cond (eqb t.0 i) 1 0) trips others

-- a least cost is that of some list of arcs
pub least_list : (g : Graph) (Such : List ℕ → Type 0) (piece : Option ℕ) (cost : ℕ) → piece ≡ Some cost
    → IsLeastCost g Such (option_map at_scale piece)
    → (ks : List ℕ) × Such ks × (path_cost g ks ≡ pos (1000 * cost_of piece))
least_list g Such (Some c) cost is least = least.0
least_list g Such None cost is least = cc

-- the arc is of no trip, and isn't the return arc
abbrev IsIdle : ArcKind → Type 0
IsIdle (Trip i) = ⊥
IsIdle Waiting = Unit {0}
IsIdle Deadhead = Unit {0}
IsIdle PullOut = Unit {0}
IsIdle PullIn = Unit {0}
IsIdle RestIn = Unit {0}
IsIdle RestWait = Unit {0}
IsIdle RestOut = Unit {0}
IsIdle Return = ⊥

-- an arc for waiting, driving or resting is such one
idle_move : (t : ArcKind) → IsMove t → IsIdle t
idle_move (Trip i) moves = moves
idle_move Waiting moves = tt
idle_move Deadhead moves = tt
idle_move PullOut moves = tt
idle_move PullIn moves = tt
idle_move RestIn moves = tt
idle_move RestWait moves = tt
idle_move RestOut moves = tt
idle_move Return moves = moves

-- a kind names its trip
named_trip : (t : TripNo) (i : ℕ) → Trip t ≡ Trip (record { 0 = i }) → t.0 ≡ i
named_trip t i same = let e : t ≡ record { 0 = i } = cc in ap (λ (x : TripNo). x.0) e

module _ (p : Problem) (l : ℕ) (n : LayerGraph) (lawful : IsLawful p l n) where
  -- arcs that go forward from node u to node v, and take the arcs of these trips
  pub record IsRun (u v : ℕ) (trips : List TripNo) (ks : List ℕ) : Type 0 where
    pub leads : Leads n.graph (IsForward n.graph) u ks v
    pub runs : (i k : ℕ) → IsArcOfTrip n.kinds i k → taken ks k ≡ times_in trips i

  -- such arcs, and then others
  run-append : (u v w : ℕ) (trips others : List TripNo) (ks js : List ℕ) → IsRun u v trips ks → IsRun v w others js
      → IsRun u w (trips ++ others) (ks ++ js)
  run-append u v w trips others ks js first second = record {
    leads = leads-append n.graph (IsForward n.graph) ks js u v w first.leads second.leads;
    runs = λ i k is.
        let count = taken-append ks js k in
        omega (arith, count, first.runs i k is, second.runs i k is, times_in-append trips others i);
  }

  -- an arc without a trip
  idle_arc : (k : ℕ) → k < length n.graph.arcs → IsIdle (kind_of n k)
      → IsRun (arc_of n.graph k).from (arc_of n.graph k).to [] (k ∷ [])
  idle_arc k within idle = record {
    leads = (within, forward p l n lawful k within (λ is. subst IsIdle is idle), refl, refl);
    runs = λ i j of.
        taken-other k j [] (λ same. subst IsIdle (ap (λ (m : ℕ). kind_of n m) same ∙ of.1) idle);
  }

  -- a walk runs no trip
  pub idle_walk : (ks : List ℕ) (u v : ℕ) → IsWalk n u ks v → IsRun u v [] ks
  idle_walk [] u v same = record { leads = same; runs = λ i k of. refl }
  idle_walk (k ∷ ks) u v walk =
      let first = idle_arc k walk.0 (idle_move (kind_of n k) walk.1) in
      let rest = idle_walk ks (arc_of n.graph k).to v walk.3 in
      subst (λ (w : ℕ). IsRun w v [] (k ∷ ks)) walk.2
      (run-append (arc_of n.graph k).from (arc_of n.graph k).to v [] [] (k ∷ []) ks first rest)

  -- nor does a way out
  pub idle_way_out : (ks : List ℕ) (v : ℕ) → IsWayOut n v ks → IsRun 0 v [] ks
  idle_way_out [] v out = absurd out
  idle_way_out (k ∷ ks) v out =
      let first = idle_arc k out.0 (subst IsIdle (sym out.1) tt) in
      let rest = idle_walk ks (arc_of n.graph k).to v out.2 in
      let arc = subst (λ (t : ArcKind). IsLawfulArc p l n.points t (arc_of n.graph k)) out.1 (lawful.arcs k out.0) in
      subst (λ (w : ℕ). IsRun w v [] (k ∷ ks)) arc.0
      (run-append (arc_of n.graph k).from (arc_of n.graph k).to v [] [] (k ∷ []) ks first rest)

  -- nor does a way in
  pub idle_way_in : (ks : List ℕ) (u : ℕ) → IsWayIn n u ks → IsRun u (last_node n.points) [] ks
  idle_way_in ks u way_in =
      let k = way_in.last in
      let first = idle_walk way_in.walk u (arc_of n.graph k).from way_in.is_walk in
      let rest = idle_arc k way_in.of_net (subst IsIdle (sym way_in.pull_in) tt) in
      let arc =
      subst (λ (t : ArcKind). IsLawfulArc p l n.points t (arc_of n.graph k)) way_in.pull_in
      (lawful.arcs k way_in.of_net) in
      let all =
      run-append u (arc_of n.graph k).from (arc_of n.graph k).to [] [] way_in.walk (k ∷ []) first rest in
      subst (IsRun u (last_node n.points) []) (sym way_in.is)
      (subst (λ (w : ℕ). IsRun u w [] (way_in.walk ++ k ∷ [])) arc.1 all)

  -- a trip's arc
  pub trip_arc : (t : TripNo) (k : ℕ) → IsArcOfTrip n.kinds t.0 k
      → IsRun (arc_of n.graph k).from (arc_of n.graph k).to (t ∷ []) (k ∷ [])
  trip_arc t k is =
      let within : k < length n.graph.arcs = omega (arith, is.0, lawful.labelled.each_arc) in
      record {
        leads = (within, forward p l n lawful k within (λ same. let e = sym is.1 ∙ same in cc), refl, refl);
        runs = λ i j of.
            elim (cases_eq k j) [
              | inl same ↦
                  let e : Trip t ≡ Trip (record { 0 = i }) = sym is.1 ∙ ap (λ (m : ℕ). kind_of n m) same ∙ of.1 in
                  let own : t.0 ≡ i = named_trip t i e in
                  taken-own k j [] same ∙ sym (omega (arith, one-same t.0 i own))
              | inr apart ↦
                  let of_own = λ (own : t.0 ≡ i). subst (λ (m : ℕ). IsArcOfTrip n.kinds m j) (sym own) of in
                  let other = λ (own : t.0 ≡ i). apart (lawful.one_arc t.0 k j is (of_own own)) in
                  taken-other k j [] apart ∙ sym (omega (arith, one-apart t.0 i other))
            ];
      }

  -- a run, and what it costs in cost units
  pub record Run (u v : ℕ) (trips : List TripNo) (cost : ℕ) : Type 0 where
    pub arcs : List ℕ
    pub is_run : IsRun u v trips arcs
    pub cost_is : path_cost n.graph arcs ≡ pos (1000 * cost)

  -- a run and then another
  pub run_then : (u v w : ℕ) (trips others : List TripNo) (c d : ℕ) → Run u v trips c → Run v w others d
      → Run u w (trips ++ others) (c + d)
  run_then u v w trips others c d first second = record {
    arcs = first.arcs ++ second.arcs;
    is_run = run-append u v w trips others first.arcs second.arcs first.is_run second.is_run;
    cost_is =
        path_cost-append n.graph first.arcs second.arcs
        ∙ ap (λ (x : ℤ). x +ℤ path_cost n.graph second.arcs) first.cost_is
        ∙ ap (λ (x : ℤ). pos (1000 * c) +ℤ x) second.cost_is ∙ ap pos (sym (mul-add 1000 c d));
  }
