-- What a vehicle runs on its way from the first node to the last is a block, which costs no more than the way, or no
-- trip at all.
use Rattle.std.proofs.Common.{◌≡◌, ℕ, ◌+◌, ◌-◌, ◌*◌, ◌<◌, ◌≤◌, List, [], ◌∷◌, ◌++◌, length, refl, sym, ap, ◌∙◌, subst, arith}
use Rattle.std.specs.Prelude.{ℤ, pos, ◌+ℤ◌, ◌≤ℤ◌}
use Rattle.std.proofs.lemmas.Int.{ints}
use Rattle.std.proofs.lemmas.List.Sums.{sum_by-cons}
use Rattle.vs_types.specs.declared.numbers.LayerNo.{LayerNo}
use Rattle.vs_types.specs.declared.numbers.TripNo.{TripNo}
use Rattle.vs_layer.specs.declared.arc.Arc.{Arc}
use Rattle.vs_layer.specs.Graph.{Graph, arc_of}
use Rattle.vs_layer.specs.Walks.{Leads, path_cost}
use Rattle.vs_instance.specs.Problem.{Problem}
use Rattle.vs_instance.specs.Instance.{IsInstance}
use Rattle.vs_instance.specs.Ways.{HasPullIn}
use Rattle.vs_instance.specs.Pieces.{out_piece, trip_piece, link_piece, in_piece}
use Rattle.vs_instance.specs.Blocks.{IsBlock, block_cost}
use Rattle.vs_instance.specs.BlockPieces.{cost_of, links_between}
use Rattle.vs_instance.proofs.CallerLemmas.{IsChain, last_trip, last_of-is, trips_cost, links_cost, blocks_cost_their_pieces}
use Rattle.vs_match.specs.declared.arc_kind.ArcKind.{ArcKind}
use Rattle.vs_match.specs.declared.arc_kind.ArcKind.TheVariants.{Trip, Waiting, Deadhead, PullOut, PullIn, RestIn, RestWait, RestOut, Return}
use Rattle.vs_match.specs.Events.{departure, arrival, MayRun, HasPlace, last_node, point_of}
use Rattle.vs_match.specs.LayerGraph.{LayerGraph, kind_of}
use Rattle.vs_match.specs.LawfulNets.{IsLawful, IsLawfulArc}
use Rattle.vs_match.specs.Underway.{IsOnward, trips_at, trips_of}
use Rattle.vs_match.specs.WalkLaw.{IsMove, IsWalk, IsWayOut, IsWayIn}
use Rattle.vs_match.proofs.events.Places.{IsBetween, placed, between_at_stop, between_on_line}
use Rattle.vs_match.proofs.walks.WaitingChains.{leads-append, path_cost-append}
use Rattle.vs_match.proofs.decomposition.Moves.{paid_of, pull_out_of_piece, connects_of_piece, pull_in_of_piece, block_of_chain}

module _ (p : Problem) (is : IsInstance p) (l : LayerNo) (n : LayerGraph) (lawful : IsLawful p l.0 n) where
  abbrev g : Graph
  g = n.graph

  abbrev last : ℕ
  last = n.graph.nodes - 1

  -- a node for a point is neither the first nor the last
  pub inside : (v : ℕ) → IsBetween n.points v → (0 < v) × (v < last)
  inside v (e, at) =
      let x = placed n.points v e at in
      let nodes = lawful.labelled.each_node in
      (omega (arith, x.node), omega (arith, x.node, x.within, nodes))

  last_is : last_node n.points ≡ last
  last_is = let nodes = lawful.labelled.each_node in omega (arith, nodes)

  -- onward arcs go forward
  forward : (k : ℕ) → IsOnward g k → (arc_of g k).from < (arc_of g k).to
  forward k onward = (lawful.net.each_arc k (omega (arith, onward))).goes_on.forward onward

  to_within : (k : ℕ) → IsOnward g k → (arc_of g k).to ≤ last
  to_within k onward =
      let right = lawful.net.each_arc k (omega (arith, onward)) in
      omega (arith, right.to)

  arc_by : (kind : ArcKind) (k : ℕ) → IsOnward g k → kind_of n k ≡ kind → IsLawfulArc p l.0 n.points kind (arc_of g k)
  arc_by kind k onward e =
      subst (λ (t : ArcKind). IsLawfulArc p l.0 n.points t (arc_of g k)) e (lawful.arcs k (omega (arith, onward)))

  -- a move leads from a node for a point to another one
  move_ends : (kind : ArcKind) (a : Arc) → IsMove kind → IsLawfulArc p l.0 n.points kind a
      → IsBetween n.points a.from × IsBetween n.points a.to
  move_ends (Trip i) a moves arc = absurd moves
  move_ends Waiting a moves arc = (between_at_stop n.points a.from arc.0, between_at_stop n.points a.to arc.1)
  move_ends Deadhead a moves arc = (between_at_stop n.points a.from arc.0, between_at_stop n.points a.to arc.1)
  move_ends PullOut a moves arc = absurd moves
  move_ends PullIn a moves arc = absurd moves
  move_ends RestIn a moves arc = (between_at_stop n.points a.from arc.0, between_on_line n.points a.to arc.1)
  move_ends RestWait a moves arc = (between_on_line n.points a.from arc.0, between_on_line n.points a.to arc.1)
  move_ends RestOut a moves arc = (between_on_line n.points a.from arc.0, between_at_stop n.points a.to arc.1)
  move_ends Return a moves arc = absurd moves

  from_inside : (kind : ArcKind) (k : ℕ) → IsOnward g k → kind_of n k ≡ kind → IsMove kind
      → IsBetween n.points (arc_of g k).from
  from_inside kind k onward e moves = (move_ends kind (arc_of g k) moves (arc_by kind k onward e)).0

  leads_inside : (kind : ArcKind) (k : ℕ) → IsOnward g k → kind_of n k ≡ kind → IsMove kind
      → IsBetween n.points (arc_of g k).to
  leads_inside kind k onward e moves = (move_ends kind (arc_of g k) moves (arc_by kind k onward e)).1

  -- nothing goes on from the last node
  ends : (ks : List ℕ) (u : ℕ) → u ≡ last → Leads g (IsOnward g) u ks last → ks ≡ []
  ends [] u at leads = refl
  ends (k ∷ ks) u at leads = absurd (omega (arith, forward k leads.1, to_within k leads.1, leads.2, at))

  -- one more arc of a walk, and its cost
  walk_on : (walk : List ℕ) (k u v : ℕ) (kind : ArcKind) → IsMove kind → kind_of n k ≡ kind → IsOnward g k
      → (arc_of g k).from ≡ v → IsWalk n u walk v → IsWalk n u (walk ++ k ∷ []) (arc_of g k).to
  walk_on walk k u v kind moves e onward from is_walk =
      leads-append g (λ (j : ℕ). IsMove (kind_of n j)) walk (k ∷ []) u v (arc_of g k).to is_walk
      (omega (arith, onward), subst IsMove (sym e) moves, from, refl)

  cost_on : (walk ks : List ℕ) (k : ℕ)
      → path_cost g (walk ++ k ∷ []) +ℤ path_cost g ks ≡ path_cost g walk +ℤ path_cost g (k ∷ ks)
  cost_on walk ks k = let both = path_cost-append g walk (k ∷ []) in omega (arith, ints, both)

  -- what is left to run after trip i, for what is left to pay
  record IsRest (i : TripNo) (cost : ℤ) (rest : List TripNo) : Type 0 where
    pub chain : IsChain p l (i ∷ rest)
    pub pull_in : HasPullIn p l.0 (last_trip i rest).0
    pub no_dearer : pos
        (1000 * (trips_cost p l rest + links_cost p l (i ∷ rest) + cost_of (in_piece p l.0 (last_trip i rest).0)))
        ≤ℤ cost

  -- the way from node u to the end, after trip i, whose arrival is at node s, and a walk from there
  abbrev Follows : List ℕ → Type 0
  Follows ks = (walk : List ℕ) (i : TripNo) (s u : ℕ) → MayRun p l.0 i.0 → HasPlace n.points s (arrival p i.0)
      → IsBetween n.points u → IsWalk n s walk u → Leads g (IsOnward g) u ks last
      → IsRest i (path_cost g walk +ℤ path_cost g ks) (trips_of n.kinds ks)

  -- a trip is the next one
  rest_trip : (k : ℕ) (ks : List ℕ) (j : TripNo) → kind_of n k ≡ Trip j → Follows ks → (walk : List ℕ) (i : TripNo)
      (s u : ℕ) → MayRun p l.0 i.0 → HasPlace n.points s (arrival p i.0) → IsWalk n s walk u
      → Leads g (IsOnward g) u (k ∷ ks) last
      → IsRest i (path_cost g walk +ℤ path_cost g (k ∷ ks)) (j ∷ trips_of n.kinds ks)
  rest_trip k ks j e after walk i s u may at is_walk leads =
      let arc = arc_by (Trip j) k leads.1 e in
      let from = subst (λ (v : ℕ). HasPlace n.points v (departure p j.0)) leads.2 arc.from in
      let next = after [] j (arc_of g k).to (arc_of g k).to arc.may_run arc.to (
        point_of
            (arrival p j.0),
        arc.to,
      ) refl leads.3 in
      let link =
      paid_of g (λ (ws : List ℕ). IsWalk n s ws u) (link_piece p l.0 i.0 j.0)
      (lawful.walks.links i.0 j.0 s u may arc.may_run at from) walk is_walk in
      let rest = trips_of n.kinds ks in
      let links = sum_by-cons cost_of (link_piece p l.0 i.0 j.0) (links_between p l (j ∷ rest)) in
      let trips = sum_by-cons (λ (t : TripNo). trip_piece p l.0 t.0) j rest in
      let piece = ap cost_of link.is in
      let cost : (arc_of g k).cost ≡ pos (1000 * trip_piece p l.0 j.0) = arc.cost in
      let linked = link.no_dearer in
      let later = next.no_dearer in
      record {
        chain = (may.0, may.1, connects_of_piece p l.0 i.0 j.0 link.cost link.is, next.chain);
        pull_in = next.pull_in;
        no_dearer = omega (arith, ints, links, trips, piece, cost, linked, later);
      }

  -- a pull-in ends it
  rest_in : (k : ℕ) (ks : List ℕ) → kind_of n k ≡ PullIn → (walk : List ℕ) (i : TripNo) (s u : ℕ)
      → MayRun p l.0 i.0 → HasPlace n.points s (arrival p i.0) → IsWalk n s walk u
      → Leads g (IsOnward g) u (k ∷ ks) last → ks ≡ [] → IsRest i (path_cost g walk +ℤ path_cost g (k ∷ ks)) []
  rest_in k ks e walk i s u may at is_walk leads none =
      let back =
      paid_of g (IsWayIn n s) (in_piece p l.0 i.0) (lawful.walks.ins i.0 s may at) (walk ++ k ∷ [])
      (record {
        walk = walk;
        last = k;
        is = refl;
        of_net = leads.0;
        pull_in = e;
        is_walk = subst (λ (v : ℕ). IsWalk n s walk v) (sym leads.2) is_walk;
      }) in
      let piece = ap cost_of back.is in
      let paid = back.no_dearer in
      let both = path_cost-append g walk (k ∷ []) in
      let nothing : path_cost g ks ≡ pos 0 = ap (path_cost g) none in
      record {
        chain = may;
        pull_in = pull_in_of_piece p l.0 i.0 back.cost back.is;
        no_dearer = omega (arith, ints, piece, paid, both, nothing);
      }

  -- a move is walked on, for the rest
  rest_move : (k : ℕ) (ks : List ℕ) (kind : ArcKind) → IsMove kind → kind_of n k ≡ kind → Follows ks
      → IsBetween n.points (arc_of g k).to → (walk : List ℕ) (i : TripNo) (s u : ℕ)
      → MayRun p l.0 i.0 → HasPlace n.points s (arrival p i.0) → IsWalk n s walk u
      → Leads g (IsOnward g) u (k ∷ ks) last
      → IsRest i (path_cost g walk +ℤ path_cost g (k ∷ ks)) (trips_of n.kinds ks)
  rest_move k ks kind moves e after to walk i s u may at is_walk leads =
      let next =
      after (walk ++ k ∷ []) i s (arc_of g k).to may at to
      (walk_on walk k s u kind moves e leads.1 leads.2 is_walk) leads.3 in
      subst (λ (c : ℤ). IsRest i c (trips_of n.kinds ks)) (cost_on walk ks k) next

  rest_by : (k : ℕ) (ks : List ℕ) → Follows ks → (kind : ArcKind) → kind_of n k ≡ kind
      → (walk : List ℕ) (i : TripNo) (s u : ℕ) → MayRun p l.0 i.0 → HasPlace n.points s (arrival p i.0)
      → IsBetween n.points u → IsWalk n s walk u → Leads g (IsOnward g) u (k ∷ ks) last
      → IsRest i (path_cost g walk +ℤ path_cost g (k ∷ ks)) (trips_at kind ++ trips_of n.kinds ks)
  rest_by k ks after (Trip j) e walk i s u may at here is_walk leads =
      rest_trip k ks j e after walk i s u may at is_walk leads
  rest_by k ks after Waiting e walk i s u may at here is_walk leads =
      rest_move k ks Waiting tt e after (leads_inside Waiting k leads.1 e tt) walk i s u may at is_walk leads
  rest_by k ks after Deadhead e walk i s u may at here is_walk leads =
      rest_move k ks Deadhead tt e after (leads_inside Deadhead k leads.1 e tt) walk i s u may at is_walk leads
  rest_by k ks after PullOut e walk i s u may at here is_walk leads =
      let arc = arc_by PullOut k leads.1 e in
      absurd (omega (arith, arc.0, leads.2, (inside u here).0))
  rest_by k ks after PullIn e walk i s u may at here is_walk leads =
      let arc = arc_by PullIn k leads.1 e in
      let none = ends ks (arc_of g k).to (arc.1 ∙ last_is) leads.3 in
      subst (λ (js : List ℕ). IsRest i (path_cost g walk +ℤ path_cost g (k ∷ ks)) (trips_of n.kinds js)) (sym none)
      (rest_in k ks e walk i s u may at is_walk leads none)
  rest_by k ks after RestIn e walk i s u may at here is_walk leads =
      rest_move k ks RestIn tt e after (leads_inside RestIn k leads.1 e tt) walk i s u may at is_walk leads
  rest_by k ks after RestWait e walk i s u may at here is_walk leads =
      rest_move k ks RestWait tt e after (leads_inside RestWait k leads.1 e tt) walk i s u may at is_walk leads
  rest_by k ks after RestOut e walk i s u may at here is_walk leads =
      rest_move k ks RestOut tt e after (leads_inside RestOut k leads.1 e tt) walk i s u may at is_walk leads
  rest_by k ks after Return e walk i s u may at here is_walk leads =
      let arc = arc_by Return k leads.1 e in
      absurd (omega (arith, arc.to, forward k leads.1))

  rest_of : (ks : List ℕ) → Follows ks
  rest_of [] walk i s u may at here is_walk leads = absurd (omega (arith, leads, (inside u here).1))
  rest_of (k ∷ ks) walk i s u may at here is_walk leads =
      rest_by k ks (rest_of ks) (kind_of n k) refl walk i s u may at here is_walk leads

  -- the trips of a way are a block that costs no more, or there are none
  abbrev pub IsServed : ℤ → List TripNo → Type 0
  IsServed cost [] = Unit {0}
  IsServed cost (i ∷ rest) = IsBlock p l (i ∷ rest) × (pos (1000 * block_cost p l (i ∷ rest)) ≤ℤ cost)

  -- the way from node u to the end, after pull-out o and a walk from where it leads
  abbrev Starts : List ℕ → Type 0
  Starts ks = (walk : List ℕ) (o u : ℕ) → o < length g.arcs → kind_of n o ≡ PullOut → IsBetween n.points u
      → IsWalk n (arc_of g o).to walk u → Leads g (IsOnward g) u ks last
      → IsServed (path_cost g (o ∷ walk) +ℤ path_cost g ks) (trips_of n.kinds ks)

  -- a trip is the first one
  start_trip : (k : ℕ) (ks : List ℕ) (j : TripNo) → kind_of n k ≡ Trip j → (walk : List ℕ) (o u : ℕ)
      → o < length g.arcs → kind_of n o ≡ PullOut → IsWalk n (arc_of g o).to walk u
      → Leads g (IsOnward g) u (k ∷ ks) last
      → IsServed (path_cost g (o ∷ walk) +ℤ path_cost g (k ∷ ks)) (j ∷ trips_of n.kinds ks)
  start_trip k ks j e walk o u of_net out is_walk leads =
      let arc = arc_by (Trip j) k leads.1 e in
      let from = subst (λ (v : ℕ). HasPlace n.points v (departure p j.0)) leads.2 arc.from in
      let rest = trips_of n.kinds ks in
      let next =
      rest_of ks [] j (arc_of g k).to (arc_of g k).to arc.may_run arc.to (
        point_of
            (arrival p j.0),
        arc.to,
      ) refl leads.3 in
      let first =
      paid_of g (IsWayOut n u) (out_piece p l.0 j.0) (lawful.walks.outs j.0 u arc.may_run from) (o ∷ walk)
      (of_net, out, is_walk) in
      let block =
      block_of_chain p l j rest lawful.layer next.chain (pull_out_of_piece p l.0 j.0 first.cost first.is)
      next.pull_in in
      let pieces = blocks_cost_their_pieces p l (j ∷ rest) is block in
      let trips = sum_by-cons (λ (t : TripNo). trip_piece p l.0 t.0) j rest in
      let piece = ap cost_of first.is in
      let back = ap (λ (t : ℕ). cost_of (in_piece p l.0 t)) (last_of-is j rest) in
      let cost : (arc_of g k).cost ≡ pos (1000 * trip_piece p l.0 j.0) = arc.cost in
      let paid = first.no_dearer in
      let later = next.no_dearer in
      (block, omega (arith, ints, pieces, trips, piece, back, cost, paid, later))

  start_move : (k : ℕ) (ks : List ℕ) (kind : ArcKind) → IsMove kind → kind_of n k ≡ kind → Starts ks
      → IsBetween n.points (arc_of g k).to → (walk : List ℕ) (o u : ℕ) → o < length g.arcs
      → kind_of n o ≡ PullOut → IsWalk n (arc_of g o).to walk u → Leads g (IsOnward g) u (k ∷ ks) last
      → IsServed (path_cost g (o ∷ walk) +ℤ path_cost g (k ∷ ks)) (trips_of n.kinds ks)
  start_move k ks kind moves e after to walk o u of_net out is_walk leads =
      let next =
      after (walk ++ k ∷ []) o (arc_of g k).to of_net out to
      (walk_on walk k (arc_of g o).to u kind moves e leads.1 leads.2 is_walk) leads.3 in
      subst (λ (c : ℤ). IsServed c (trips_of n.kinds ks)) (cost_on (o ∷ walk) ks k) next

  start_by : (k : ℕ) (ks : List ℕ) → Starts ks → (kind : ArcKind) → kind_of n k ≡ kind → (walk : List ℕ) (o u : ℕ)
      → o < length g.arcs → kind_of n o ≡ PullOut → IsBetween n.points u → IsWalk n (arc_of g o).to walk u
      → Leads g (IsOnward g) u (k ∷ ks) last
      → IsServed (path_cost g (o ∷ walk) +ℤ path_cost g (k ∷ ks)) (trips_at kind ++ trips_of n.kinds ks)
  start_by k ks after (Trip j) e walk o u of_net out here is_walk leads =
      start_trip k ks j e walk o u of_net out is_walk leads
  start_by k ks after Waiting e walk o u of_net out here is_walk leads =
      start_move k ks Waiting tt e after (leads_inside Waiting k leads.1 e tt) walk o u of_net out is_walk leads
  start_by k ks after Deadhead e walk o u of_net out here is_walk leads =
      start_move k ks Deadhead tt e after (leads_inside Deadhead k leads.1 e tt) walk o u of_net out is_walk leads
  start_by k ks after PullOut e walk o u of_net out here is_walk leads =
      let arc = arc_by PullOut k leads.1 e in
      absurd (omega (arith, arc.0, leads.2, (inside u here).0))
  start_by k ks after PullIn e walk o u of_net out here is_walk leads =
      let arc = arc_by PullIn k leads.1 e in
      let none = ends ks (arc_of g k).to (arc.1 ∙ last_is) leads.3 in
      subst (λ (js : List ℕ). IsServed (path_cost g (o ∷ walk) +ℤ path_cost g (k ∷ ks)) (trips_of n.kinds js))
      (sym none) tt
  start_by k ks after RestIn e walk o u of_net out here is_walk leads =
      start_move k ks RestIn tt e after (leads_inside RestIn k leads.1 e tt) walk o u of_net out is_walk leads
  start_by k ks after RestWait e walk o u of_net out here is_walk leads =
      start_move k ks RestWait tt e after (leads_inside RestWait k leads.1 e tt) walk o u of_net out is_walk leads
  start_by k ks after RestOut e walk o u of_net out here is_walk leads =
      start_move k ks RestOut tt e after (leads_inside RestOut k leads.1 e tt) walk o u of_net out is_walk leads
  start_by k ks after Return e walk o u of_net out here is_walk leads =
      let arc = arc_by Return k leads.1 e in
      absurd (omega (arith, arc.to, forward k leads.1))

  start_of : (ks : List ℕ) → Starts ks
  start_of [] walk o u of_net out here is_walk leads = absurd (omega (arith, leads, (inside u here).1))
  start_of (k ∷ ks) walk o u of_net out here is_walk leads =
      start_by k ks (start_of ks) (kind_of n k) refl walk o u of_net out here is_walk leads

  -- only a pull-out leaves the first node
  served_by : (k : ℕ) (ks : List ℕ) (kind : ArcKind) → kind_of n k ≡ kind → Leads g (IsOnward g) 0 (k ∷ ks) last
      → IsServed (path_cost g (k ∷ ks)) (trips_at kind ++ trips_of n.kinds ks)
  served_by k ks (Trip i) e leads =
      let arc = arc_by (Trip i) k leads.1 e in
      absurd (omega (arith, leads.2, (inside (arc_of g k).from (point_of (departure p i.0), arc.from)).0))
  served_by k ks Waiting e leads =
      absurd (omega (arith, leads.2, (inside (arc_of g k).from (from_inside Waiting k leads.1 e tt)).0))
  served_by k ks Deadhead e leads =
      absurd (omega (arith, leads.2, (inside (arc_of g k).from (from_inside Deadhead k leads.1 e tt)).0))
  served_by k ks PullOut e leads =
      let arc = arc_by PullOut k leads.1 e in
      let nothing : path_cost g (k ∷ []) +ℤ path_cost g ks ≡ path_cost g (k ∷ ks) = omega (arith, ints) in
      subst (λ (c : ℤ). IsServed c (trips_of n.kinds ks)) nothing
      (start_of ks [] k (arc_of g k).to leads.0 e (between_at_stop n.points (arc_of g k).to arc.1) refl leads.3)
  served_by k ks PullIn e leads =
      absurd (omega (
        arith,
        leads.2,
        (inside (arc_of g k).from (between_at_stop n.points (arc_of g k).from
            (arc_by PullIn k leads.1 e).0)).0,
      ))
  served_by k ks RestIn e leads =
      absurd (omega (arith, leads.2, (inside (arc_of g k).from (from_inside RestIn k leads.1 e tt)).0))
  served_by k ks RestWait e leads =
      absurd (omega (arith, leads.2, (inside (arc_of g k).from (from_inside RestWait k leads.1 e tt)).0))
  served_by k ks RestOut e leads =
      absurd (omega (arith, leads.2, (inside (arc_of g k).from (from_inside RestOut k leads.1 e tt)).0))
  served_by k ks Return e leads =
      let arc = arc_by Return k leads.1 e in
      absurd (omega (arith, arc.to, forward k leads.1))

  -- a way from the first node to the last
  pub served : (path : List ℕ) → Leads g (IsOnward g) 0 path last → IsServed (path_cost g path) (trips_of n.kinds path)
  served [] leads = tt
  served (k ∷ ks) leads = served_by k ks (kind_of n k) refl leads
