-- The blocks that the vehicles of a circulation run on their paths.
use Rattle.std.proofs.Common.{◌≡◌, ◌≢◌, ℕ, suc, ◌-◌, ◌*◌, ◌<◌, ◌≤◌, ◌==◌, Bool, cond, eqb, List, [], ◌∷◌, length, get_or, refl, sym, ap, ◌∙◌, subst, inl, inr, arith, append-nil, length-append}
use Rattle.std.specs.Prelude.{ℤ, pos, negsuc, ◌+ℤ◌, ◌*ℤ◌, ◌≤ℤ◌, nat_abs}
use Rattle.std.specs.List.{All, sum_by, count_by, flat_map}
use Rattle.std.proofs.lemmas.Bool.{cases_eq, eq-eqb, ne_eqb}
use Rattle.std.proofs.lemmas.Int.{ints}
use Rattle.std.proofs.lemmas.List.Concat.{flat_map-append}
use Rattle.std.proofs.lemmas.List.Elements.{All-nil, All-cons, All-append, All-head, All-tail}
use Rattle.std.proofs.lemmas.List.Sums.{sum_by-cons, sum_by-append}
use Rattle.vs_types.specs.declared.numbers.LayerNo.{LayerNo}
use Rattle.vs_types.specs.declared.numbers.TripNo.{TripNo}
use Rattle.vs_layer.specs.declared.arc.Arc.{Arc}
use Rattle.vs_layer.specs.Ends.{arc_at}
use Rattle.vs_layer.specs.Graph.{Graph, arc_of}
use Rattle.vs_layer.specs.Circulation.{IsCirculation, cost_of_units}
use Rattle.vs_layer.specs.Walks.{Leads, path_cost}
use Rattle.vs_instance.specs.Problem.{Problem}
use Rattle.vs_instance.specs.Instance.{IsInstance}
use Rattle.vs_instance.specs.Blocks.{IsBlock, block_cost}
use Rattle.vs_instance.specs.Plan.{LayerBlock, plan_cost, times_run, all_trips}
use Rattle.vs_match.specs.declared.arc_kind.ArcKind.{ArcKind}
use Rattle.vs_match.specs.declared.arc_kind.ArcKind.TheVariants.{Trip, Waiting, Deadhead, PullOut, PullIn, RestIn, RestWait, RestOut, Return}
use Rattle.vs_match.specs.Decomposition.{Decompose}
use Rattle.vs_match.specs.Events.{arrival, point_of}
use Rattle.vs_match.specs.LawfulNets.{IsLawful, IsLawfulArc}
use Rattle.vs_match.specs.LayerGraph.{LayerGraph, IsArcOfTrip, kind_at, kind_of}
use Rattle.vs_match.specs.NetArcs.{rank, trip_number}
use Rattle.vs_match.specs.Underway.{IsOnward, Path, ArePathsOf, trips_at, trips_of, units_back, weight_of, weight_of_flow}
use Rattle.vs_match.proofs.decomposition.FlowSums.{as_one, weight-one}
use Rattle.vs_match.proofs.decomposition.PathBlocks.{IsServed, served, inside}
use Rattle.vs_match.proofs.decomposition.Arriving.{paths_of_circulation}

-- the block of these trips, where there are some
abbrev pub block_in : LayerNo → List TripNo → List LayerBlock
block_in l [] = []
block_in l (i ∷ rest) = (l, i ∷ rest) ∷ []

-- the blocks of paths
abbrev pub blocks_along : LayerNo → List ArcKind → List Path → List LayerBlock
blocks_along l kinds paths = flat_map (λ path. block_in l (trips_of kinds path)) paths

-- what is no loss is a whole number from 0 on
natural : (z : ℤ) → pos 0 ≤ℤ z → z ≡ pos (nat_abs z)
natural (pos n) le = refl
natural (negsuc n) le = absurd (omega (arith, ints))

length_block_in : (l : LayerNo) (trips : List TripNo) → length (block_in l trips) ≤ 1
length_block_in l [] = omega arith
length_block_in l (i ∷ rest) = omega arith

trips_in_block : (l : LayerNo) (trips : List TripNo) → all_trips (block_in l trips) ≡ trips
trips_in_block l [] = refl
trips_in_block l (i ∷ rest) = append-nil (i ∷ rest)

-- no more blocks than paths
few_blocks : (l : LayerNo) (kinds : List ArcKind) (paths : List Path)
    → length (blocks_along l kinds paths) ≤ length paths
few_blocks l kinds [] = omega arith
few_blocks l kinds (path ∷ rest) =
    omega (
      arith,
      length-append (block_in l (trips_of kinds path)) (blocks_along l kinds rest),
      length_block_in l (trips_of kinds path),
      few_blocks l kinds rest,
    )

-- what a flow costs, where each arc costs a whole number
cost_by_weight : (f : ℕ → ℕ) (arcs : List Arc) (units : List ℕ) → length units ≡ length arcs
    → ((k : ℕ) → k < length arcs → (arc_at arcs k).cost ≡ pos (f k))
    → cost_of_units arcs units ≡ pos (weight_of_flow f units)
cost_by_weight f [] [] same each = refl
cost_by_weight f [] (m ∷ units) same each = absurd (omega arith)
cost_by_weight f (a ∷ arcs) [] same each = absurd (omega arith)
cost_by_weight f (a ∷ arcs) (m ∷ units) same each =
    let rest =
    cost_by_weight (λ (k : ℕ). f (suc k)) arcs units (omega arith) (λ k within. each (suc k) (omega arith)) in
    ap (λ (x : ℤ). (x *ℤ pos m) +ℤ cost_of_units arcs units) (each 0 (omega arith))
    ∙ ap (λ (x : ℤ). pos (f 0 * m) +ℤ x) rest

module _ (p : Problem) (is : IsInstance p) (l : LayerNo) (n : LayerGraph) (lawful : IsLawful p l.0 n) where
  abbrev g : Graph
  g = n.graph

  -- no arc costs less than nothing
  no_loss : (kind : ArcKind) (a : Arc) → IsLawfulArc p l.0 n.points kind a → pos 0 ≤ℤ a.cost
  no_loss (Trip i) a arc = let cost = arc.cost in subst (λ (x : ℤ). pos 0 ≤ℤ x) (sym cost) (omega (arith, ints))
  no_loss Waiting a arc = arc.2.no_gain
  no_loss Deadhead a arc = arc.2.no_gain
  no_loss PullOut a arc = arc.2.no_gain
  no_loss PullIn a arc = arc.2.no_gain
  no_loss RestIn a arc = arc.2.no_gain
  no_loss RestWait a arc = arc.2.no_gain
  no_loss RestOut a arc = arc.2.no_gain
  no_loss Return a arc = let cost = arc.cost in subst (λ (x : ℤ). pos 0 ≤ℤ x) (sym cost) (omega (arith, ints))

  -- what an arc costs, as a whole number
  abbrev price : ℕ → ℕ
  price k = nat_abs (arc_of g k).cost

  price_is : (k : ℕ) → k < length g.arcs → (arc_of g k).cost ≡ pos (price k)
  price_is k within = natural (arc_of g k).cost (no_loss (kind_of n k) (arc_of g k) (lawful.arcs k within))

  path_price : (path : Path) (u v : ℕ) → Leads g (IsOnward g) u path v → path_cost g path ≡ pos (sum_by price path)
  path_price [] u v leads = refl
  path_price (k ∷ ks) u v leads =
      let one = price_is k leads.0 in
      let rest = path_price ks (arc_of g k).to v leads.3 in
      let both = sum_by-cons price k ks in
      omega (arith, ints, one, rest, both)

  abbrev IsWhole : Path → Type 0
  IsWhole path = Leads g (IsOnward g) 0 path (g.nodes - 1)

  abbrev IsOurs : LayerBlock → Type 0
  IsOurs b = (b.0 ≡ l) × IsBlock p l b.1

  ours_in : (cost : ℤ) (trips : List TripNo) → IsServed p is l n lawful cost trips → All IsOurs (block_in l trips)
  ours_in cost [] serves = All-nil IsOurs
  ours_in cost (i ∷ rest) serves = All-cons IsOurs (l, i ∷ rest) [] (refl, serves.0) (All-nil IsOurs)

  -- each is a block of the layer
  all_ours : (paths : List Path) → All IsWhole paths → All IsOurs (blocks_along l n.kinds paths)
  all_ours [] whole = All-nil IsOurs
  all_ours (path ∷ rest) whole =
      All-append IsOurs (block_in l (trips_of n.kinds path)) (blocks_along l n.kinds rest)
      (ours_in (path_cost g path) (trips_of n.kinds path)
      (served p is l n lawful path (All-head IsWhole path rest whole)))
      (all_ours rest (All-tail IsWhole path rest whole))

  cost_in : (cost : ℤ) (m : ℕ) (trips : List TripNo) → IsServed p is l n lawful cost trips → cost ≡ pos m
      → 1000 * plan_cost p (block_in l trips) ≤ m
  cost_in cost m [] serves same = omega arith
  cost_in cost m (i ∷ rest) serves same = let paid = serves.1 in omega (arith, ints, paid, same)

  -- they cost no more than the paths
  no_dearer : (paths : List Path) → All IsWhole paths
      → 1000 * plan_cost p (blocks_along l n.kinds paths) ≤ weight_of price paths
  no_dearer [] whole = omega arith
  no_dearer (path ∷ rest) whole =
      let leads = All-head IsWhole path rest whole in
      let one =
      cost_in (path_cost g path) (sum_by price path) (trips_of n.kinds path) (served p is l n lawful path leads)
      (path_price path 0 (g.nodes - 1) leads) in
      let more = no_dearer rest (All-tail IsWhole path rest whole) in
      let both =
      sum_by-append (λ (b : LayerBlock). block_cost p b.0 b.1) (block_in l (trips_of n.kinds path))
      (blocks_along l n.kinds rest) in
      let weights = sum_by-cons (λ (x : Path). sum_by price x) path rest in
      omega (arith, one, more, both, weights)

  module _ (i k : ℕ) (own : IsArcOfTrip n.kinds i k) where
    -- an arc counts where it is the trip's
    abbrev one_at : ℕ → ℕ
    one_at j = as_one (eqb j k)

    abbrev counts : TripNo → Bool
    counts t = t.0 == i

    apart : (j : ℕ) (kind : ArcKind) → kind_at n.kinds j ≡ kind → 0 < rank kind → j ≢ k
    apart j kind e ranked same =
        let bad : kind ≡ Trip (record { 0 = i }) = sym e ∙ ap (kind_at n.kinds) same ∙ own.1 in
        omega (arith, ranked, ap rank bad)

    none_at : (j : ℕ) (kind : ArcKind) → kind_at n.kinds j ≡ kind → 0 < rank kind → one_at j ≡ 0
    none_at j kind e ranked = ap as_one (ne_eqb j k (apart j kind e ranked))

    count_at : (j : ℕ) → j < length n.kinds → (kind : ArcKind) → kind_at n.kinds j ≡ kind
        → count_by counts (trips_at kind) ≡ one_at j
    count_at j within (Trip t) e =
        elim (cases_eq t.0 i) [
          | inl same ↦
              let trip : kind_at n.kinds j ≡ Trip (record { 0 = i }) =
              e ∙ ap (λ (x : ℕ). Trip (record { 0 = x })) same in
              let here = lawful.one_arc i j k (within, trip) own in
              let left = ap as_one (eq-eqb t.0 i same) in
              let right = ap as_one (eq-eqb j k here) in
              omega (arith, left, right)
          | inr other ↦
              let left = ap as_one (ne_eqb t.0 i other) in
              let right = ap as_one
              (ne_eqb j k (λ same. other (ap trip_number (sym e ∙ ap (kind_at n.kinds) same ∙ own.1)))) in
              omega (arith, left, right)
        ]
    count_at j within Waiting e = sym (none_at j Waiting e (omega arith))
    count_at j within Deadhead e = sym (none_at j Deadhead e (omega arith))
    count_at j within PullOut e = sym (none_at j PullOut e (omega arith))
    count_at j within PullIn e = sym (none_at j PullIn e (omega arith))
    count_at j within RestIn e = sym (none_at j RestIn e (omega arith))
    count_at j within RestWait e = sym (none_at j RestWait e (omega arith))
    count_at j within RestOut e = sym (none_at j RestOut e (omega arith))
    count_at j within Return e = sym (none_at j Return e (omega arith))

    -- a path runs the trip as often as it takes its arc
    count_path : (path : Path) (u v : ℕ) → Leads g (IsOnward g) u path v
        → count_by counts (trips_of n.kinds path) ≡ sum_by one_at path
    count_path [] u v leads = refl
    count_path (j ∷ js) u v leads =
        let within : j < length n.kinds = let same = lawful.labelled.each_arc in omega (arith, leads.0, same) in
        let here = count_at j within (kind_at n.kinds j) refl in
        let rest = count_path js (arc_of g j).to v leads.3 in
        let both =
        sum_by-append (λ (t : TripNo). cond (counts t) 1 0) (trips_at (kind_at n.kinds j)) (trips_of n.kinds js) in
        omega (arith, here, rest, both, sum_by-cons one_at j js)

    -- so do the blocks
    count_blocks : (paths : List Path) → All IsWhole paths
        → times_run (blocks_along l n.kinds paths) i ≡ weight_of one_at paths
    count_blocks [] whole = refl
    count_blocks (path ∷ rest) whole =
        let first = block_in l (trips_of n.kinds path) in
        let others = blocks_along l n.kinds rest in
        let trips = ap (count_by counts) (flat_map-append (λ (b : LayerBlock). b.1) first others) in
        let both = sum_by-append (λ (t : TripNo). cond (counts t) 1 0) (all_trips first) (all_trips others) in
        let own = ap (count_by counts) (trips_in_block l (trips_of n.kinds path)) in
        let one = count_path path 0 (g.nodes - 1) (All-head IsWhole path rest whole) in
        let more = count_blocks rest (All-tail IsWhole path rest whole) in
        omega (arith, trips, both, own, one, more, sum_by-cons (λ (x : Path). sum_by one_at x) path rest)

    -- the trip's arc isn't the return arc
    not_last : k ≢ length g.arcs - 1
    not_last same =
        let within : k < length g.arcs = let each = lawful.labelled.each_arc in omega (arith, own.0, each) in
        let arc =
        subst (λ (t : ArcKind). IsLawfulArc p l.0 n.points t (arc_of g k)) own.1 (lawful.arcs k within) in
        let to = (inside p is l n lawful (arc_of g k).to (point_of (arrival p i), arc.to)).0 in
        let back = (lawful.net.each_arc k within).goes_on.to_first (omega (arith, within, same)) in
        omega (arith, to, back)

    runs_as_often : (units : List ℕ) (paths : List Path) → length units ≡ length g.arcs → ArePathsOf g units paths
        → times_run (blocks_along l n.kinds paths) i ≡ get_or units k 0
    runs_as_often units paths same are =
        let within : k < length units = let each = lawful.labelled.each_arc in omega (arith, own.0, each, same) in
        let all = are.weights one_at in
        let none = ap (λ (b : Bool). as_one b * units_back g units)
        (ne_eqb (length g.arcs - 1) k (λ e. not_last (sym e))) in
        omega (arith, all, none, count_blocks paths are.whole, weight-one units k within)

  -- the blocks of the paths of a circulation
  pub decompose : (units : List ℕ) (paths : List Path) → IsCirculation g units → ArePathsOf g units paths
      → Decompose p l n units (blocks_along l n.kinds paths)
  decompose units paths circulates are = record {
    each_block = all_ours paths are.whole;
    vehicles = let few = few_blocks l n.kinds paths in let all = are.vehicles in omega (arith, few, all);
    trips = λ i k own. runs_as_often i k own units paths circulates.each_arc are;
    no_dearer =
        let cheap = no_dearer paths are.whole in
        let all = are.weights price in
        let cost = cost_by_weight price g.arcs units circulates.each_arc price_is in
        subst (λ (x : ℤ). pos (1000 * plan_cost p (blocks_along l n.kinds paths)) ≤ℤ x) (sym cost)
        (omega (arith, ints, cheap, all));
  }

  pub circulation_decomposes : (units : List ℕ) → IsCirculation g units
      → (blocks : List LayerBlock) × Decompose p l n units blocks
  circulation_decomposes units circulates =
      let found = paths_of_circulation g lawful.net units circulates in
      (blocks_along l n.kinds found.0, decompose units found.0 circulates found.1)
