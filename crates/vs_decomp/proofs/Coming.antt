-- A vehicle that goes by an arc takes a unit of it.
use Rattle.std.proofs.Common.{◌≡◌, ℕ, ◌<◌, List, [], ◌∷◌, ◌++◌, length, map, get_or, set, sym, ap, ◌∙◌, arith, append-nil}
use Rattle.std.proofs.lemmas.List.{length-map, length-set, get_or-map, get_or-set_same, get_or-set_other, map-set, map_push, length_push, set-set, set-get_or, same_from_push}
use Rattle.std.proofs.lemmas.List.Concat.{flat_map-append}
use Rattle.vs_types.specs.declared.numbers.LayerNo.{LayerNo}
use Rattle.vs_types.specs.declared.numbers.TripNo.{TripNo}
use Rattle.vs_layer.specs.Graph.{IsNet, arc_of}
use Rattle.vs_layer.specs.Circulation.{IsCirculation}
use Rattle.vs_instance.specs.Plan.{LayerBlock}
use Rattle.vs_match.specs.LayerGraph.{LayerGraph, kind_at, kind_of}
use Rattle.vs_match.specs.Underway.{IsOnward, Path, IsDoneBelow, paths_at, trips_at, trips_of}
use Rattle.vs_match.proofs.CallerLemmas.{all_reached, last_of_some, moved, one_more, some_stands, step}
use Rattle.vs_decomp.specs.Stands.{Goes, HaveCome, run_on, vehicles_at, with_vehicle}

module _ (n : LayerGraph) (l : LayerNo) where
  -- what the vehicles with these paths have run
  abbrev pub have_run : List Path → List LayerBlock
  have_run some = map (run_on n l) some

  -- at each node
  abbrev pub all_have_run : List (List Path) → List (List LayerBlock)
  all_have_run stands = map have_run stands

  -- at one node
  pub run_at : (stands : List (List Path)) (v : ℕ) → v < length stands
      → vehicles_at (all_have_run stands) v ≡ have_run (paths_at stands v)
  run_at stands v within = get_or-map have_run stands v [] [] within

  -- as many nodes as the net has
  pub count_nodes : (units done : List ℕ) (stands : List (List LayerBlock)) → HaveCome n l units done stands
      → length stands ≡ n.graph.nodes
  count_nodes units done stands come = ap length come.are ∙ length-map come.paths have_run ∙ come.under.each_node

  -- one arc more
  run_more : (path : Path) (k : ℕ) → run_on n l (path ++ k ∷ []) ≡ (l, trips_of n.kinds path ++ trips_at (kind_of n k))
  run_more path k =
      let both = flat_map-append (λ (j : ℕ). trips_at (kind_at n.kinds j)) path (k ∷ []) in
      ap (λ (trips : List TripNo). (l, trips))
      (both ∙ ap (λ (trips : List TripNo). trips_of n.kinds path ++ trips) (append-nil (trips_at (kind_of n k))))

  -- what is left of the stands and who leaves, in terms of the paths
  record IsLeft (stands : List (List Path)) (v : ℕ) (left : List (List LayerBlock)) (b : LayerBlock) : Type 0 where
    pub before : List Path
    pub path : Path
    pub is : paths_at stands v ≡ before ++ path ∷ []
    pub left_is : left ≡ all_have_run (set stands v before)
    pub ran : b ≡ run_on n l path

  leaves : (stands : List (List Path)) (v : ℕ) (left : List (List LayerBlock)) (b : LayerBlock) → v < length stands
      → all_have_run stands ≡ with_vehicle v b left → IsLeft stands v left b
  leaves stands v left b within is =
      let count : length stands ≡ length left =
      sym (length-map stands have_run) ∙ ap length is ∙ length-set left v (vehicles_at left v ++ b ∷ []) in
      let here : have_run (paths_at stands v) ≡ vehicles_at left v ++ b ∷ [] =
      sym (run_at stands v within) ∙ ap (λ (s : List (List LayerBlock)). vehicles_at s v) is
      ∙ get_or-set_same left v (vehicles_at left v ++ b ∷ []) [] (omega (arith, within, count)) in
      let some : 0 < length (paths_at stands v) =
      omega (
        arith,
        length-map (paths_at stands v) (run_on n l),
        ap length here,
        length_push (vehicles_at left v) b,
      ) in
      let last = last_of_some (paths_at stands v) some in
      let same =
      same_from_push (have_run last.before) (vehicles_at left v) (run_on n l last.item) b
      (sym (map_push (run_on n l) last.before last.item) ∙ ap have_run (sym last.is) ∙ here) in
      record {
        before = last.before;
        path = last.item;
        is = last.is;
        left_is =
            sym (set-get_or left v []) ∙ sym (set-set left v (vehicles_at left v ++ b ∷ []) (vehicles_at left v))
            ∙ ap (λ (s : List (List LayerBlock)). set s v (vehicles_at left v)) (sym is)
            ∙ ap (set (all_have_run stands) v) (sym same.0) ∙ sym (map-set have_run stands v last.before);
        ran = sym same.1;
      }

  module _ (net : IsNet n.graph) (units : List ℕ) (circulates : IsCirculation n.graph units) (k : ℕ)
      (onward : IsOnward n.graph k) where
    abbrev v : ℕ
    v = (arc_of n.graph k).from

    abbrev w : ℕ
    w = (arc_of n.graph k).to

    up : v < w
    up = (net.each_arc k (omega (arith, onward))).goes_on.forward onward

    inner : w < n.graph.nodes
    inner = (net.each_arc k (omega (arith, onward))).to

    -- a vehicle stands where a unit is left to take
    pub some_vehicle : (done : List ℕ) (stands : List (List LayerBlock)) → HaveCome n l units done stands
        → IsDoneBelow n.graph units v done → get_or done k 0 < get_or units k 0 → 0 < length (vehicles_at stands v)
    some_vehicle done stands come below less =
        let within : v < length come.paths = let nodes = come.under.each_node in omega (arith, up, inner, nodes) in
        let some =
        some_stands n.graph net units circulates done come.paths come.under k onward less
        (all_reached n.graph net units circulates v done come.paths come.under below) in
        let count = ap (λ (s : List (List LayerBlock)). length (vehicles_at s v)) come.are
        ∙ ap length (run_at come.paths v within) ∙ length-map (paths_at come.paths v) (run_on n l) in
        omega (arith, some, count)

    -- once it has gone, one unit more is done
    pub goes : (done : List ℕ) (old new : List (List LayerBlock)) → HaveCome n l units done old
        → get_or done k 0 < get_or units k 0 → Goes n k old new → HaveCome n l units (one_more done k) new
    goes done old new come less go =
        let stands = come.paths in
        let nodes = come.under.each_node in
        let within : v < length stands = omega (arith, up, inner, nodes) in
        let left = leaves stands v go.left go.vehicle within (sym come.are ∙ go.leaves) in
        let gone = set stands v left.before in
        let within' : w < length gone = let same = length-set stands v left.before in omega
        (arith, inner, nodes, same) in
        let there : vehicles_at go.left w ≡ have_run (paths_at stands w) =
        ap (λ (s : List (List LayerBlock)). vehicles_at s w) left.left_is ∙ run_at gone w within'
        ∙ ap have_run (get_or-set_other stands v w left.before [] (λ e. omega (arith, e, up))) in
        let ran : (go.vehicle.0, go.vehicle.1 ++ trips_at (kind_of n k)) ≡ run_on n l (left.path ++ k ∷ []) =
        ap (λ (b : LayerBlock). (b.0, b.1 ++ trips_at (kind_of n k))) left.ran ∙ sym (run_more left.path k) in
        let arrives : vehicles_at go.left w ++ (go.vehicle.0, go.vehicle.1 ++ trips_at (kind_of n k)) ∷ []
        ≡ have_run (paths_at stands w ++ (left.path ++ k ∷ []) ∷ []) =
        ap (λ (some : List LayerBlock). some ++ (go.vehicle.0, go.vehicle.1 ++ trips_at (kind_of n k)) ∷ []) there
        ∙ ap (λ (b : LayerBlock). have_run (paths_at stands w) ++ b ∷ []) ran
        ∙ sym (map_push (run_on n l) (paths_at stands w) (left.path ++ k ∷ [])) in
        record {
          paths = moved stands v w k left.before left.path;
          are = go.comes ∙ ap (λ (s : List (List LayerBlock)). set s w (vehicles_at go.left w
              ++ (go.vehicle.0, go.vehicle.1 ++ trips_at (kind_of n k)) ∷ [])) left.left_is
              ∙ ap (set (all_have_run gone) w) arrives
              ∙ sym (map-set have_run gone w (paths_at stands w ++ (left.path ++ k ∷ []) ∷ []));
          under =
              step n.graph net units circulates done stands come.under k onward less left.before left.path left.is;
        }
