-- A vehicle that stands at a node takes one unit of an arc that leaves it.
use Rattle.std.proofs.Common.{◌≡◌, ◌≢◌, ℕ, ◌+◌, ◌-◌, ◌*◌, ◌<◌, ◌≤◌, Bool, eqb, List, [], ◌∷◌, ◌++◌, length, get_or, set, Some, refl, sym, ap, ◌∙◌, subst, inl, inr, arith}
use Rattle.std.specs.List.{All, sum_by}
use Rattle.std.proofs.lemmas.Bool.{cases_eq, eqb-true, eq-eqb, ne_eqb}
use Rattle.std.proofs.lemmas.List.{length-set, get_or-set_same, get_or-set_other, length_push}
use Rattle.std.proofs.lemmas.List.Elements.{All-push, All-pop}
use Rattle.std.proofs.lemmas.List.Sums.{sum_by-set, sum_by_push}
use Rattle.vs_layer.specs.Graph.{Graph, IsNet, arc_of, leaving, reaching}
use Rattle.vs_layer.specs.Circulation.{IsCirculation, units_out, units_in}
use Rattle.vs_layer.specs.Walks.{Leads}
use Rattle.vs_match.specs.Underway.{IsOnward, Path, AreUnderWay, paths_at, units_back, weight_of, weight_of_flow}
use Rattle.vs_match.proofs.walks.WaitingChains.{leads-append}
use Rattle.vs_match.proofs.decomposition.FlowSums.{as_one, units-more, times-first, sums-le, weight-set}

-- one unit more on arc k
abbrev pub one_more : List ℕ → ℕ → List ℕ
one_more done k = set done k (get_or done k 0 + 1)

-- the stands once the vehicle with this path has left those that stay at node v, and has come by arc k to node w
abbrev pub moved : List (List Path) → ℕ → ℕ → ℕ → List Path → Path → List (List Path)
moved stands v w k here path = set (set stands v here) w (paths_at stands w ++ (path ++ k ∷ []) ∷ [])

module _ (g : Graph) (net : IsNet g) where
  forward : (k : ℕ) → IsOnward g k → (arc_of g k).from < (arc_of g k).to
  forward k onward = (net.each_arc k (omega (arith, onward))).goes_on.forward onward

  within_nodes : (k : ℕ) → IsOnward g k → (arc_of g k).to < g.nodes
  within_nodes k onward = (net.each_arc k (omega (arith, onward))).to

  -- the units at both ends of the arc
  out_more : (done : List ℕ) (k v : ℕ) → k < length g.arcs → length done ≡ length g.arcs
      → units_out g (one_more done k) v ≡ units_out g done v + as_one (eqb (arc_of g k).from v)
  out_more done k v within same =
      units-more done k (leaving g v) (omega (arith, within, same))
      ∙ ap (λ (t : ℕ). units_out g done v + t) (times-first (λ j. eqb (arc_of g j).from v) (length g.arcs) k within)

  in_more : (done : List ℕ) (k v : ℕ) → k < length g.arcs → length done ≡ length g.arcs
      → units_in g (one_more done k) v ≡ units_in g done v + as_one (eqb (arc_of g k).to v)
  in_more done k v within same =
      units-more done k (reaching g v) (omega (arith, within, same))
      ∙ ap (λ (t : ℕ). units_in g done v + t) (times-first (λ j. eqb (arc_of g j).to v) (length g.arcs) k within)

  own : (u v : ℕ) → u ≡ v → as_one (eqb u v) ≡ 1
  own u v same = ap as_one (eq-eqb u v same)

  other : (u v : ℕ) → u ≢ v → as_one (eqb u v) ≡ 0
  other u v apart = ap as_one (ne_eqb u v apart)

  -- where all that reaches a node is done, as much is done as reaches it
  all_in : (units done : List ℕ) (v : ℕ)
      → ((j : ℕ) → j < length g.arcs → (arc_of g j).to ≡ v → get_or done j 0 ≡ get_or units j 0)
      → units_in g done v ≡ units_in g units v
  all_in units done v each =
      let p : ℕ → Bool = λ j. eqb (arc_of g j).to v in
      let up =
      sums-le p (λ j. get_or done j 0) (λ j. get_or units j 0) (length g.arcs)
      (λ j within at. omega (arith, each j within (eqb-true (arc_of g j).to v at))) in
      let down =
      sums-le p (λ j. get_or units j 0) (λ j. get_or done j 0) (length g.arcs)
      (λ j within at. omega (arith, each j within (eqb-true (arc_of g j).to v at))) in
      omega (arith, up, down)

  module _ (units : List ℕ) (circulates : IsCirculation g units) (done : List ℕ) (stands : List (List Path))
      (under : AreUnderWay g units done stands) (k : ℕ) (onward : IsOnward g k)
      (less : get_or done k 0 < get_or units k 0) where
    abbrev v : ℕ
    v = (arc_of g k).from

    abbrev w : ℕ
    w = (arc_of g k).to

    of_net : k < length g.arcs
    of_net = omega (arith, onward)

    within_done : k < length done
    within_done = let same = under.each_arc in omega (arith, onward, same)

    -- still no more than the units
    more_within : (j : ℕ) → j < length g.arcs → get_or (one_more done k) j 0 ≤ get_or units j 0
    more_within j within =
        elim (cases_eq j k) [
          | inl same ↦
              let written = ap (λ (i : ℕ). get_or (one_more done k) i 0) same
              ∙ get_or-set_same done k (get_or done k 0 + 1) 0 within_done in
              let read = ap (λ (i : ℕ). get_or units i 0) same in
              omega (arith, written, read, less)
          | inr apart ↦
              omega (arith, get_or-set_other done k j (get_or done k 0 + 1) 0 apart, under.within j within)
        ]

    -- where all has come that reaches the node, a vehicle stands there
    pub some_stands : ((j : ℕ) → j < length g.arcs → (arc_of g j).to ≡ v → get_or done j 0 ≡ get_or units j 0)
        → 0 < length (paths_at stands v)
    some_stands reached =
        let inner : v + 1 < g.nodes = omega (arith, forward k onward, within_nodes k onward) in
        let stop_nodes = under.standing v inner in
        let come = all_in units done v reached in
        let kept = circulates.conserved v (omega (arith, inner)) in
        let more = out_more done k v of_net under.each_arc in
        let here = own v v refl in
        let left =
        sums-le (λ j. eqb (arc_of g j).from v) (λ j. get_or (one_more done k) j 0) (λ j. get_or units j 0)
        (length g.arcs) (λ j within at. more_within j within) in
        omega (arith, stop_nodes, come, kept, more, here, left)

    module _ (here : List Path) (path : Path) (is : paths_at stands v ≡ here ++ path ∷ []) where
      abbrev after : List (List Path)
      after = moved stands v w k here path

      abbrev gone : List (List Path)
      gone = set stands v here

      abbrev there : List Path
      there = paths_at stands w ++ (path ++ k ∷ []) ∷ []

      v_within : v < length stands
      v_within =
          let nodes = under.each_node in omega (arith, forward k onward, within_nodes k onward, nodes)

      w_within : w < length gone
      w_within =
          let nodes = under.each_node in
          let same = length-set stands v here in
          omega (arith, within_nodes k onward, nodes, same)

      v_apart : v ≢ w
      v_apart same = omega (arith, forward k onward, same)

      at_w : paths_at after w ≡ there
      at_w = get_or-set_same gone w there [] w_within

      at_v : paths_at after v ≡ here
      at_v = get_or-set_other gone w v there [] v_apart ∙ get_or-set_same stands v here [] v_within

      at_other : (u : ℕ) → u ≢ v → u ≢ w → paths_at after u ≡ paths_at stands u
      at_other u not_v not_w =
          get_or-set_other gone w u there [] not_w ∙ get_or-set_other stands v u here [] not_v

      abbrev Come : ℕ → List Path → Type 0
      Come u paths = All (λ path. Leads g (IsOnward g) 0 path u) paths

      -- the vehicle that leaves, and those that stay
      at_hand : Come v here × Leads g (IsOnward g) 0 path v
      at_hand =
          All-pop (λ path. Leads g (IsOnward g) 0 path v) (paths_at stands v) here (Some path) is
          (under.paths v (let nodes = under.each_node in omega (arith, v_within, nodes)))

      come_to : Leads g (IsOnward g) 0 (path ++ k ∷ []) w
      come_to = leads-append g (IsOnward g) path (k ∷ []) 0 v w at_hand.1 (of_net, onward, refl, refl)

      paths_after : (u : ℕ) → u < g.nodes → Come u (paths_at after u)
      paths_after u inside =
          elim (cases_eq u w) [
            | inl same ↦
                let all =
                All-push (λ path. Leads g (IsOnward g) 0 path w) (paths_at stands w) (path ++ k ∷ [])
                (under.paths w (within_nodes k onward)) come_to in
                subst (λ (x : ℕ). Come x (paths_at after x)) (sym same) (subst (Come w) (sym at_w) all)
            | inr not_w ↦ elim (cases_eq u v) [
              | inl same ↦
                  subst (λ (x : ℕ). Come x (paths_at after x)) (sym same) (subst (Come v) (sym at_v) at_hand.0)
              | inr not_v ↦ subst (Come u) (sym (at_other u not_v not_w)) (under.paths u inside)
            ]
          ]

      standing_after : (u : ℕ) → u + 1 < g.nodes
          → length (paths_at after u) + units_out g (one_more done k) u ≡ units_in g (one_more done k) u
      standing_after u inner =
          let before = under.standing u inner in
          let out = out_more done k u of_net under.each_arc in
          let in' = in_more done k u of_net under.each_arc in
          elim (cases_eq u w) [
            | inl same ↦
                let count = ap (λ (x : ℕ). length (paths_at after x)) same ∙ ap length at_w
                ∙ length_push (paths_at stands w) (path ++ k ∷ []) in
                let old = ap (λ (x : ℕ). length (paths_at stands x)) same in
                omega (
                  arith,
                  before,
                  out,
                  in',
                  count,
                  old,
                  other v u (λ e. v_apart (e ∙ same)),
                  own w u (sym same),
                )
            | inr not_w ↦ elim (cases_eq u v) [
              | inl same ↦
                  let count = ap (λ (x : ℕ). length (paths_at after x)) same ∙ ap length at_v in
                  let old = ap (λ (x : ℕ). length (paths_at stands x)) same ∙ ap length is ∙ length_push here path in
                  omega (
                    arith,
                    before,
                    out,
                    in',
                    count,
                    old,
                    own v u (sym same),
                    other w u (λ e. not_w (sym e)),
                  )
              | inr not_v ↦
                  let count = ap length (at_other u not_v not_w) in
                  omega (
                    arith,
                    before,
                    out,
                    in',
                    count,
                    other v u (λ e. not_v (sym e)),
                    other w u (λ e. not_w (sym e)),
                  )
            ]
          ]

      -- what all stands weigh
      weigh_after : (F : List Path → ℕ)
          → sum_by F after + F (paths_at stands w) + F (paths_at stands v) ≡ sum_by F stands + F here + F there
      weigh_after F =
          let first = sum_by-set F stands v here [] v_within in
          let second = sum_by-set F gone w there [] w_within in
          let same = ap F (get_or-set_other stands v w here [] (λ e. v_apart (sym e))) in
          omega (arith, first, second, same)

      vehicles_after : sum_by length after ≡ units_back g units
      vehicles_after =
          let all = weigh_after length in
          let old = ap length is ∙ length_push here path in
          let new = length_push (paths_at stands w) (path ++ k ∷ []) in
          let before = under.vehicles in
          omega (arith, all, old, new, before)

      weights_after : (f : ℕ → ℕ) → sum_by (weight_of f) after + f (length g.arcs - 1) * units_back g units
          ≡ weight_of_flow f (one_more done k)
      weights_after f =
          let all = weigh_after (weight_of f) in
          let old = ap (weight_of f) is ∙ sum_by_push (λ (x : Path). sum_by f x) here path in
          let new = sum_by_push (λ (x : Path). sum_by f x) (paths_at stands w) (path ++ k ∷ []) in
          let longer = sum_by_push f path k in
          let before = under.weights f in
          let flow = weight-set f done k (get_or done k 0 + 1) within_done in
          omega (arith, all, old, new, longer, before, flow)

      -- the vehicles are under way again
      pub step : AreUnderWay g units (one_more done k) after
      step = record {
        each_node = length-set gone w there ∙ length-set stands v here ∙ under.each_node;
        each_arc = length-set done k (get_or done k 0 + 1) ∙ under.each_arc;
        within = more_within;
        returned = get_or-set_other done k (length g.arcs - 1) (get_or done k 0 + 1) 0 (λ e. omega (arith, onward, e))
            ∙ under.returned;
        paths = paths_after;
        standing = standing_after;
        vehicles = vehicles_after;
        weights = weights_after;
      }
