-- Every circulation of a net has paths: from the first node on, the vehicles at a node take the units that leave it.
use Rattle.std.proofs.Common.{◌≡◌, ◌≢◌, ℕ, zero, suc, ◌+◌, ◌-◌, ◌*◌, ◌<◌, ◌≤◌, eqb, List, [], ◌∷◌, ◌++◌, length, get_or, set, refl, sym, ap, ◌∙◌, subst, inl, inr, arith}
use Rattle.std.specs.Prelude.{replicate}
use Rattle.std.specs.List.{All, sum_by}
use Rattle.std.proofs.lemmas.Bool.{cases_eq, cases_lt, eq-eqb, ne_eqb}
use Rattle.std.proofs.lemmas.List.{length-set, length-replicate, get_or-replicate, get_or-set_same, get_or-set_other, ext_get_or, nil_from_length}
use Rattle.std.proofs.lemmas.List.Elements.{All-nil, All-replicate, All-from_get_or}
use Rattle.std.proofs.lemmas.List.Folds.{sum_by-replicate}
use Rattle.std.proofs.lemmas.List.Sums.{sum_by-set, sum_by-le}
use Rattle.vs_layer.specs.Graph.{Graph, IsNet, arc_of, leaving, reaching}
use Rattle.vs_layer.specs.Circulation.{IsCirculation, units_out, units_in}
use Rattle.vs_layer.specs.Walks.{Leads}
use Rattle.vs_match.specs.Underway.{IsOnward, Path, AreUnderWay, ArePathsOf, IsDoneBelow, paths_at, units_back, weight_of, weight_of_flow}
use Rattle.vs_match.proofs.decomposition.FlowSums.{as_one, times, times-first, units-set, units-none, weight-set, weight-none}
use Rattle.vs_match.proofs.decomposition.UnitSteps.{one_more, moved, some_stands, step}

-- the last of some
pub record HasLast {X : Type 0} (xs : List X) : Type 0 where
  pub before : List X
  pub item : X
  pub is : xs ≡ before ++ item ∷ []

has_last : {X : Type 0} (x : X) (xs : List X) → HasLast (x ∷ xs)
has_last x [] = record { before = []; item = x; is = refl }
has_last x (y ∷ ys) =
    let rest = has_last y ys in
    record { before = x ∷ rest.before; item = rest.item; is = ap (λ zs. x ∷ zs) rest.is }

pub last_of_some : {X : Type 0} (xs : List X) → 0 < length xs → HasLast xs
last_of_some [] some = absurd (omega arith)
last_of_some (x ∷ xs) some = has_last x xs

-- a sum to which one place alone adds
sum_at : {X : Type 0} (F : List X → ℕ) (xss : List (List X)) (i : ℕ) → F [] ≡ 0 → i < length xss
    → ((j : ℕ) → j < length xss → j ≢ i → get_or xss j [] ≡ []) → sum_by F xss ≡ F (get_or xss i [])
sum_at {X} F xss i none within others =
    let rest = set xss i [] in
    let P : List X → Type 0 = λ xs. F xs ≤ 0 in
    let each : (j : ℕ) → j < length rest → P (get_or rest j []) = λ j inside. elim (cases_eq j i) [
      | inl same ↦
          let here = ap (λ (m : ℕ). F (get_or rest m [])) same ∙ ap F (get_or-set_same xss i [] [] within) in
          omega (arith, here, none)
      | inr apart ↦
          let inside' : j < length xss = let same = length-set xss i [] in omega (arith, inside, same) in
          let here = ap F (get_or-set_other xss i j [] [] apart ∙ others j inside' apart) in
          omega (arith, here, none)
    ] in
    let nothing = sum_by-le F 0 rest (All-from_get_or P rest [] each) in
    let both = sum_by-set F xss i [] [] within in
    omega (arith, nothing, both, none)

module _ (g : Graph) (net : IsNet g) (units : List ℕ) (circulates : IsCirculation g units) where
  abbrev end : ℕ
  end = length g.arcs - 1

  abbrev back : ℕ
  back = units_back g units

  -- where all is done that leaves nodes below v, all that reaches it is
  pub all_reached : (v : ℕ) (done : List ℕ) (stands : List (List Path)) → AreUnderWay g units done stands
      → IsDoneBelow g units v done → (j : ℕ) → j < length g.arcs → (arc_of g j).to ≡ v
      → get_or done j 0 ≡ get_or units j 0
  all_reached v done stands under below j within to =
      elim (cases_lt (j + 1) (length g.arcs)) [
        | inl onward ↦
            let up = (net.each_arc j within).goes_on.forward onward in
            below j onward (omega (arith, up, to))
        | inr not ↦
            let same : j ≡ end = omega (arith, within, not) in
            ap (λ (i : ℕ). get_or done i 0) same ∙ under.returned ∙ ap (λ (i : ℕ). get_or units i 0) (sym same)
      ]

  -- node v is reached, and the first m arcs are done as far as they leave it
  record IsReached (v m : ℕ) : Type 0 where
    pub done : List ℕ
    pub stands : List (List Path)
    pub under : AreUnderWay g units done stands
    pub below : IsDoneBelow g units v done
    pub here : (j : ℕ) → j < m → IsOnward g j → (arc_of g j).from ≡ v → get_or done j 0 ≡ get_or units j 0

  -- one unit more
  take_unit : (v m k : ℕ) → IsOnward g k → (arc_of g k).from ≡ v → (r : IsReached v m)
      → get_or r.done k 0 < get_or units k 0 → (s : IsReached v m) × (get_or s.done k 0 ≡ get_or r.done k 0 + 1)
  take_unit v m k onward from r less =
      let P : ℕ → Type 0 = λ u. IsDoneBelow g units u r.done in
      let some =
      some_stands g net units circulates r.done r.stands r.under k onward less
      (all_reached (arc_of g k).from r.done r.stands r.under (subst P (sym from) r.below)) in
      let last = last_of_some (paths_at r.stands (arc_of g k).from) some in
      let within : k < length r.done = let same = r.under.each_arc in omega (arith, onward, same) in
      let kept : (j : ℕ) → get_or r.done j 0 ≡ get_or units j 0 → get_or (one_more r.done k) j 0 ≡ get_or units j 0 =
      λ j full. elim (cases_eq j k) [
        | inl same ↦
            absurd (omega (
              arith,
              less,
              full,
              ap (λ (i : ℕ). get_or r.done i 0) same,
              ap (λ (i : ℕ). get_or units i 0) same,
            ))
        | inr apart ↦ get_or-set_other r.done k j (get_or r.done k 0 + 1) 0 apart ∙ full
      ] in (
        record {
          done = one_more r.done k;
          stands = moved r.stands (arc_of g k).from (arc_of g k).to k last.before last.item;
          under = step g net units circulates r.done r.stands r.under k onward less last.before last.item last.is;
          below = λ j onward' less'. kept j (r.below j onward' less');
          here = λ j less' onward' from'. kept j (r.here j less' onward' from');
        },
        get_or-set_same r.done k (get_or r.done k 0 + 1) 0 within,
      )

  -- arc m is done
  past_arc : (v m : ℕ) → IsOnward g m → (r : IsReached v m) → get_or units m 0 ≤ get_or r.done m 0 → IsReached v (m + 1)
  past_arc v m onward r full = record {
    done = r.done;
    stands = r.stands;
    under = r.under;
    below = r.below;
    here = λ j less onward' from. elim (cases_eq j m) [
      | inl same ↦
          omega (
            arith,
            full,
            r.under.within m (omega (arith, onward)),
            ap (λ (i : ℕ). get_or r.done i 0) same,
            ap (λ (i : ℕ). get_or units i 0) same,
          )
      | inr apart ↦ r.here j (omega (arith, less, apart)) onward' from
    ];
  }

  -- all units of arc m, of which so many are left at most
  take_arc : (fuel v m : ℕ) → IsOnward g m → (arc_of g m).from ≡ v → (r : IsReached v m)
      → get_or units m 0 ≤ get_or r.done m 0 + fuel → IsReached v (m + 1)
  take_arc zero v m onward from r near = past_arc v m onward r (omega (arith, near))
  take_arc (suc fuel) v m onward from r near =
      elim (cases_lt (get_or r.done m 0) (get_or units m 0)) [
        | inr full ↦ past_arc v m onward r full
        | inl less ↦
            let next = take_unit v m m onward from r less in
            take_arc fuel v m onward from next.0 (omega (arith, next.1, near))
      ]

  -- all units of arcs that leave the node
  take_node : (v m : ℕ) → IsReached v 0 → IsReached v m
  take_node v zero r = r
  take_node v (suc m) r =
      let before = take_node v m r in
      let S : ℕ → Type 0 = IsReached v in
      subst S (let e : m + 1 ≡ suc m = omega arith in e) (elim (cases_lt (m + 1) (length g.arcs)) [
        | inr past ↦ unless before (λ onward from. omega (arith, past, onward))
        | inl onward ↦ elim (cases_eq (arc_of g m).from v) [
          | inl from ↦ take_arc (get_or units m 0) v m onward from before (omega arith)
          | inr apart ↦ unless before (λ onward' from. apart from)
        ]
      ])
    where
      unless : IsReached v m → (IsOnward g m → (arc_of g m).from ≡ v → ⊥) → IsReached v (m + 1)
      unless b not = record {
        done = b.done;
        stands = b.stands;
        under = b.under;
        below = b.below;
        here = λ j less onward from. elim (cases_eq j m) [
          | inl same ↦
              absurd (not (subst (IsOnward g) same onward) (ap (λ (i : ℕ). (arc_of g i).from) (sym same) ∙ from))
          | inr apart ↦ b.here j (omega (arith, less, apart)) onward from
        ];
      }

  -- the next node
  next_node : (v : ℕ) → IsReached v (length g.arcs) → IsReached (v + 1) 0
  next_node v r = record {
    done = r.done;
    stands = r.stands;
    under = r.under;
    below = λ j onward less. elim (cases_eq (arc_of g j).from v) [
      | inl same ↦ r.here j (omega (arith, onward)) onward same
      | inr apart ↦ r.below j onward (omega (arith, less, apart))
    ];
    here = λ j less onward from. absurd (omega arith);
  }

  abbrev pub no_units : List ℕ
  no_units = replicate (length g.arcs) 0

  -- no unit is done but for those on the return arc, and the vehicles stand at the first node
  abbrev pub done_first : List ℕ
  done_first = set no_units end back

  abbrev pub stands_first : List (List Path)
  stands_first = set (replicate g.nodes []) 0 (replicate back [])

  read_first : (u : ℕ) → u < g.nodes → u ≢ 0 → paths_at stands_first u ≡ []
  read_first u inside apart =
      get_or-set_other (replicate g.nodes []) 0 u (replicate back []) [] apart ∙ get_or-replicate g.nodes u [] [] inside

  some_node : 0 < length (replicate {A = List Path} g.nodes [])
  some_node = let two = net.nodes in omega (arith, two, length-replicate {A = List Path} g.nodes [])

  at_first : paths_at stands_first 0 ≡ replicate back []
  at_first = get_or-set_same (replicate g.nodes []) 0 (replicate back []) [] some_node

  last_within : end < length no_units
  last_within = let some = net.some_arc in omega (arith, some, length-replicate {A = ℕ} (length g.arcs) 0)

  none_last : get_or no_units end 0 ≡ 0
  none_last = get_or-replicate (length g.arcs) end 0 0 (let some = net.some_arc in omega (arith, some))

  last_is : end + 1 ≡ length g.arcs
  last_is = let some = net.some_arc in omega (arith, some)

  last_from : (arc_of g end).from + 1 ≡ g.nodes
  last_from = (net.each_arc end (let some = net.some_arc in omega (arith, some))).goes_on.from_last last_is

  last_to : (arc_of g end).to ≡ 0
  last_to = (net.each_arc end (let some = net.some_arc in omega (arith, some))).goes_on.to_first last_is

  -- the units of a node's arcs, where they are those of the return arc alone
  of_last : (js : List ℕ) (t : ℕ) → times end js ≡ t → sum_by (λ j. get_or done_first j 0) js ≡ t * back
  of_last js t count =
      let all = units-set no_units end back js last_within in
      let none = units-none (length g.arcs) js in
      let old = ap (λ (x : ℕ). times end js * x) none_last in
      let new = ap (λ (x : ℕ). x * back) count in
      omega (arith, all, none, old, new)

  end_within : end < length g.arcs
  end_within = let some = net.some_arc in omega (arith, some)

  none_out : (u : ℕ) → u + 1 < g.nodes → units_out g done_first u ≡ 0
  none_out u inner =
      let count = times-first (λ j. eqb (arc_of g j).from u) (length g.arcs) end end_within
      ∙ ap as_one (ne_eqb (arc_of g end).from u (λ e. omega (arith, e, inner, last_from))) in
      omega (arith, of_last (leaving g u) 0 count)

  in_first : units_in g done_first 0 ≡ back
  in_first =
      let count = times-first (λ j. eqb (arc_of g j).to 0) (length g.arcs) end end_within
      ∙ ap as_one (eq-eqb (arc_of g end).to 0 last_to) in
      omega (arith, of_last (reaching g 0) 1 count)

  in_other : (u : ℕ) → u ≢ 0 → units_in g done_first u ≡ 0
  in_other u apart =
      let count = times-first (λ j. eqb (arc_of g j).to u) (length g.arcs) end end_within
      ∙ ap as_one (ne_eqb (arc_of g end).to u (λ e. apart (sym e ∙ last_to))) in
      omega (arith, of_last (reaching g u) 0 count)

  -- what stands at the first node, for a sum over the nodes
  sum_first : (F : List Path → ℕ) → F [] ≡ 0 → sum_by F stands_first ≡ F (replicate back [])
  sum_first F none =
      let both = sum_by-set F (replicate g.nodes []) 0 (replicate back []) [] some_node in
      let old = ap F (get_or-replicate g.nodes 0 [] [] (let two = net.nodes in omega (arith, two))) in
      let all = sum_by-replicate F g.nodes [] in
      let nothing = ap (λ (x : ℕ). g.nodes * x) none in
      omega (arith, both, old, all, nothing, none)

  -- the vehicles of a circulation at the first node are under way
  pub under_first : AreUnderWay g units done_first stands_first
  under_first = record {
    each_node = length-set (replicate g.nodes []) 0 (replicate back []) ∙ length-replicate g.nodes [];
    each_arc = length-set no_units end back ∙ length-replicate (length g.arcs) 0;
    within = λ k inside. elim (cases_eq k end) [
      | inl same ↦
          let here = ap (λ (i : ℕ). get_or done_first i 0) same ∙ get_or-set_same no_units end back 0 last_within in
          let there = ap (λ (i : ℕ). get_or units i 0) same in
          omega (arith, here, there)
      | inr apart ↦
          let here = get_or-set_other no_units end k back 0 apart ∙ get_or-replicate (length g.arcs) k 0 0 inside in
          omega (arith, here)
    ];
    returned = get_or-set_same no_units end back 0 last_within;
    paths = λ u inside. elim (cases_eq u 0) [
      | inl same ↦
          let P : ℕ → Type 0 = λ x. All (λ path. Leads g (IsOnward g) 0 path x) (paths_at stands_first x) in
          let Q : List Path → Type 0 = λ paths. All (λ path. Leads g (IsOnward g) 0 path 0) paths in
          subst P (sym same)
          (subst Q (sym at_first) (All-replicate (λ path. Leads g (IsOnward g) 0 path 0) back [] refl))
      | inr apart ↦
          let Q : List Path → Type 0 = λ paths. All (λ path. Leads g (IsOnward g) 0 path u) paths in
          subst Q (sym (read_first u inside apart)) (All-nil (λ path. Leads g (IsOnward g) 0 path u))
    ];
    standing = λ u inner. elim (cases_eq u 0) [
      | inl same ↦
          let count = ap (λ (x : ℕ). length (paths_at stands_first x)) same ∙ ap length at_first
          ∙ length-replicate {A = Path} back [] in
          let come = ap (λ (x : ℕ). units_in g done_first x) same ∙ in_first in
          omega (arith, count, come, none_out u inner)
      | inr apart ↦
          let count = ap length (read_first u (omega (arith, inner)) apart) in
          omega (arith, count, in_other u apart, none_out u inner)
    ];
    vehicles = sum_first length refl ∙ length-replicate back [];
    weights = λ f.
        let stands = sum_first (weight_of f) refl in
        let none = sum_by-replicate (λ (path : Path). sum_by f path) back [] in
        let flow = weight-set f no_units end back last_within in
        let zeros = weight-none f (length g.arcs) in
        let old = ap (λ (x : ℕ). f end * x) none_last in
        omega (arith, stands, none, flow, zeros, old);
  }

  -- all nodes below v
  reach : (v : ℕ) → IsReached v 0
  reach zero = record {
    done = done_first;
    stands = stands_first;
    under = under_first;
    below = λ j onward less. absurd (omega (arith, less));
    here = λ j less onward from. absurd (omega (arith, less));
  }
  reach (suc v) =
      let S : ℕ → Type 0 = λ u. IsReached u 0 in
      subst S (let e : v + 1 ≡ suc v = omega arith in e) (next_node v (take_node v (length g.arcs) (reach v)))

  module _ (done : List ℕ) (stands : List (List Path)) (under : AreUnderWay g units done stands)
      (below : IsDoneBelow g units (g.nodes - 1) done) where
    -- all is done
    all_done : done ≡ units
    all_done =
        ext_get_or 0 done units (under.each_arc ∙ sym circulates.each_arc) (λ j within.
        let inside : j < length g.arcs = let same = under.each_arc in omega (arith, within, same) in
        elim (cases_lt (j + 1) (length g.arcs)) [
          | inl onward ↦
              let right = net.each_arc j inside in
              below j onward (omega (arith, right.goes_on.forward onward, right.to))
          | inr not ↦
              let same : j ≡ end = omega (arith, inside, not) in
              ap (λ (i : ℕ). get_or done i 0) same ∙ under.returned ∙ ap (λ (i : ℕ). get_or units i 0) (sym same)
        ])

    -- nobody stands before the last node
    gone : (u : ℕ) → u + 1 < g.nodes → paths_at stands u ≡ []
    gone u inner =
        let stop_nodes = under.standing u inner in
        let out = ap (λ (d : List ℕ). units_out g d u) all_done in
        let come = ap (λ (d : List ℕ). units_in g d u) all_done in
        let kept = circulates.conserved u (omega (arith, inner)) in
        nil_from_length (paths_at stands u) (omega (arith, stop_nodes, out, come, kept))

    last_node_within : g.nodes - 1 < length stands
    last_node_within = let two = net.nodes in let same = under.each_node in omega (arith, two, same)

    all_arrived : (F : List Path → ℕ) → F [] ≡ 0 → sum_by F stands ≡ F (paths_at stands (g.nodes - 1))
    all_arrived F none =
        sum_at F stands (g.nodes - 1) none last_node_within
        (λ j inside apart. gone j (let same = under.each_node in omega (arith, inside, apart, same)))

    -- the vehicles that stand at the last node have come there by the paths of the units
    pub arrived : ArePathsOf g units (paths_at stands (g.nodes - 1))
    arrived = record {
      whole = under.paths (g.nodes - 1) (let two = net.nodes in omega (arith, two));
      vehicles = let all = all_arrived length refl in let count = under.vehicles in omega (arith, all, count);
      weights = λ f.
          let all = all_arrived (weight_of f) refl in
          let before = under.weights f in
          let same = ap (weight_of_flow f) all_done in
          omega (arith, all, before, same);
    }

  -- every circulation has paths
  pub paths_of_circulation : (paths : List Path) × ArePathsOf g units paths
  paths_of_circulation =
      let r = reach (g.nodes - 1) in
      (paths_at r.stands (g.nodes - 1), arrived r.done r.stands r.under r.below)
