-- A tree of paths stays one where a step shortens the path to a node.
use Rattle.std.proofs.Common.{◌≡◌, ◌≢◌, ℕ, ◌+◌, ◌*◌, ◌<◌, ◌≤◌, ◌∙◌, List, [], ◌∷◌, ◌++◌, refl, sym, ap, subst, arith, inl, inr, Option, Some, None, ℤ, pos, neg_ℤ, ◌+ℤ◌, ◌≤ℤ◌, ◌<ℤ◌, nat_abs, length-set, SFits, w64}
use Rattle.std.proofs.lemmas.Bool.{cases_eq}
use Rattle.std.proofs.lemmas.Int.{ints}
use Rattle.std.proofs.lemmas.List.{get_or-set_same, get_or-set_other}
use Rattle.std.proofs.lemmas.List.Sums.{sum_by-set}
use Rattle.vs_path.specs.declared.residual.TheConstants.{MAX_PATH_ARC_COST}
use Rattle.vs_queue.specs.declared.step.Step.{Step}
use Rattle.vs_path.specs.Residual.{ResidualNet, IsOpen, IsWithin, Leads, cost_of, from_of, to_of}
use Rattle.vs_path.specs.LeastPaths.{LeastPaths, FollowsBack, distance_at, last_step}
use Rattle.vs_path.specs.PathTree.{CanCorrect, IsBranch, IsNoShorter, IsPathTree, MOST, count_of, count_reached, shortened, weight, weight_of}
use Rattle.vs_path.proofs.found.LeastCosts.{follows-leads}
use Rattle.vs_path.proofs.labelling.Lowering.{not-less}
use Rattle.vs_path.proofs.correcting.Chains.{Avoids, bounded-below, count-≤, cut-at, descends, follows-on, follows-set, cost-in}

module _ (r : ResidualNet) (u : ℕ) (p : LeastPaths) (tree : IsPathTree r u p) (can : CanCorrect r) (s : Step)
    (is_open : IsOpen r s) (c label : ℤ) (from : distance_at p (from_of r s) ≡ Some c)
    (sum : label ≡ c +ℤ cost_of r s)
    (less : (d : ℤ) → distance_at p (to_of r s) ≡ Some d → label <ℤ d) (within : to_of r s < r.graph.nodes) where
  abbrev x : ℕ
  x = from_of r s

  abbrev v : ℕ
  v = to_of r s

  abbrev after : LeastPaths
  after = shortened p v label s

  -- the path to where the step begins
  way : (ss : List Step) × FollowsBack r p.steps u ss x
  way = tree.back x c from

  v≢u : v ≢ u
  v≢u same =
      let root : distance_at p v ≡ Some (pos 0) = ap (distance_at p) same ∙ tree.root in
      let below = less (pos 0) root in
      let up = descends r u p tree way.0 u x (pos 0) c way.1 tree.root from in
      let round : Leads r u (s ∷ way.0) u = (is_open, same, follows-leads r p.steps u x way.0 way.1) in
      let cost = can.no_negative u (s ∷ way.0) round in
      omega (arith, ints, below, up, cost, sum)

  v≢x : x ≢ v
  v≢x same =
      let here : distance_at p v ≡ Some c = ap (distance_at p) (sym same) ∙ from in
      let below = less c here in
      let round : Leads r v (s ∷ []) v = (is_open, refl, sym same) in
      let cost = can.no_negative v (s ∷ []) round in
      omega (arith, ints, below, cost, sum)

  -- it doesn't come by where the step ends
  way-avoids : Avoids r v way.0
  way-avoids = elim (cut-at r p.steps u v x way.0 way.1) [
    | inl avoids ↦ avoids
    | inr at ↦
        let branch = tree.branch v at.step at.step_is in
        let below = less branch.to_cost branch.to_is in
        let up = descends r u p tree at.behind v x branch.to_cost c at.follows branch.to_is from in
        let round : Leads r v (s ∷ at.behind) v = (is_open, refl, follows-leads r p.steps v x at.behind at.follows) in
        let cost = can.no_negative v (s ∷ at.behind) round in
        absurd (omega (arith, ints, below, up, cost, sum))
  ]

  distance-here : distance_at after v ≡ Some label
  distance-here = get_or-set_same p.distances v (Some label) None (omega (arith, tree.size.distances))

  distance-other : (w : ℕ) → w ≢ v → distance_at after w ≡ distance_at p w
  distance-other w ne = get_or-set_other p.distances v w (Some label) None (λ e. ne e)

  step-here : last_step after v ≡ Some s
  step-here = get_or-set_same p.steps v (Some s) None (omega (arith, tree.size.steps))

  step-other : (w : ℕ) → w ≢ v → last_step after w ≡ last_step p w
  step-other w ne = get_or-set_other p.steps v w (Some s) None (λ e. ne e)

  -- the new path to where the step ends, and to any other node
  new-way : FollowsBack r after.steps u (s ∷ way.0) v
  new-way = (step-here, is_open, refl, follows-set r p.steps u x v (Some s) way.0 way.1 way-avoids)

  back-other : (w : ℕ) (ss : List Step) → FollowsBack r p.steps u ss w
      → (ts : List Step) × FollowsBack r after.steps u ts w
  back-other w ss follows = elim (cut-at r p.steps u v w ss follows) [
    | inl avoids ↦ (ss, follows-set r p.steps u w v (Some s) ss follows avoids)
    | inr at ↦
        let behind : FollowsBack r after.steps v at.behind w =
        follows-set r p.steps v w v (Some s) at.behind at.follows at.avoids in
        (at.behind ++ s ∷ way.0, follows-on r after.steps u v w at.behind (s ∷ way.0) behind new-way)
  ]

  back : (w : ℕ) (d : ℤ) → distance_at after w ≡ Some d → (ts : List Step) × FollowsBack r after.steps u ts w
  back w d is = elim (cases_eq w v) [
    | inl same ↦ (s ∷ way.0, subst (λ (y : ℕ). FollowsBack r after.steps u (s ∷ way.0) y) (sym same) new-way)
    | inr ne ↦ let old = tree.back w d (sym (distance-other w ne) ∙ is) in back-other w old.0 old.1
  ]

  new-branch : IsBranch r after v s
  new-branch = record {
    is_open = is_open;
    to = refl;
    from_cost = c;
    from_is = distance-other x v≢x ∙ from;
    to_cost = label;
    to_is = distance-here;
    sum = omega (arith, ints, sum);
  }

  -- a branch that was there is still one: where it begins the cost only fell
  old-branch : (w : ℕ) (t : Step) → w ≢ v → IsBranch r p w t → IsBranch r after w t
  old-branch w t ne b = elim (cases_eq (from_of r t) v) [
    | inl same ↦ record {
      is_open = b.is_open;
      to = b.to;
      from_cost = label;
      from_is = ap (distance_at after) same ∙ distance-here;
      to_cost = b.to_cost;
      to_is = distance-other w ne ∙ b.to_is;
      sum =
          let below = less b.from_cost (ap (distance_at p) (sym same) ∙ b.from_is) in
          let old = b.sum in
          omega (arith, ints, below, old);
    }
    | inr apart ↦ record {
      is_open = b.is_open;
      to = b.to;
      from_cost = b.from_cost;
      from_is = distance-other (from_of r t) apart ∙ b.from_is;
      to_cost = b.to_cost;
      to_is = distance-other w ne ∙ b.to_is;
      sum = b.sum;
    }
  ]

  branch : (w : ℕ) (t : Step) → last_step after w ≡ Some t → IsBranch r after w t
  branch w t is = elim (cases_eq w v) [
    | inl same ↦
        let e : Some s ≡ Some t = sym step-here ∙ ap (last_step after) (sym same) ∙ is in
        let one : s ≡ t = cc in
        let P : ℕ → Type 0 = λ y. IsBranch r after y t in
        let Q : Step → Type 0 = λ k. IsBranch r after v k in
        subst P (sym same) (subst Q one new-branch)
    | inr ne ↦ old-branch w t ne (tree.branch w t (sym (step-other w ne) ∙ is))
  ]

  -- no fewer nodes are reached, and where the step ends at a new one, one more
  counts : count_reached after + count_of (distance_at p v) ≡ count_reached p + 1
  counts = sum_by-set count_of p.distances v (Some label) None (omega (arith, tree.size.distances))

  count-old : (o : Option ℤ) → distance_at p v ≡ o → label ≤ℤ pos (count_reached after * nat_abs MAX_PATH_ARC_COST)
  count-old None e =
      let none = ap count_of e in
      let cost = cost-in r can s in
      let few = tree.few x c from in
      omega (arith, ints, counts, none, cost.high, few, sum)
  count-old (Some d) e =
      let one = ap count_of e in
      let below = less d e in
      let few = tree.few v d e in
      omega (arith, ints, counts, one, below, few)

  count-rises : (o : Option ℤ) → distance_at p v ≡ o → count_reached p ≤ count_reached after
  count-rises None e = let none = ap count_of e in omega (arith, counts, none)
  count-rises (Some d) e = let one = ap count_of e in omega (arith, counts, one)

  pub label-few : label ≤ℤ pos (count_reached after * nat_abs MAX_PATH_ARC_COST)
  label-few = count-old (distance_at p v) refl

  few : (w : ℕ) (d : ℤ) → distance_at after w ≡ Some d → d ≤ℤ pos (count_reached after * nat_abs MAX_PATH_ARC_COST)
  few w d is = elim (cases_eq w v) [
    | inl same ↦
        let e : Some label ≡ Some d = sym distance-here ∙ ap (distance_at after) (sym same) ∙ is in
        let one : label ≡ d = cc in
        let most = label-few in
        omega (arith, ints, one, most)
    | inr ne ↦
        let most = tree.few w d (sym (distance-other w ne) ∙ is) in
        let more = count-rises (distance_at p v) refl in
        omega (arith, ints, most, more)
  ]

  pub shortened-tree : IsPathTree r u after
  shortened-tree = record {
    size = record {
      distances = length-set p.distances v (Some label) ∙ tree.size.distances;
      steps = length-set p.steps v (Some s) ∙ tree.size.steps;
    };
    root = distance-other u (λ same. v≢u (sym same)) ∙ tree.root;
    no_step = step-other u (λ same. v≢u (sym same)) ∙ tree.no_step;
    branch = branch;
    back = back;
    few = few;
  }

  weights : weight after + weight_of (distance_at p v) ≡ weight p + weight_of (Some label)
  weights = sum_by-set weight_of p.distances v (Some label) None (omega (arith, tree.size.distances))

  -- less can fall
  pub lighter : weight after < weight p
  lighter = go (distance_at p v) refl
    where
      here : neg_ℤ MOST ≤ℤ label
      here = bounded-below r u after shortened-tree can v label distance-here

      top : count_reached after ≤ r.graph.nodes
      top = count-≤ r u after shortened-tree

      go : (o : Option ℤ) → distance_at p v ≡ o → weight after < weight p
      go None e =
          let none = ap weight_of e in
          let low = here in
          let high = label-few in
          let nodes = can.nodes in
          omega (arith, ints, weights, none, low, high, top, nodes)
      go (Some d) e =
          let some = ap weight_of e in
          let low = here in
          let below = less d e in
          omega (arith, ints, weights, some, low, below)

-- what a node costs along a step fits 64 bits
pub sum-fits : (r : ResidualNet) (u : ℕ) (p : LeastPaths) → IsPathTree r u p → CanCorrect r → (x : ℕ) (c cost : ℤ)
    → distance_at p x ≡ Some c → IsWithin MAX_PATH_ARC_COST cost → SFits w64 (c +ℤ cost)
sum-fits r u p tree can x c cost is within =
    let low = bounded-below r u p tree can x c is in
    let high = tree.few x c is in
    let count = count-≤ r u p tree in
    let nodes = can.nodes in
    omega (arith, ints, low, high, count, nodes, within.low, within.high)

-- where the node that a step reaches costs no more, the step is no shorter
pub no-shorter : (r : ResidualNet) (p : LeastPaths) (s : Step) (c label : ℤ) (known : Option ℤ)
    → distance_at p (from_of r s) ≡ Some c → label ≡ c +ℤ cost_of r s → distance_at p (to_of r s) ≡ known
    → (((d : ℤ) → known ≡ Some d → label <ℤ d) → ⊥) → IsNoShorter r p s
no-shorter r p s c label known from sum to worse is_open b is =
    let at = not-less known label worse in
    let less = at.2 in
    let e : Some c ≡ Some b = sym from ∙ is in
    let same : c ≡ b = cc in
    (at.0, to ∙ at.1, omega (arith, ints, sum, less, same))
