-- Steps that are followed back in a tree of paths.
use Rattle.std.proofs.Common.{◌≡◌, ◌≢◌, ◌⊎◌, ℕ, suc, ◌+◌, ◌*◌, ◌<◌, ◌≤◌, ◌∙◌, List, [], ◌∷◌, ◌++◌, length, set, get_or, refl, sym, ap, subst, arith, inl, inr, true, false, Option, Some, None, ℤ, pos, neg_ℤ, ◌+ℤ◌, ◌≤ℤ◌, nat_abs, sum_by}
use Rattle.std.proofs.Math.Dec.{eqb}
use Rattle.std.proofs.lemmas.Bool.{cases_Bool, cases_eq, eqb-true}
use Rattle.std.proofs.lemmas.Int.{ints}
use Rattle.std.proofs.lemmas.List.{get_or-set_other}
use Rattle.std.proofs.lemmas.List.Sums.{sum_by-cons}
use Rattle.std.proofs.lemmas.Map.Steps.{length-le_from_distinct_below}
use Rattle.std.specs.List.{AllByRecursion, IsDistinct, list_any}
use Rattle.vs_path.specs.declared.residual.TheConstants.{MAX_PATH_ARC_COST}
use Rattle.vs_queue.specs.declared.step.Step.{Step}
use Rattle.vs_queue.specs.declared.step.Step.TheVariants.{Forward, Back}
use Rattle.vs_path.specs.Residual.{ResidualNet, IsWithin, cost_along, cost_of, from_of, to_of}
use Rattle.vs_path.specs.LeastPaths.{LeastPaths, FollowsBack, distance_at, last_step}
use Rattle.vs_path.proofs.labelling.Lowering.{some_within}
use Rattle.vs_path.specs.PathTree.{CanCorrect, IsPathTree, MOST, count_of, count_reached}

-- none of the steps reaches the node
abbrev pub Avoids : ResidualNet → ℕ → List Step → Type 0
Avoids r v [] = Unit {0}
Avoids r v (s ∷ ss) = (to_of r s ≢ v) × Avoids r v ss

-- steps followed back, and behind them others
pub follows-on : (r : ResidualNet) (steps : List (Option Step)) (y x w : ℕ) (ss ts : List Step)
    → FollowsBack r steps x ss w
    → FollowsBack r steps y ts x → FollowsBack r steps y (ss ++ ts) w
follows-on r steps y x w [] ts follows before = subst (λ (v : ℕ). FollowsBack r steps y ts v) follows before
follows-on r steps y x w (s ∷ ss) ts follows before =
    (follows.0, follows.1, follows.2, follows-on r steps y x (from_of r s) ss ts follows.3 before)

-- they are followed back as before where the last step to a node that they avoid is another one
pub follows-set : (r : ResidualNet) (steps : List (Option Step)) (x w v : ℕ) (o : Option Step) (ss : List Step)
    → FollowsBack r steps x ss w → Avoids r v ss → FollowsBack r (set steps v o) x ss w
follows-set r steps x w v o [] follows avoids = follows
follows-set r steps x w v o (s ∷ ss) follows avoids =
    let ne : w ≢ v = λ same. avoids.0 (follows.2 ∙ same) in (
      get_or-set_other steps v w o None (λ e. ne e) ∙ follows.0,
      follows.1,
      follows.2,
      follows-set r steps x (from_of r s) v o ss follows.3 avoids.1,
    )

-- steps followed back avoid a node, or are cut there
pub record IsCutAt (r : ResidualNet) (steps : List (Option Step)) (v w : ℕ) : Type 0 where
  pub behind : List Step
  pub follows : FollowsBack r steps v behind w
  pub avoids : Avoids r v behind
  pub step : Step
  pub step_is : get_or steps v None ≡ Some step

pub cut-at : (r : ResidualNet) (steps : List (Option Step)) (u v w : ℕ) (ss : List Step) → FollowsBack r steps u ss w
    → Avoids r v ss ⊎ IsCutAt r steps v w
cut-at r steps u v w [] follows = inl tt
cut-at r steps u v w (s ∷ ss) follows =
    elim (cases_eq w v) [
      | inl same ↦ inr (record {
        behind = [];
        follows = sym same;
        avoids = tt;
        step = s;
        step_is = ap (λ (x : ℕ). get_or steps x None) (sym same) ∙ follows.0;
      })
      | inr ne ↦
          let apart : to_of r s ≢ v = λ same. ne (sym follows.2 ∙ same) in
          elim (cut-at r steps u v (from_of r s) ss follows.3) [
            | inl avoids ↦ inl (apart, avoids)
            | inr at ↦ inr (record {
              behind = s ∷ at.behind;
              follows = (follows.0, follows.1, follows.2, at.follows);
              avoids = (apart, at.avoids);
              step = at.step;
              step_is = at.step_is;
            })
          ]
    ]

-- what a step costs, and steps, either way
pub cost-in : (r : ResidualNet) → CanCorrect r → (s : Step) → IsWithin MAX_PATH_ARC_COST (cost_of r s)
cost-in r can (Forward k) = can.cost k
cost-in r can (Back k) =
    let c =
    can.cost k in record { low = omega (arith, ints, c.low, c.high); high = omega (arith, ints, c.low, c.high) }

costs-in : (r : ResidualNet) → CanCorrect r → (ss : List Step)
    → IsWithin (pos (length ss * nat_abs MAX_PATH_ARC_COST)) (cost_along r ss)
costs-in r can [] = record { low = omega (arith, ints); high = omega (arith, ints) }
costs-in r can (s ∷ ss) =
    let c = cost-in r can s in
    let before = costs-in r can ss in
    record {
      low = omega (arith, ints, c.low, c.high, before.low, before.high);
      high = omega (arith, ints, c.low, c.high, before.low, before.high);
    }

count-length : (cs : List (Option ℤ)) → sum_by count_of cs ≤ length cs
count-length [] = omega arith
count-length (None ∷ cs) = omega (arith, count-length cs, sum_by-cons count_of None cs)
count-length (Some c ∷ cs) = omega (arith, count-length cs, sum_by-cons count_of (Some c) cs)

-- where no number is this one
none-of : (w : ℕ) (xs : List ℕ) → (list_any (eqb w) xs ≡ true → ⊥) → AllByRecursion (λ y. eqb w y ≡ false) xs
none-of w [] none = tt
none-of w (x ∷ xs) none = elim (cases_Bool (eqb w x)) [
  | inl hit ↦ absurd (none (rw hit refl))
  | inr miss ↦ (miss, none-of w xs (λ has. none (rw miss has)))
]

module _ (r : ResidualNet) (u : ℕ) (p : LeastPaths) (tree : IsPathTree r u p) where
  -- a node has no less than steps followed back from it cost, and what the node has from where they lead
  pub descends : (ss : List Step) (x w : ℕ) (c d : ℤ) → FollowsBack r p.steps x ss w → distance_at p x ≡ Some c
      → distance_at p w ≡ Some d → (c +ℤ cost_along r ss) ≤ℤ d
  descends [] x w c d follows from to =
      let e : Some c ≡ Some d = sym from ∙ ap (distance_at p) follows ∙ to in
      let same : c ≡ d = cc in
      omega (arith, ints, same)
  descends (s ∷ ss) x w c d follows from to =
      let branch = tree.branch w s follows.0 in
      let before = descends ss x (from_of r s) c branch.from_cost follows.3 from branch.from_is in
      let e : Some branch.to_cost ≡ Some d = sym branch.to_is ∙ to in
      let same : branch.to_cost ≡ d = cc in
      let sum = branch.sum in
      omega (arith, ints, before, same, sum)

  -- as many steps each time
  unique : (ss ts : List Step) (w : ℕ) → FollowsBack r p.steps u ss w → FollowsBack r p.steps u ts w
      → length ss ≡ length ts
  unique [] [] w one other = refl
  unique [] (t ∷ ts) w one other =
      let e : None ≡ Some t = sym tree.no_step ∙ ap (last_step p) one ∙ other.0 in absurd (cc)
  unique (s ∷ ss) [] w one other =
      let e : None ≡ Some s = sym tree.no_step ∙ ap (last_step p) other ∙ one.0 in absurd (cc)
  unique (s ∷ ss) (t ∷ ts) w one other =
      let e : Some s ≡ Some t = sym one.0 ∙ other.0 in
      let same : s ≡ t = cc in
      let rest : FollowsBack r p.steps u ts (from_of r s) =
      subst (λ (k : Step). FollowsBack r p.steps u ts (from_of r k)) (sym same) other.3 in
      ap suc (unique ss ts (from_of r s) one.3 rest)

  -- the nodes at which one comes by
  abbrev nodes_along : List Step → ℕ → List ℕ
  nodes_along [] w = w ∷ []
  nodes_along (s ∷ ss) w = w ∷ nodes_along ss (from_of r s)

  nodes-length : (ss : List Step) (w : ℕ) → length (nodes_along ss w) ≡ length ss + 1
  nodes-length [] w = refl
  nodes-length (s ∷ ss) w = omega (arith, nodes-length ss (from_of r s))

  -- a node at which one comes by is followed back from there on
  at-node : (ss : List Step) (w v : ℕ) → FollowsBack r p.steps u ss w → list_any (eqb v) (nodes_along ss w) ≡ true
      → (ts : List Step) × FollowsBack r p.steps u ts v × (length ts ≤ length ss)
  at-node [] w v follows has =
      elim (cases_Bool (eqb v w)) [
        | inl hit ↦ let same : v ≡ w = eqb-true v w hit in
            ([], subst (λ (x : ℕ). u ≡ x) (sym same) follows, omega arith)
        | inr miss ↦ let e : false ≡ true = rw miss at has in absurd (cc)
      ]
  at-node (s ∷ ss) w v follows has =
      elim (cases_Bool (eqb v w)) [
        | inl hit ↦
            let same : v ≡ w = eqb-true v w hit in
            (s ∷ ss, subst (λ (x : ℕ). FollowsBack r p.steps u (s ∷ ss) x) (sym same) follows, omega arith)
        | inr miss ↦
            let rest = at-node ss (from_of r s) v follows.3 (rw miss at has) in
            (rest.0, rest.1, let less = rest.2 in omega arith)
      ]

  -- and no node twice
  nodes-apart : (ss : List Step) (w : ℕ) → FollowsBack r p.steps u ss w → IsDistinct eqb (nodes_along ss w)
  unfolding IsDistinct
  nodes-apart [] w follows = (tt, tt)
  nodes-apart (s ∷ ss) w follows = (
    none-of w (nodes_along ss (from_of r s))
        (λ has.
        let at = at-node ss (from_of r s) w follows.3 has in
        let same = unique at.0 (s ∷ ss) w at.1 follows in
        let less = at.2 in
        omega (arith, same, less)),
    nodes-apart ss (from_of r s) follows.3,
  )

  -- each of them is a node of the net
  follows-< : (ss : List Step) (w : ℕ) → FollowsBack r p.steps u ss w → w < r.graph.nodes
  follows-< [] w follows =
      let root : distance_at p w ≡ Some (pos 0) = ap (distance_at p) (sym follows) ∙ tree.root in
      omega (arith, some_within p.distances w (pos 0) root, tree.size.distances)
  follows-< (s ∷ ss) w follows = omega (arith, some_within p.steps w s follows.0, tree.size.steps)

  -- so there are fewer steps than nodes
  few-steps : (ss : List Step) (w : ℕ) → FollowsBack r p.steps u ss w → length ss < r.graph.nodes
  few-steps ss w follows =
      let all =
      length-le_from_distinct_below (nodes_along ss w) r.graph.nodes (nodes-apart ss w follows)
      (λ q has. let at = at-node ss w q follows has in follows-< at.0 q at.1) in
      omega (arith, all, nodes-length ss w)

  -- no path costs less than it can
  pub bounded-below : CanCorrect r → (w : ℕ) (c : ℤ) → distance_at p w ≡ Some c → neg_ℤ MOST ≤ℤ c
  bounded-below can w c is =
      let back = tree.back w c is in
      let up = descends back.0 u w (pos 0) c back.1 tree.root is in
      let costs = costs-in r can back.0 in
      let few = few-steps back.0 w back.1 in
      let nodes = can.nodes in
      omega (arith, ints, up, costs.low, few, nodes)

  pub count-≤ : count_reached p ≤ r.graph.nodes
  count-≤ = omega (arith, count-length p.distances, tree.size.distances)
