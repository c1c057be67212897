-- Where no step is shorter any more, the paths of the tree are least ones.
use Rattle.std.proofs.Common.{◌≡◌, ◌⊎◌, ℕ, ◌∙◌, List, [], ◌∷◌, refl, sym, ap, subst, arith, inl, inr, Bool, true, false, ◌||◌, Option, Some, None, ℤ, pos, ◌≤ℤ◌}
use Rattle.std.proofs.lemmas.Int.{ints}
use Rattle.vs_queue.specs.declared.step.Step.{Step}
use Rattle.vs_path.specs.Residual.{ResidualNet, Leads, cost_along, from_of}
use Rattle.vs_path.specs.LeastPaths.{LeastPaths, AreLeastPaths, ComesBack, FollowsBack, IsLeastCost, distance_at, last_step}
use Rattle.vs_path.specs.PathTree.{IsCorrected, IsNoShorter, IsPathTree, weight}
use Rattle.vs_path.proofs.found.LeastCosts.{follows-leads}
use Rattle.vs_path.proofs.correcting.Chains.{descends}

-- two corrections after one another
pub corrected-both : (r : ResidualNet) (a b c : LeastPaths) (Which Other : Step → Type 0) (one two : Bool)
    → IsCorrected r a b Which one → IsCorrected r b c Other two
    → IsCorrected r a c (λ s. Which s ⊎ Other s) (one || two)
corrected-both r a b c Which Other true true first then = omega arith
corrected-both r a b c Which Other true false first then =
    let same = ap weight then.0 in omega arith
corrected-both r a b c Which Other false true first then =
    let same = ap weight first.0 in omega arith
corrected-both r a b c Which Other false false first then = (
  then.0 ∙ first.0,
  λ s which. elim which [
    | inl w ↦ subst (λ (p : LeastPaths). IsNoShorter r p s) (sym then.0) (first.1 s w)
    | inr o ↦ then.1 s o
  ],
)

-- fewer steps are looked at
pub corrected-less : (r : ResidualNet) (a b : LeastPaths) (Which Other : Step → Type 0) (fell : Bool)
    → ((s : Step) → Other s → Which s) → IsCorrected r a b Which fell → IsCorrected r a b Other fell
corrected-less r a b Which Other true less is = is
corrected-less r a b Which Other false less is = (is.0, λ s o. is.1 s (less s o))

module _ (r : ResidualNet) (u : ℕ) (p : LeastPaths) (tree : IsPathTree r u p)
    (done : (s : Step) → IsNoShorter r p s) where
  -- what a path leads to costs no more than the path
  no-more : (ss : List Step) (v : ℕ) → Leads r u ss v
      → (d : ℤ) × (distance_at p v ≡ Some d) × (d ≤ℤ cost_along r ss)
  no-more [] v leads = (pos 0, ap (distance_at p) (sym leads) ∙ tree.root, omega (arith, ints))
  no-more (s ∷ ss) v leads =
      let before = no-more ss (from_of r s) leads.2 in
      let at = done s leads.0 before.0 before.1 in
      let less = before.2 in
      let more = at.2 in
      (at.0, ap (distance_at p) (sym leads.1) ∙ at.1, omega (arith, ints, less, more))

  comes-back : (v : ℕ) (c : ℤ) → distance_at p v ≡ Some c
      → (ss : List Step) × FollowsBack r p.steps u ss v × (cost_along r ss ≡ c)
  comes-back v c is =
      let back = tree.back v c is in
      let up = descends r u p tree back.0 u v (pos 0) c back.1 tree.root is in
      let least = no-more back.0 v (follows-leads r p.steps u v back.0 back.1) in
      let e : Some least.0 ≡ Some c = sym least.1 ∙ is in
      let same : least.0 ≡ c = cc in
      let down = least.2 in
      (back.0, back.1, omega (arith, ints, up, down, same))

  least : (v : ℕ) (o : Option ℤ) → distance_at p v ≡ o → IsLeastCost r u v o
  least v None e = λ ss leads.
      let at = no-more ss v leads in
      let wrong : None ≡ Some at.0 = sym e ∙ at.1 in cc
  least v (Some c) e =
      let back = comes-back v c e in (
        (back.0, follows-leads r p.steps u v back.0 back.1, back.2),
        λ ss leads.
            let at = no-more ss v leads in
            let one : Some at.0 ≡ Some c = sym at.1 ∙ e in
            let same : at.0 ≡ c = cc in
            let less = at.2 in
            omega (arith, ints, same, less),
      )

  back : (v : ℕ) (o : Option ℤ) → distance_at p v ≡ o → ComesBack r p.steps u v o
  back v None e = tt
  back v (Some c) e = comes-back v c e

  no-step : (v : ℕ) → last_step p v ≡ None → (o : Option ℤ) → distance_at p v ≡ o
      → (v ≡ u) ⊎ (distance_at p v ≡ None)
  no-step v none None e = inr e
  no-step v none (Some c) e = first (comes-back v c e).0 (comes-back v c e).1
    where
      first : (ss : List Step) → FollowsBack r p.steps u ss v → (v ≡ u) ⊎ (distance_at p v ≡ None)
      first [] follows = inl (sym follows)
      first (s ∷ ss) follows = let wrong : None ≡ Some s = sym none ∙ follows.0 in absurd (cc)

  no-step-back : (v : ℕ) → (v ≡ u) ⊎ (distance_at p v ≡ None) → (o : Option Step) → last_step p v ≡ o
      → last_step p v ≡ None
  no-step-back v at None e = e
  no-step-back v (inl same) (Some s) e =
      let wrong : None ≡ Some s = sym tree.no_step ∙ ap (last_step p) (sym same) ∙ e in absurd (cc)
  no-step-back v (inr none) (Some s) e =
      let b = tree.branch v s e in
      let wrong : None ≡ Some b.to_cost = sym none ∙ b.to_is in absurd (cc)

  pub tree-least : AreLeastPaths r u p
  tree-least = record {
    size = tree.size;
    least = λ v within. least v (distance_at p v) refl;
    back = λ v within. back v (distance_at p v) refl;
    no_step = λ v within. (
      λ none. no-step v none (distance_at p v) refl,
      λ at. no-step-back v at (last_step p v) refl,
    );
  }
