-- The first of the least worths, and the least of them and of a cost, one leaf at a time.
use Rattle.std.proofs.Common.{◌≡◌, ◌⊎◌, inl, inr, ℕ, ◌+◌, ◌<◌, List, [], ◌∷◌, ◌++◌, length, get_or, refl, sym, ap, ◌∙◌, subst, arith, Option, ℤ}
use Rattle.std.specs.Prelude.{Contains}
use Rattle.std.specs.List.{All}
use Rattle.std.proofs.lemmas.Bool.{cases_eq}
use Rattle.std.proofs.lemmas.List.{get_or-map, length-map}
use Rattle.std.proofs.lemmas.List.Elements.{All-nil, All-push, All-weaker, Contains-append_left, Contains-push}
use Rattle.std.proofs.lemmas.Option.{get_or_from_slice_get, slice_get-get_or, slice_get_within}
use Rattle.vs_prices.specs.Bounds.{IsBelow, IsNoLess}
use Rattle.vs_prices.specs.declared.bound.Bound.{Bound}
use Rattle.vs_prices.specs.declared.bound.Bound.TheVariants.{NoPlan}
use Rattle.vs_prices.proofs.CallerLemmas.{else_no_less, no_less-refl, no_less-trans}
use Rattle.vs_tree.specs.Report.{bound_of}
use Rattle.vs_resume.specs.declared.cases.Case.{Case}
use Rattle.vs_resume.specs.Order.{IsFirstLeast, IsLeastWith, worth_at, worths_in}
use Rattle.vs_resume.specs.Turns.{IsNextIn}
use Rattle.vs_resume.proofs.worths.BoundOrder.{not_below}

module _ (worths : List Bound) where
  pub first_alone : IsFirstLeast worths 1 0
  first_alone = record {
    within = omega arith;
    least = λ j low. let is : 0 ≡ j = omega (arith, low) in
        subst (λ (i : ℕ). IsNoLess (worth_at worths i) (worth_at worths 0)) is (no_less-refl (worth_at worths 0));
    first = λ j low no_less. omega arith;
  }

  -- a lesser one comes
  pub first_comes : (i best : ℕ) → IsFirstLeast worths i best
      → ¬ (IsNoLess (worth_at worths i) (worth_at worths best)) → IsFirstLeast worths (i + 1) i
  first_comes i best is lesser = record {
    within = omega arith;
    least = λ j low. elim (cases_eq j i) [
      | inl same ↦ subst (λ (k : ℕ). IsNoLess (worth_at worths k) (worth_at worths i)) (sym same)
          (no_less-refl (worth_at worths i))
      | inr other ↦ no_less-trans (worth_at worths j) (worth_at worths best) (worth_at worths i)
          (is.least j (omega (arith, low, other)))
          (else_no_less (worth_at worths i) (worth_at worths best) lesser)
    ];
    first = λ j low no_less. elim (cases_eq j i) [
      | inl same ↦ omega (arith, same)
      | inr other ↦ absurd (lesser (no_less-trans (worth_at worths i) (worth_at worths j) (worth_at worths best)
          no_less (is.least j (omega (arith, low, other)))))
    ];
  }

  -- or one that isn't less
  pub first_stays : (i best : ℕ) → IsFirstLeast worths i best
      → IsNoLess (worth_at worths i) (worth_at worths best) → IsFirstLeast worths (i + 1) best
  first_stays i best is no_less = record {
    within = let inside = is.within in omega (arith, inside);
    least = λ j low. elim (cases_eq j i) [
      | inl same ↦ subst (λ (k : ℕ). IsNoLess (worth_at worths k) (worth_at worths best)) (sym same) no_less
      | inr other ↦ is.least j (omega (arith, low, other))
    ];
    first = λ j low more. elim (cases_eq j i) [
      | inl same ↦ let inside = is.within in omega (arith, same, inside)
      | inr other ↦ is.first j (omega (arith, low, other)) more
    ];
  }

  -- the first of the least of all comes next where it is below the cost
  pub comes_next : (cost : Option ℤ) (k : ℕ) → IsFirstLeast worths (length worths) k
      → IsBelow (worth_at worths k) cost → IsNextIn cost worths k
  comes_next cost k is below = (
    worth_at worths k,
    record {
      stands = slice_get-get_or worths k NoPlan is.within;
      below = below;
      least = λ j other stands.
          subst (λ (w : Bound). IsNoLess w (worth_at worths k)) (get_or_from_slice_get worths j other NoPlan stands)
          (is.least j (slice_get_within worths j other stands));
      first = λ j other stands no_less. is.first j (slice_get_within worths j other stands)
          (subst (λ (w : Bound). IsNoLess (worth_at worths k) w)
          (sym (get_or_from_slice_get worths j other NoPlan stands)) no_less);
    },
  )

  -- and else none is
  pub none_next : (cost : Option ℤ) (k : ℕ) → IsFirstLeast worths (length worths) k
      → ¬ (IsBelow (worth_at worths k) cost) → (j : ℕ) → j < length worths → ¬ (IsBelow (worth_at worths j) cost)
  none_next cost k is not j inside = not_below (worth_at worths j) (worth_at worths k) cost (is.least j inside) not

-- the least of no worths and of a cost
pub least_alone : (cost : Option ℤ) → IsLeastWith cost [] (bound_of cost)
least_alone cost = record {
  worths = All-nil (λ (worth : Bound). IsNoLess worth (bound_of cost));
  cost = no_less-refl (bound_of cost);
  reached = inl refl;
}

-- one more
pub least_more : (cost : Option ℤ) (worths : List Bound) (worth least new : Bound) → IsLeastWith cost worths least
    → (new ≡ least) ⊎ (new ≡ worth) → IsNoLess least new → IsNoLess worth new
    → IsLeastWith cost (worths ++ worth ∷ []) new
least_more cost worths worth least new is choice below other = record {
  worths = All-push (λ (w : Bound). IsNoLess w new) worths worth
      (All-weaker (λ (w : Bound). IsNoLess w least) (λ (w : Bound). IsNoLess w new)
      (λ w no_less. no_less-trans w least new no_less below) worths is.worths) other;
  cost = no_less-trans (bound_of cost) least new is.cost below;
  reached = elim choice [
    | inl stays ↦ elim is.reached [
      | inl of_cost ↦ inl (stays ∙ of_cost)
      | inr of_worths ↦ inr (subst (Contains (worths ++ worth ∷ [])) (sym stays)
          (Contains-append_left worths (worth ∷ []) least of_worths))
    ]
    | inr comes ↦ inr (subst (Contains (worths ++ worth ∷ [])) (sym comes) (Contains-push worths worth))
  ];
}

-- the worth of a leaf among the worths of all
worth_of_case : (cases : List Case) (k : ℕ) (x : Case) → k < length cases → x ≡ get_or cases k x
    → worth_at (worths_in cases) k ≡ x.worth
worth_of_case cases k x inside is =
    get_or-map (λ (found : Case). found.worth) cases k x NoPlan inside ∙ ap (λ (found : Case). found.worth) (sym is)

module _ (cases : List Case) (k best : ℕ) (x y : Case) (inside : k < length cases) (also : best < length cases)
    (x_is : x ≡ get_or cases k x) (y_is : y ≡ get_or cases best y) (is : IsFirstLeast (worths_in cases) k best) where
  pub lesser_leaf : ¬ (IsNoLess x.worth y.worth) → IsFirstLeast (worths_in cases) (k + 1) k
  lesser_leaf lesser =
      first_comes (worths_in cases) k best is
      (λ no_less. lesser (subst (IsNoLess x.worth) (worth_of_case cases best y also y_is)
      (subst (λ (w : Bound). IsNoLess w (worth_at (worths_in cases) best)) (worth_of_case cases k x inside x_is)
      no_less)))

  pub other_leaf : IsNoLess x.worth y.worth → IsFirstLeast (worths_in cases) (k + 1) best
  other_leaf no_less =
      first_stays (worths_in cases) k best is
      (subst (λ (w : Bound). IsNoLess w (worth_at (worths_in cases) best)) (sym (worth_of_case cases k x inside x_is))
      (subst (IsNoLess x.worth) (sym (worth_of_case cases best y also y_is)) no_less))

-- where the first of the least isn't below the cost, none is
pub none_below : (cases : List Case) (cost : Option ℤ) (k : ℕ) (x : Case)
    → IsFirstLeast (worths_in cases) (length cases) k → x ≡ get_or cases k x → ¬ (IsBelow x.worth cost)
    → All (λ found. ¬ (IsBelow found.worth cost)) cases
none_below cases cost k x is x_is not = λ j d inside.
    let size : length (worths_in cases) ≡ length cases = length-map cases (λ (found : Case). found.worth) in
    let all = subst (λ (n : ℕ). IsFirstLeast (worths_in cases) n k) (sym size) is in
    subst (λ (w : Bound). ¬ (IsBelow w cost)) (get_or-map (λ (found : Case). found.worth) cases j d NoPlan inside)
    (none_next (worths_in cases) cost k all
    (subst (λ (w : Bound). ¬ (IsBelow w cost)) (sym (worth_of_case cases k x is.within x_is)) not) j
    (subst (λ (n : ℕ). j < n) (sym size) inside))
