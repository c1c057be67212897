-- A state whose leaves have lawful prices has a report.
use Rattle.std.proofs.Common.{◌≡◌, ℕ, zero, suc, ◌<◌, Bool, true, false, length, refl, sym, ap, ◌∙◌, subst, arith, inl, inr, ◌⊎◌, Option, Some, None, ℤ}
use Rattle.std.proofs.lemmas.Bool.{cases_lt}
use Rattle.std.proofs.lemmas.Int.{ints}
use Rattle.vs_instance.specs.Problem.{Problem}
use Rattle.vs_prices.specs.Bounds.{IsNoLess}
use Rattle.vs_prices.specs.Claims.{claim_found}
use Rattle.vs_prices.specs.declared.bound.Bound.{Bound}
use Rattle.vs_prices.specs.declared.bound.Bound.TheVariants.{AtLeast, NoPlan}
use Rattle.vs_tree.specs.History.{State, IsLeaf, IsLeafWorth, is_inner, known, prices_at, sets_at, spot_at}
use Rattle.vs_tree.specs.Prices.{AreLawful}
use Rattle.vs_tree.specs.Report.{IsLesser, IsReached, IsReport, bound_of}
use Rattle.vs_tree.specs.declared.calls.Report.{Report}
use Rattle.vs_prices.proofs.CallerLemmas.{no_less-refl, no_less-trans}
use Rattle.vs_tree.proofs.CallerLemmas.{lawful_worth, leaf_within, one_worth}
use Rattle.vs_cert.proofs.AnswerBounds.{less_or_not}

-- of two bounds one is no less than the other
either_no_less : (a b : Bound) → IsNoLess a b ⊎ IsNoLess b a
either_no_less NoPlan b = inl tt
either_no_less (AtLeast n) NoPlan = inr tt
either_no_less (AtLeast n) (AtLeast m) =
    elim (less_or_not n m) [ inl less ↦ inr (omega (arith, ints, less)) | inr at_least ↦ inl at_least.1 ]

-- the number of a bound, none where there is no plan
abbrev number_of : Bound → Option ℤ
number_of NoPlan = None
number_of (AtLeast n) = Some n

bound-number : (b : Bound) → bound_of (number_of b) ≡ b
bound-number NoPlan = refl
bound-number (AtLeast n) = refl

module _ (p : Problem) (s : State) (lawful : (k : ℕ) → IsLeaf s k → AreLawful p (prices_at s k)) where
  -- the least of the cost and of what the leaves among the first spots are worth
  record IsLeastTo (count : ℕ) (least : Bound) : Type 0 where
    pub leaves : (k : ℕ) (worth : Bound) → k < count → IsLeaf s k → IsLeafWorth p s k worth → IsNoLess worth least
    pub cost : IsNoLess (bound_of (known s)) least
    pub reached : (least ≡ bound_of (known s)) ⊎ IsReached p s least

  module _ (n : ℕ) (least : Bound) (is : IsLeastTo n least) where
    -- one spot more that is no leaf
    skip : is_inner (spot_at s n) ≡ true → IsLeastTo (suc n) least
    skip inner = record {
      leaves = λ k worth below leaf is_worth. elim (cases_lt k n) [
        | inl before ↦ is.leaves k worth before leaf is_worth
        | inr past ↦
            let here : n ≡ k = omega (arith, below, past) in
            let at : is_inner (spot_at s n) ≡ false = ap (λ (i : ℕ). is_inner (spot_at s i)) here ∙ leaf in
            absurd cc
      ];
      cost = is.cost;
      reached = is.reached;
    }

    -- one leaf more, which is worth so much, where this is no more than both
    more : (worth lesser : Bound) → IsLeafWorth p s n worth → IsNoLess least lesser → IsNoLess worth lesser
        → (lesser ≡ bound_of (known s)) ⊎ IsReached p s lesser → IsLeastTo (suc n) lesser
    more worth lesser is_worth below_least below_worth reached = record {
      leaves = λ k other below leaf is_other. elim (cases_lt k n) [
        | inl before ↦ no_less-trans other least lesser (is.leaves k other before leaf is_other) below_least
        | inr past ↦
            let here : n ≡ k = omega (arith, below, past) in
            let same : worth ≡ other =
            one_worth p (sets_at s k) (prices_at s k) worth other
            (subst (λ (i : ℕ). IsLeafWorth p s i worth) here is_worth) is_other in
            subst (λ (b : Bound). IsNoLess b lesser) same below_worth
      ];
      cost = no_less-trans (bound_of (known s)) least lesser is.cost below_least;
      reached = reached;
    }

    one_more : (b : Bool) → is_inner (spot_at s n) ≡ b → (lesser : Bound) × IsLeastTo (suc n) lesser
    one_more true inner = (least, skip inner)
    one_more false leaf =
        let found = lawful_worth p (sets_at s n) (prices_at s n) (lawful n leaf) in
        elim (either_no_less found.0 least) [
          | inl no_less ↦ (least, more found.0 least found.1 (no_less-refl least) no_less is.reached)
          | inr less ↦ (
            found.0,
            more found.0 found.0 found.1 less (no_less-refl found.0)
                (inr (record { leaf = n; is_leaf = leaf; worth = found.1 })),
          )
        ]

  least_to : (n : ℕ) → (least : Bound) × IsLeastTo n least
  least_to zero = (
    bound_of (known s),
    record {
      leaves = λ k worth below leaf is_worth. absurd (omega (arith, below));
      cost = no_less-refl (bound_of (known s));
      reached = inl refl;
    },
  )
  least_to (suc n) = let before = least_to n in one_more n before.0 before.1 (is_inner (spot_at s n)) refl

  -- so there is one
  pub has_report : (r : Report) × IsReport p s r
  has_report =
      let all = least_to (length s.places) in
      let lesser : IsLesser p s all.0 = record {
        leaves = λ k worth leaf is_worth. all.1.leaves k worth (leaf_within s.places k leaf) leaf is_worth;
        cost = all.1.cost;
        reached = all.1.reached;
      } in (
        record {
          claim = claim_found (known s) (number_of all.0);
          cost = known s;
          bound = number_of all.0;
          finished = s.finished;
        },
        record {
          cost = refl;
          bound = subst (λ (b : Bound). IsLesser p s b) (sym (bound-number all.0)) lesser;
          claim = refl;
          finished = refl;
        },
      )
