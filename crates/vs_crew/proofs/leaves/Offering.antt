-- The state of a search once the plan that was found, if any, was offered.
use Rattle.std.proofs.Common.{◌≡◌, ℕ, Bool, true, false, List, [], ◌∷◌, ◌++◌, append-nil, refl, sym, ap, subst, arith, Option, Some, None, option_map, ℤ, ◌<ℤ◌, ◌≤ℤ◌}
use Rattle.std.specs.Prelude.{IsTrue, ◌↔◌, int_lt}
use Rattle.std.specs.List.{last_or}
use Rattle.std.proofs.lemmas.Int.{ints}
use Rattle.vs_plan.specs.CheckedPlan.{Checked}
use Rattle.vs_prices.specs.Bounds.{IsBelow}
use Rattle.vs_prices.specs.declared.bound.Bound.{Bound}
use Rattle.vs_prices.specs.declared.bound.Bound.TheVariants.{AtLeast, NoPlan}
use Rattle.vs_tree.specs.Calls.{offering, with_step}
use Rattle.vs_tree.specs.Entries.{worker_of}
use Rattle.vs_tree.specs.History.{FullStep, State, IsCheaper, after, first_state, known}
use Rattle.vs_tree.specs.Search.{Search, state}
use Rattle.vs_tree.proofs.CallerLemmas.{below-before, last-more, state-last}
use Rattle.vs_node.specs.NextSteps.{IsOpen}
use Rattle.vs_node.specs.WorkedHistory.{AreWorkedFrom, IsWorkedStep}
use Rattle.vs_crew.specs.Leaves.{HasOffered}
use Rattle.vs_crew.specs.Sharing.{AreBy}

-- only the cheapest plan is another one: a worth that is below its cost is below what was known, and below the plan's
pub record IsAfterOffer (s n : State) (plan : Option Checked) : Type 0 where
  pub places : n.places ≡ s.places
  pub tables : n.tables ≡ s.tables
  pub finished : n.finished ≡ s.finished
  pub gone : n.gone ≡ s.gone
  pub room : (worth : Bound) → IsBelow worth (known n) → IsOpen worth (known s) plan

not_less : (a b : ℤ) → ¬ (a <ℤ b) → b ≤ℤ a
not_less a b dear = by_test (int_lt a b) refl
  where
    less : int_lt a b ≡ true → a <ℤ b
    less is = grind (arith, ints)

    no_less : int_lt a b ≡ false → b ≤ℤ a
    no_less is = grind (arith, ints)

    by_test : (t : Bool) → int_lt a b ≡ t → b ≤ℤ a
    by_test true is = absurd (dear (less is))
    by_test false is = no_less is

-- what is below a known cost is below a cost that isn't cheaper
below-dear : (worth : Bound) (cost : ℤ) (other : Option ℤ) → ¬ (IsCheaper cost other) → IsBelow worth other
    → IsBelow worth (Some cost)
below-dear NoPlan cost other dear below = below
below-dear (AtLeast n) cost None dear below = absurd (dear tt)
below-dear (AtLeast n) cost (Some other) dear below =
    let no_less = not_less cost other dear in omega (arith, ints, no_less, below)

-- where the plan was accepted, or not
module _ (w : ℕ) (s : State) (plan : Checked) where
  known-added : known (after s (offering s w plan true)) ≡ Some plan.cost
  known-added = ap (λ (q : Option Checked). option_map (λ (c : Checked). c.cost) q) (last-more None s.accepted plan)

  known-same : known (after s (offering s w plan false)) ≡ known s
  known-same =
      ap (λ (qs : List Checked). option_map (λ (c : Checked). c.cost) (last_or None qs)) (append-nil s.accepted)

  after-step : (added : Bool) → (IsTrue added ↔ IsCheaper plan.cost (known s))
      → IsAfterOffer s (after s (offering s w plan added)) (Some plan)
  after-step true is = record {
    places = refl;
    tables = refl;
    finished = refl;
    gone = refl;
    room = λ worth below.
        let now = subst (IsBelow worth) known-added below in
        (below-before worth plan.cost (known s) (is.0 refl) now, now);
  }
  after-step false is = record {
    places = refl;
    tables = refl;
    finished = refl;
    gone = refl;
    room = λ worth below.
        let before = subst (IsBelow worth) known-same below in (
          before,
          below-dear worth plan.cost (known s)
              (λ cheap. let no : false ≡ true = is.1 cheap in absurd cc) before,
        );
  }

below-none : (worth : Bound) (other : Option ℤ) → IsBelow worth other → IsBelow worth None
below-none NoPlan other below = below
below-none (AtLeast n) other below = tt

after-none : (s : State) → IsAfterOffer s s None
after-none s = record {
  places = refl;
  tables = refl;
  finished = refl;
  gone = refl;
  room = λ worth below. (below, below-none worth (known s) below);
}

-- what holds of the search once the worker offered the plan
pub record IsOffered (w : ℕ) (old new : Search) (plan : Option Checked) : Type 0 where
  pub opening : new.opening ≡ old.opening
  pub added : List FullStep
  pub goes_on : old.steps ++ added ≡ new.steps
  pub by_worker : AreBy w added
  pub worked : AreWorkedFrom old.opening (state old) added
  pub state_is : IsAfterOffer (state old) (state new) plan

offered-step : (w : ℕ) (old : Search) (plan : Checked) (added : Bool)
    → (IsTrue added ↔ IsCheaper plan.cost (known (state old)))
    → IsOffered w old (with_step old (offering (state old) w plan added)) (Some plan)
offered-step w old plan added is = record {
  opening = refl;
  added = offering (state old) w plan added ∷ [];
  goes_on = refl;
  by_worker = (by added, tt);
  worked = (plain added, tt);
  state_is = subst (λ (n : State). IsAfterOffer (state old) n (Some plan))
      (sym (state-last (first_state old.opening) old.steps (offering (state old) w plan added)))
      (after-step w (state old) plan added is);
}
  where
    by : (b : Bool) → worker_of (offering (state old) w plan b) ≡ w
    by true = refl
    by false = refl

    plain : (b : Bool) → IsWorkedStep old.opening (state old) (offering (state old) w plan b)
    plain true = tt
    plain false = tt

pub offered : (w : ℕ) (old new : Search) (plan : Option Checked) → HasOffered w old plan new
    → IsOffered w old new plan
offered w old new None is =
    subst (λ (t : Search). IsOffered w old t None) (sym is)
    (record {
      opening = refl;
      added = [];
      goes_on = append-nil old.steps;
      by_worker = tt;
      worked = tt;
      state_is = after-none (state old);
    })
offered w old new (Some plan) is =
    subst (λ (t : Search). IsOffered w old t (Some plan)) (sym is.2) (offered-step w old plan is.0 is.1)
