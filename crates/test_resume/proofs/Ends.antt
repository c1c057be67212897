-- A search that one worker has made is what a solver has to give.
use Rattle.std.proofs.Common.{◌≡◌, ℕ, ◌+◌, ◌≤◌, List, [], inl, inr, ap, subst, arith}
use Rattle.std.proofs.lemmas.Bool.{cases_lt}
use Rattle.vs_instance.specs.Problem.{Problem}
use Rattle.vs_tree.specs.History.{FullStep, IsHistory, Opening, state_of}
use Rattle.vs_tree.specs.Search.{Search, state}
use Rattle.vs_tree.specs.Sound.{IsOpening}
use Rattle.vs_tree.specs.Takes.{IsOver}
use Rattle.vs_node.proofs.CallerLemmas.{worked_searches_reach_the_start}
use Rattle.vs_resume.specs.Deepened.{IsDeepened}
use Rattle.test_resume.specs.Alone.{IsBetweenLeaves, begun_alone}
use Rattle.test_resume.proofs.AloneSearches.{first_not_over, none_held}

module _ (p : Problem) (budget : ℕ) (some : 1 ≤ budget) (t : Search) (begins : t.opening ≡ begun_alone p budget)
    (opening : IsOpening t.opening) (history : IsHistory t.opening t.steps) (between : IsBetweenLeaves t) where
  deepened : IsOver t.opening (state t) → 1 ≤ (state t).finished → IsDeepened p budget t
  deepened over finished = record {
    problem = ap (λ (o : Opening). o.problem) begins;
    budget = ap (λ (o : Opening). o.budget) begins;
    first = ap (λ (o : Opening). o.first) begins;
    over = over;
    some = finished;
    reaches = λ value start k worth leaf is_worth.
        worked_searches_reach_the_start t.opening t.steps k worth value opening history between.worked finished leaf
        is_worth start;
  }

  -- where the budget is spent
  pub spent : (state t).finished ≡ budget → IsDeepened p budget t
  spent all =
      let given = ap (λ (o : Opening). o.budget) begins in
      deepened (record {
        none_held = none_held t opening history between.workers between.idle;
        no_more = inr (omega (arith, all, given));
      }) (omega (arith, all, some))

  -- where the worker was told so before, which it isn't at first
  pub stopped : (left : ℕ) → (state t).finished + left ≡ budget → (left ≡ budget → t.steps ≡ [])
      → IsOver t.opening (state t) → IsDeepened p budget t
  stopped left count first over =
      elim (cases_lt 0 (state t).finished) [
        | inl finished ↦ deepened over (omega (arith, finished))
        | inr none ↦
            let steps = first (omega (arith, count, none)) in
            let at_first = subst (λ (l : List FullStep). IsOver t.opening (state_of t.opening l)) steps over in
            let given = ap (λ (o : Opening). o.budget) begins in
            absurd (first_not_over t.opening opening.instance (ap (λ (o : Opening). o.first) begins)
            (omega (arith, given, some)) at_first)
      ]
