use Rattle.std.proofs.Common.{◌≡◌, ℕ, [], ◌∷◌, length, refl, sym, ap, ◌∙◌, subst, true, None}
use Rattle.vs_types.specs.declared.layer_set.LayerSet.{LayerSet}
use Rattle.vs_instance.specs.Problem.{Problem}
use Rattle.vs_plan.specs.CheckedPlan.{Checked}
use Rattle.vs_prices.specs.Table.{Fits}
use Rattle.vs_tree.specs.Calls.{offering, with_step}
use Rattle.vs_tree.specs.History.{Closed, IsAmong, IsHeldBy, Split, Took, prices_at, sets_at}
use Rattle.vs_tree.specs.Prices.{Prices, prices_of, zero_prices}
use Rattle.vs_tree.specs.Search.{Search, state}
use Rattle.test_crew.proofs.Searches.{none-gone}
use Rattle.test_crew.proofs.trees.worked.finished.Goals as goal

-- a search of which both leaves are taken, and the same once the left one was closed
abbrev both_taken : Problem → LayerSet → Search
both_taken p left = record {
  opening = record { problem = p; budget = 5; workers = 2; first = None };
  steps = Took 0 0 ∷ Split 0 0 1 (record { 0 = 0 }) left (zero_prices p) ∷ Took 0 1 ∷ Took 1 2 ∷ [];
}

abbrev then_closed : Search → Checked → Prices → Search
then_closed t plan prices =
    with_step (with_step t (offering (state t) 0 plan true)) (Closed 0 1 (length (state t).tables) prices)

-- a search of which the left leaf was closed then
closed_left : (p : Problem) (left : LayerSet) (t n : Search) (plan : Checked) (prices : Prices) → t ≡ both_taken p left
    → n ≡ then_closed t plan prices → n ≡ then_closed (both_taken p left) plan prices
closed_left p left t n plan prices begins adds = adds ∙ ap (λ (s : Search). then_closed s plan prices) begins

pub close-requires-clause-holds : goal.close-requires-clause-holds
close-requires-clause-holds c =
    let made = c.in_ok-tree.ensures.tree in
    let closes = c.in_ok-close_left.ensures.search in
    let is = closed_left c.args.instance.now made.0 _ _ closes.0 closes.1 made.1 closes.2 in
    subst (λ (s : Search). IsHeldBy (state s) 1 2) (sym is) (1, refl)

pub close-requires-clause-sets : goal.close-requires-clause-sets
close-requires-clause-sets c =
    let made = c.in_ok-tree.ensures.tree in
    let closes = c.in_ok-close_left.ensures.search in
    let is = closed_left c.args.instance.now made.0 _ _ closes.0 closes.1 made.1 closes.2 in
    c.in_ok-tree.ensures.right.0 ∙ ap (λ (s : Search). sets_at (state s) 2) made.1
    ∙ ap (λ (s : Search). sets_at (state s) 2) (sym is)

pub close-requires-clause-prices : goal.close-requires-clause-prices
close-requires-clause-prices c =
    let made = c.in_ok-tree.ensures.tree in
    let closes = c.in_ok-close_left.ensures.search in
    let is = closed_left c.args.instance.now made.0 _ _ closes.0 closes.1 made.1 closes.2 in
    c.in_ok-tree.ensures.right.1 ∙ ap (λ (s : Search). prices_at (state s) 2) made.1
    ∙ ap (λ (s : Search). prices_at (state s) 2) (sym is)

pub close-requires-clause-fits : goal.close-requires-clause-fits
close-requires-clause-fits c =
    let made = c.in_ok-tree.ensures.tree in
    let closes = c.in_ok-close_left.ensures.search in
    let is = closed_left c.args.instance.now made.0 _ _ closes.0 closes.1 made.1 closes.2 in
    subst (λ (p : Problem). Fits p c.in_ok-table.table) (sym (ap (λ (s : Search). s.opening.problem) is))
    c.in_ok-table.ensures

pub returns : goal.returns
returns c =
    let made = c.in_ok-tree.ensures.tree in
    let closes = c.in_ok-close_left.ensures.search in
    let prices = prices_of c.in_ok-table.table in
    let is = closed_left c.args.instance.now made.0 _ _ closes.0 closes.1 made.1 closes.2 in
    let last = c.in_ok-close.ensures
    ∙ ap (λ (s : Search). with_step s (Closed 1 2 (length (state s).tables) prices)) is in
    record {
      problem = ap (λ (s : Search). s.opening.problem) last;
      workers = ap (λ (s : Search). s.opening.workers) last;
      stays = subst (λ (s : Search). ¬ (IsAmong 0 (state s).gone)) (sym last) (none-gone 0);
    }
