use Rattle.std.proofs.Common.{◌≡◌, ℕ, Bool, true, length, sym, ap, ◌∙◌, subst, rules}
use Rattle.std.proofs.lemmas.Result.{on_ok_weaker}
use Rattle.vs_instance.specs.Problem.{Problem}
use Rattle.vs_plan.specs.CheckedPlan.{Checked}
use Rattle.vs_prices.specs.Table.{Fits}
use Rattle.vs_tree.specs.Calls.{offering, with_step}
use Rattle.vs_tree.specs.History.{Closed, FullStep, State, IsHeldBy, after, first_state, prices_at, sets_at}
use Rattle.vs_tree.specs.Prices.{Prices, prices_of}
use Rattle.vs_tree.specs.Search.{Search, state}
use Rattle.vs_tree.proofs.CallerLemmas.{state-last}
use Rattle.test_crew.proofs.trees.worked.close_left.Goals as goal

-- the state after one step more
stepped : (t n : Search) (step : FullStep) → n ≡ with_step t step → state n ≡ after (state t) step
stepped t n step adds = ap state adds ∙ state-last (first_state t.opening) t.steps step

-- a search in which worker 0 offered a plan that is the cheapest now
module _ (t n : Search) (plan : Checked) (answer : Bool) (adds : n ≡ with_step t (offering (state t) 0 plan answer))
    (cheaper : answer ≡ true) where
  accepted : n ≡ with_step t (offering (state t) 0 plan true)
  accepted = adds ∙ ap (λ (b : Bool). with_step t (offering (state t) 0 plan b)) cheaper

  state_is : state n ≡ after (state t) (offering (state t) 0 plan true)
  state_is = stepped t n (offering (state t) 0 plan true) accepted

  held_still : IsHeldBy (state t) 0 1 → IsHeldBy (state n) 0 1
  held_still holds = subst (λ (s : State). IsHeldBy s 0 1) (sym state_is) holds

  same_sets : sets_at (state t) 1 ≡ sets_at (state n) 1
  same_sets = sym (ap (λ (s : State). sets_at s 1) state_is)

  same_prices : prices_at (state t) 1 ≡ prices_at (state n) 1
  same_prices = sym (ap (λ (s : State). prices_at s 1) state_is)

  -- once the left leaf is closed too
  module _ (last : Search) (prices : Prices)
      (closes : last ≡ with_step n (Closed 0 1 (length (state n).tables) prices)) where
    closed : last ≡ with_step (with_step t (offering (state t) 0 plan true))
        (Closed 0 1 (length (state t).tables) prices)
    closed =
        closes ∙ ap (λ (k : ℕ). with_step n (Closed 0 1 k prices)) (ap (λ (s : State). length s.tables) state_is)
        ∙ ap (λ (s : Search). with_step s (Closed 0 1 (length (state t).tables) prices)) accepted

    same_opening : last.opening ≡ t.opening
    same_opening = ap (λ (s : Search). s.opening) closed

    same_gone : (state last).gone ≡ (state t).gone
    same_gone =
        ap (λ (s : State). s.gone) (stepped n last (Closed 0 1 (length (state n).tables) prices) closes)
        ∙ ap (λ (s : State). s.gone) state_is

pub close-requires-clause-holds : goal.close-requires-clause-holds
close-requires-clause-holds c =
    held_still c.args.tree.now c.offer.new.self c.in_ok-plan.plan c.offer.result c.offer.ensures.search (search rules)
    c.requires.holds

pub close-requires-clause-sets : goal.close-requires-clause-sets
close-requires-clause-sets c =
    c.requires.sets
    ∙ same_sets c.args.tree.now c.offer.new.self c.in_ok-plan.plan c.offer.result c.offer.ensures.search (search rules)

pub close-requires-clause-prices : goal.close-requires-clause-prices
close-requires-clause-prices c =
    c.requires.prices
    ∙ same_prices c.args.tree.now c.offer.new.self c.in_ok-plan.plan c.offer.result c.offer.ensures.search
    (search rules)

pub close-requires-clause-fits : goal.close-requires-clause-fits
close-requires-clause-fits c =
    let opening = ap (λ (s : Search). s.opening.problem) c.offer.ensures.search in
    subst (λ (p : Problem). Fits p c.in_ok-table.table) (sym (opening ∙ c.requires.problem)) c.in_ok-table.ensures

pub returns-clause-search : goal.returns-clause-search
returns-clause-search c =
    on_ok_weaker c.close.result
    (λ closes. (
      c.in_ok-plan.plan,
      prices_of c.in_ok-table.table,
      closed c.args.tree.now c.offer.new.self c.in_ok-plan.plan c.offer.result c.offer.ensures.search (search rules)
          c.close.new.tree (prices_of c.in_ok-table.table) closes,
    )) c.close.ensures

pub returns-clause-opening : goal.returns-clause-opening
returns-clause-opening c =
    on_ok_weaker c.close.result
    (λ closes. same_opening c.args.tree.now c.offer.new.self
    c.in_ok-plan.plan c.offer.result c.offer.ensures.search (search rules) c.close.new.tree
    (prices_of c.in_ok-table.table) closes) c.close.ensures

pub returns-clause-gone : goal.returns-clause-gone
returns-clause-gone c =
    on_ok_weaker c.close.result
    (λ closes. same_gone c.args.tree.now c.offer.new.self
    c.in_ok-plan.plan c.offer.result c.offer.ensures.search (search rules) c.close.new.tree
    (prices_of c.in_ok-table.table) closes) c.close.ensures
