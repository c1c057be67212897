use Rattle.std.proofs.Common.{◌≡◌, ℕ, zero, suc, [], ◌∷◌, refl, sym, ap, ◌∙◌, subst, None}
use Rattle.vs_types.specs.declared.layer_set.LayerSet.{LayerSet}
use Rattle.vs_instance.specs.Problem.{Problem}
use Rattle.vs_tree.specs.Calls.{GivesBack, HoldsSome, with_step}
use Rattle.vs_tree.specs.History.{GaveBack, IsAmong, IsHeldBy, Split, Took, prices_at, sets_at}
use Rattle.vs_tree.specs.Prices.{zero_prices}
use Rattle.vs_tree.specs.Search.{Search, state}
use Rattle.test_crew.proofs.trees.worked.given_back.Goals as goal

-- a search of which both leaves are taken, and the same once the right one was given back
abbrev both_taken : Problem → LayerSet → Search
both_taken p left = record {
  opening = record { problem = p; budget = 5; workers = 2; first = None };
  steps = Took 0 0 ∷ Split 0 0 1 (record { 0 = 0 }) left (zero_prices p) ∷ Took 0 1 ∷ Took 1 2 ∷ [];
}

abbrev right_free : Problem → LayerSet → Search
right_free p left = with_step (both_taken p left) (GaveBack 1 2)

-- worker 1 holds the right leaf, and no other
right_leaf : (p : Problem) (left : LayerSet) (leaf : ℕ) → IsHeldBy (state (both_taken p left)) 1 leaf → leaf ≡ 2
right_leaf p left zero (table, is) = absurd cc
right_leaf p left (suc zero) (table, is) = absurd cc
right_leaf p left (suc (suc zero)) held = refl
right_leaf p left (suc (suc (suc k))) (table, is) = absurd cc

-- what giving back makes of the search
gave : (p : Problem) (left : LayerSet) (t n : Search) → t ≡ both_taken p left → GivesBack t n 1 → n ≡ right_free p left
gave p left t n begins gives =
    let held : IsHeldBy (state (both_taken p left)) 1 gives.leaf =
    subst (λ (s : Search). IsHeldBy (state s) 1 gives.leaf) begins gives.held in
    gives.adds ∙ ap (λ (k : ℕ). with_step t (GaveBack 1 k)) (right_leaf p left gives.leaf held)
    ∙ ap (λ (s : Search). with_step s (GaveBack 1 2)) begins

-- worker 0 isn't among the others
alone : ¬ (IsAmong 0 (1 ∷ []))
alone (zero, is) = absurd cc
alone (suc k, is) = absurd cc

none-offered : ¬ (IsAmong 0 [])
none-offered (k, is) = absurd cc

pub give_back-requires : goal.give_back-requires
give_back-requires c =
    subst (λ (s : Search). HoldsSome (state s) 1) (sym c.in_ok-tree.ensures.tree.1) (2, (1, refl))

pub returns : goal.returns
returns c =
    let p = c.args.instance.now in
    let made = c.in_ok-tree.ensures in
    let left = made.tree.0 in
    let is = gave p left _ _ made.tree.1 c.give_back.ensures in
    let back = sym is in
    record {
      problem = ap (λ (s : Search). s.opening.problem) is;
      workers = ap (λ (s : Search). s.opening.workers) is;
      stays = subst (λ (s : Search). ¬ (IsAmong 0 (state s).gone)) back alone;
      fresh = subst (λ (s : Search). ¬ (IsAmong 0 (state s).offered)) back none-offered;
      holds = subst (λ (s : Search). IsHeldBy (state s) 0 1) back (1, refl);
      sets = made.left.0 ∙ ap (λ (s : Search). sets_at (state s) 1) made.tree.1
          ∙ ap (λ (s : Search). sets_at (state s) 1) back;
      prices = made.left.1 ∙ ap (λ (s : Search). prices_at (state s) 1) made.tree.1
          ∙ ap (λ (s : Search). prices_at (state s) 1) back;
    }
