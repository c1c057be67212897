use Rattle.std.proofs.Common.{suc, zero, List, [], ◌∷◌, None, sym, ap, subst}
use Rattle.vs_types.specs.declared.layer_set.LayerSet.{LayerSet}
use Rattle.vs_tree.specs.History.{FullStep, Opening, Split, Took, state_of}
use Rattle.vs_tree.specs.Prices.{Prices, zero_prices}
use Rattle.vs_tree.specs.Search.{Search, state}
use Rattle.vs_crew.specs.Sharing.{NoneIsHeld}
use Rattle.test_crew.proofs.leaves.two_leaves.Goals as goal

-- the steps of a search whose root was split
abbrev parted : LayerSet → Prices → List FullStep
parted left prices = Took 0 0 ∷ Split 0 0 1 (record { 0 = 0 }) left prices ∷ []

none_held : (o : Opening) (left : LayerSet) (prices : Prices) → NoneIsHeld (state_of o (parted left prices))
none_held o left prices worker zero (table, is) = absurd cc
none_held o left prices worker (suc zero) (table, is) = absurd cc
none_held o left prices worker (suc (suc zero)) (table, is) = absurd cc
none_held o left prices worker (suc (suc (suc k))) (table, is) = absurd cc

pub returns : goal.returns
returns c =
    let p = c.args.instance.now in
    let o : Opening = record { problem = p; budget = 5; workers = 2; first = None } in
    let made = c.in_ok-tree.ensures in
    record {
      problem = ap (λ (s : Search). s.opening.problem) made.1;
      workers = ap (λ (s : Search). s.opening.workers) made.1;
      none_held = subst (λ (s : Search). NoneIsHeld (state s)) (sym made.1) (none_held o made.0 (zero_prices p));
      none_gone = ap (λ (s : Search). (state s).gone) made.1;
    }
