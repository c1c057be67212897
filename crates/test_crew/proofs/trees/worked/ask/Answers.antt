use Rattle.std.proofs.Common.{◌≡◌, ℕ, refl, ap, ◌∙◌}
use Rattle.vs_tree.specs.History.{State, Took, first_state}
use Rattle.vs_tree.specs.Search.{Search, state}
use Rattle.vs_tree.specs.Takes.{taking}
use Rattle.vs_tree.specs.declared.calls.Take.{Take}
use Rattle.vs_tree.specs.declared.calls.Take.TheVariants.{Node, Wait, Done, Spent}
use Rattle.vs_tree.proofs.CallerLemmas.{state-last}
use Rattle.test_crew.proofs.trees.worked.ask.Goals as goal

-- no answer sends a worker away
taking-gone : (t : Search) (worker : ℕ) (take : Take)
    → (state (record t { steps = taking worker t.steps take })).gone ≡ (state t).gone
taking-gone t worker (Node leaf known) =
    ap (λ (s : State). s.gone) (state-last (first_state t.opening) t.steps (Took worker leaf))
taking-gone t worker Wait = refl
taking-gone t worker Done = refl
taking-gone t worker Spent = refl

pub returns-clause-gone : goal.returns-clause-gone
returns-clause-gone c =
    ap (λ (t : Search). (state t).gone) c.take-take.ensures.search
    ∙ taking-gone c.args.tree.now c.args.w c.take-take.result
