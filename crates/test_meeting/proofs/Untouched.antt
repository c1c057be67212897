-- A search that comes back with no further step.
use Rattle.std.proofs.Common.{◌≡◌, List, [], ◌∷◌, ◌++◌, length, length-append, sym, ap, ◌∙◌, arith}
use Rattle.std.proofs.lemmas.List.{append-nil}
use Rattle.vs_tree.specs.History.{FullStep}
use Rattle.vs_tree.specs.Search.{Search}
use Rattle.vs_crew.specs.Crew.{HasGoneOn}

-- steps that add none are the same
same_steps : (old added new : List FullStep) → old ++ added ≡ new → length new ≡ length old → new ≡ old
same_steps old [] new goes_on long = sym goes_on ∙ append-nil old
same_steps old (step ∷ added) new goes_on long =
    let longer = ap (λ (l : List FullStep). length l) (sym goes_on) ∙ length-append old (step ∷ added) in
    absurd (omega (arith, longer, long))

-- it is the search that was handed in
pub same_search : (old new : Search) → HasGoneOn old new → length new.steps ≡ length old.steps → new ≡ old
same_search old new on long =
    let steps = same_steps old.steps on.added new.steps on.goes_on long in
    λ i. record { opening = on.opening i; steps = steps i }
