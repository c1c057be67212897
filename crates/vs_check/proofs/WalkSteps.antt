-- The parts that are ahead of a walk over a tree, as its changes come and go.
use Rattle.std.proofs.Common.{◌≡◌, List, [], ◌∷◌, ◌++◌, get_or, set, reverse, ap, ◌∙◌}
use Rattle.std.proofs.lemmas.List.{reverse-append, set-get_or, set-set}
use Rattle.vs_types.specs.declared.layer_set.LayerSet.{LayerSet}
use Rattle.vs_types.specs.declared.numbers.TripNo.{TripNo}
use Rattle.vs_prices.specs.Tree.{with_set}
use Rattle.vs_check.specs.declared.walk.Change.{Change}
use Rattle.vs_check.specs.Walk.{end_of, right_part, sets_along}

-- on the left of a split its right part is ahead, and behind it what was ahead before
pub ahead_on_left : (sets : List LayerSet) (trip : TripNo) (left right whole : LayerSet) (changes : List Change)
    → whole ≡ get_or sets trip.0 whole
    → sets_along (with_set sets trip left) (reverse ((changes ++ end_of trip whole ∷ []) ++ right_part trip right ∷ []))
    ≡ with_set sets trip right ∷ sets_along sets (reverse changes)
ahead_on_left sets trip left right whole changes is =
    let turned : reverse ((changes ++ end_of trip whole ∷ []) ++ right_part trip right ∷ [])
    ≡ right_part trip right ∷ end_of trip whole ∷ reverse changes =
    reverse-append (changes ++ end_of trip whole ∷ []) (right_part trip right ∷ [])
    ∙ ap (λ (cs : List Change). right_part trip right ∷ cs) (reverse-append changes (end_of trip whole ∷ [])) in
    let on_right : with_set (with_set sets trip left) trip right ≡ with_set sets trip right =
    set-set sets trip.0 left right in
    let as_before : with_set (with_set sets trip right) trip whole ≡ sets =
    set-set sets trip.0 right whole ∙ ap (λ (s : LayerSet). set sets trip.0 s) is ∙ set-get_or sets trip.0 whole in
    ap (sets_along (with_set sets trip left)) turned
    ∙ ap (λ (s : List LayerSet). s ∷ sets_along (with_set s trip whole) (reverse changes)) on_right
    ∙ ap (λ (s : List LayerSet). with_set sets trip right ∷ sets_along s (reverse changes)) as_before
