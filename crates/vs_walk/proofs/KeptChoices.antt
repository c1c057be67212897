-- Choices that are kept, once one more is.
use Rattle.std.proofs.Common.{ℕ, List, ◌∷◌, take, drop}
use Rattle.std.specs.List.{insert}
use Rattle.std.proofs.lemmas.List.Elements.{All-append, All-cons, All-drop, All-take}
use Rattle.vs_walk.specs.Choices.{AreChoicesOf, IsChoiceOf}
use Rattle.vs_walk.specs.declared.pool.Choice.{Choice}

-- they have a set for each trip, where it has
pub kept_inserted : (trips place most : ℕ) (kept : List Choice) (choice : Choice) → AreChoicesOf trips kept
    → IsChoiceOf trips choice → AreChoicesOf trips (take most (insert kept place choice))
kept_inserted trips place most kept choice are is =
    let P = IsChoiceOf trips in
    All-take P most (insert kept place choice)
    (All-append P (take place kept) (choice ∷ drop place kept) (All-take P place kept are)
    (All-cons P choice (drop place kept) is (All-drop P place kept are)))
