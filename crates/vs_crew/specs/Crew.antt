-- What a crew makes of a search.
use Rattle.std.specs.Prelude.{◌≡◌, ℕ, ◌≤◌, List, ◌++◌, length, take, drop}
use Rattle.vs_tree.specs.History.{FullStep, Opening, state_of}
use Rattle.vs_tree.specs.Search.{Search, state}
use Rattle.vs_node.specs.WorkedHistory.{AreWorkedFrom}
use Rattle.vs_crew.specs.Sharing.{NoneIsHeld, Shared}

-- each leaf that was split or closed after the first n steps was worked on
abbrev pub AreWorkedAfter : Opening → ℕ → List FullStep → Type 0
AreWorkedAfter o n steps = AreWorkedFrom o (state_of o (take n steps)) (drop n steps)

-- so it was in all steps that were made since the search was handed in
pub record IsShared (a : Shared) : Type 0 where
  pub begun : a.before ≤ length a.search.steps
  pub worked : AreWorkedAfter a.search.opening a.before a.search.steps

-- the search went on, each leaf that was split or closed in it was worked on, and none is held
pub record HasGoneOn (old new : Search) : Type 0 where
  pub opening : new.opening ≡ old.opening
  pub added : List FullStep
  pub goes_on : old.steps ++ added ≡ new.steps
  pub worked : AreWorkedFrom old.opening (state old) added
  pub none_held : NoneIsHeld (state new)
