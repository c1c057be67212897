-- How workers share a search: each makes steps in its turn, and from one turn to the next it knows what it had seen.
use Rattle.std.specs.Prelude.{◌≡◌, ◌≢◌, ◌⊎◌, ℕ, ◌+◌, ◌<◌, ◌≤◌, Bool, true, false, List, [], ◌∷◌, ◌++◌, length, map}
use Rattle.atomic_table.specs.Seated.{TableId}
use Rattle.vs_tree.specs.Calls.{HoldsSome}
use Rattle.vs_tree.specs.Entries.{entry_of, opening_entry, worker_of}
use Rattle.vs_tree.specs.History.{FullStep, Opening, State, IsAmong, IsHeldBy, state_of}
use Rattle.vs_tree.specs.Search.{Search}
use Rattle.vs_tree.specs.Takes.{IsOver}
use Rattle.vs_turn.specs.Seats.{KnowsCalls, SeatModel}
use Rattle.vs_turn.specs.Tickets.{tickets_from}

-- what is shared: a search, and how many steps it had when it was handed to the workers
pub record Shared : Type 0 where
  pub before : ℕ
  pub search : Search

-- what the turn is told of it, as numbers
abbrev pub shared_opening : Shared → List ℕ
shared_opening a = a.before ∷ opening_entry a.search.opening

abbrev pub shared_entries : Shared → List (List ℕ)
shared_entries a = map entry_of a.search.steps

-- these steps are the worker's
abbrev pub AreBy : ℕ → List FullStep → Type 0
AreBy worker [] = Unit {0}
AreBy worker (step ∷ steps) = (worker_of step ≡ worker) × AreBy worker steps

-- none of these steps is
abbrev pub AreByOthers : ℕ → List FullStep → Type 0
AreByOthers worker [] = Unit {0}
AreByOthers worker (step ∷ steps) = (worker_of step ≢ worker) × AreByOthers worker steps

-- something that may hold of the state of a search
abbrev pub Says : Type 1
Says = Opening → State → Type 0

-- this held when the worker let the search go, and since then others alone have made steps
pub record HeldWhenLeft (worker : ℕ) (Q : Says) (t : Search) : Type 0 where
  pub steps : List FullStep
  pub others : List FullStep
  pub goes_on : steps ++ others ≡ t.steps
  pub by_others : AreByOthers worker others
  pub held : Q t.opening (state_of t.opening steps)

-- the worker made further steps
pub record GoesOnBy (worker : ℕ) (old new : Shared) : Type 0 where
  pub before : new.before ≡ old.before
  pub opening : new.search.opening ≡ old.search.opening
  pub added : List FullStep
  pub goes_on : old.search.steps ++ added ≡ new.search.steps
  pub by_worker : AreBy worker added

-- by its seat a worker of the turn knows that this holds of the state after the steps that it has seen, which go on
-- from
-- those of the search that was handed in
pub record Knows (turn : TableId) (start : Search) (worker : ℕ) (Q : Says) (seat : SeatModel) : Type 0 where
  pub more : List FullStep
  pub of_turn : seat.turn ≡ turn
  pub opens : seat.opening ≡ length start.steps ∷ opening_entry start.opening
  pub since : seat.since ≡ length (map entry_of start.steps)
  pub ticket : seat.tickets ≡ worker ∷ []
  pub seen : seat.seen ≡ map entry_of (start.steps ++ more)
  pub calls : KnowsCalls seat
  pub holds : Q start.opening (state_of start.opening (start.steps ++ more))

-- the worker is one of the search's, holds no leaf, and gave none back
pub record IsIdle (worker : ℕ) (o : Opening) (s : State) : Type 0 where
  pub is_worker : worker < o.workers
  pub holds_none : (k : ℕ) → ¬ (IsHeldBy s worker k)
  pub stays : ¬ (IsAmong worker s.gone)

-- the worker holds a leaf
abbrev pub IsHolding : ℕ → Says
IsHolding worker o s = HoldsSome s worker

-- it gave its leaf back, and takes no more
abbrev pub HasLeft : ℕ → Says
HasLeft worker o s = IsAmong worker s.gone

-- it holds no leaf
abbrev pub IsFreeOfLeaves : ℕ → Says
IsFreeOfLeaves worker o s = IsIdle worker o s ⊎ HasLeft worker o s

-- how a worker ends: it was told that the search is over, or held no leaf where the gate, which may stop it, did so; or
-- it has left
abbrev pub IsEnd : Type 0 → Bool → ℕ → Says
IsEnd stops true worker o s = IsOver o s ⊎ (stops × IsFreeOfLeaves worker o s)
IsEnd stops false worker o s = HasLeft worker o s

-- among the steps there were some after which the worker had ended; others alone made the rest
pub record HasEnded (stops : Type 0) (worker : ℕ) (o : Opening) (steps : List FullStep) : Type 0 where
  pub first : List FullStep
  pub rest : List FullStep
  pub goes_on : first ++ rest ≡ steps
  pub by_others : AreByOthers worker rest
  pub over : Bool
  pub is_end : IsEnd stops over worker o (state_of o first)

-- among the steps there were some after which the search was over
pub record WasOver (o : Opening) (steps : List FullStep) : Type 0 where
  pub first : List FullStep
  pub rest : List FullStep
  pub goes_on : first ++ rest ≡ steps
  pub over : IsOver o (state_of o first)

-- a seat of as many workers, from this one on, all of which have ended; and whether one of them was told that the
-- search is over, or ended where the gate, which may stop it, did so
pub record KnowsEnds (stops : Type 0) (turn : TableId) (start : Search) (lowest many : ℕ) (told : Bool)
    (seat : SeatModel) : Type 0 where
  pub more : List FullStep
  pub of_turn : seat.turn ≡ turn
  pub opens : seat.opening ≡ length start.steps ∷ opening_entry start.opening
  pub since : seat.since ≡ length (map entry_of start.steps)
  pub tickets : seat.tickets ≡ tickets_from lowest many
  pub seen : seat.seen ≡ map entry_of (start.steps ++ more)
  pub calls : KnowsCalls seat
  pub ended : (worker : ℕ) → lowest ≤ worker → worker < lowest + many → HasEnded stops worker start.opening
      (start.steps ++ more)
  pub over : told ≡ true → WasOver start.opening (start.steps ++ more) ⊎ stops

-- no worker holds a leaf
abbrev pub NoneIsHeld : State → Type 0
NoneIsHeld s = (worker leaf : ℕ) → ¬ (IsHeldBy s worker leaf)
