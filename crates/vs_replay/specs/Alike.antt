-- Traces that tell of a search, and the state to which they replay. Prices for trips that a layer may not run aren't
-- told.
use Rattle.std.specs.Prelude.{◌≡◌, ℕ, List}
use Rattle.std.specs.List.{AllZip}
use Rattle.vs_instance.specs.Problem.{Problem}
use Rattle.vs_prices.specs.Table.{Fits}
use Rattle.vs_prices.specs.declared.table.Table.{Table}
use Rattle.vs_rows.specs.DocumentText.{Agree}
use Rattle.vs_tree.specs.History.{Closed, FullStep, IsAmong, IsHistory, Opening, Split, State, state_of}
use Rattle.vs_tree.specs.Prices.{Prices, prices_of}
use Rattle.vs_tree.specs.Sound.{IsOpening}
use Rattle.vs_tree.specs.Takes.{held_leaves}
use Rattle.vs_replay.specs.Replays.{Replays}
use Rattle.vs_trace.specs.Told.{told_of}
use Rattle.vs_trace.specs.Traces.{told_opening, told_steps}
use Rattle.vs_trace.specs.declared.trace.Trace.{Trace}

-- tables of these prices fit the instance and agree
pub record AreAlike (p : Problem) (a b : Prices) : Type 0 where
  pub one : Table
  pub other : Table
  pub one_is : prices_of one ≡ a
  pub other_is : prices_of other ≡ b
  pub one_fits : Fits p one
  pub other_fits : Fits p other
  pub agree : Agree p one other

-- a step is the same but for a table that agrees
abbrev pub IsAlike : Problem → FullStep → FullStep → Type 0
IsAlike p (Split worker leaf number trip left a) step =
    (b : Prices) × (step ≡ Split worker leaf number trip left b) × AreAlike p a b
IsAlike p (Closed worker leaf number a) step = (b : Prices) × (step ≡ Closed worker leaf number b) × AreAlike p a b
IsAlike p step other = other ≡ step

-- the trace tells how the search began, and its steps but for offers that weren't accepted
pub record IsTold (o : Opening) (history : List FullStep) (t : Trace) : Type 0 where
  pub opening : told_opening o.problem t ≡ o
  pub steps : AllZip (IsAlike o.problem) (told_of history) (told_steps o.problem t)

-- two states have the same spots, plans and numbers, and tables that agree; who has offered a plan in the second since
-- it took its leaf has offered one in the first
pub record SameStates (p : Problem) (s u : State) : Type 0 where
  pub places : u.places ≡ s.places
  pub tables : AllZip (AreAlike p) s.tables u.tables
  pub accepted : u.accepted ≡ s.accepted
  pub finished : u.finished ≡ s.finished
  pub gone : u.gone ≡ s.gone
  pub offered : (worker : ℕ) → IsAmong worker u.offered → IsAmong worker s.offered

-- where no leaf of a search is held, a trace that tells of it replays, to a state that is the same
abbrev pub ToldHistoriesComeBack : Type 0
ToldHistoriesComeBack =
    (o : Opening) (steps : List FullStep) (t : Trace) → IsOpening o → IsHistory o steps
    → held_leaves (state_of o steps) ≡ 0 → IsTold o steps t
    → Replays o.problem t × SameStates o.problem (state_of o steps)
    (state_of (told_opening o.problem t) (told_steps o.problem t))
