-- What it takes to make a step of a trace, and what comes of it.
use Rattle.std.specs.Prelude.{◌≡◌, ◌↔◌, ℕ, ◌<◌, ◌≤◌, ◌++◌, List, length, take, slice_index_or, Bool, IsTrue}
use Rattle.vs_instance.specs.Problem.{Problem}
use Rattle.vs_need.specs.Nets.{AreNets}
use Rattle.vs_need.specs.Room.{HasRoom}
use Rattle.vs_tree.specs.Calls.{HoldsSome, finishing, with_step}
use Rattle.vs_tree.specs.History.{FullStep, IsAmong, MayCome, MayFollow, State, state_after}
use Rattle.vs_tree.specs.Search.{Search, state}
use Rattle.vs_tree.specs.Takes.{IsSized}
use Rattle.vs_trace.specs.Traces.{steps_from, told_step}
use Rattle.vs_trace.specs.declared.trace.Full.{Full}
use Rattle.vs_tree.specs.Prices.{prices_of}
use Rattle.vs_replay.specs.declared.finishing.Done.{Done}
use Rattle.vs_replay.specs.declared.ground.Ground.{Ground}

-- what is at hand suits the instance
pub record Suits (p : Problem) (ground : Ground) : Type 0 where
  pub nets : AreNets p ground.nets.nets.now
  pub room : HasRoom (length p.trips) ground.nets.nets.now ground.scratch
  pub sets : length ground.sets.items ≡ length p.trips
  pub table : IsSized p ground.table

-- where the step may come, it is made, and else it is not
pub record IsMade (old new : Search) (step : FullStep) (made : Bool) : Type 0 where
  pub may : IsTrue made ↔ MayCome old.opening (state old) step
  pub is_made : IsTrue made → new ≡ with_step old step

-- the step that comes next in a search
abbrev pub next_step : Search → Full → FullStep
next_step t step = told_step t.opening.problem (length (state t).tables) (length (state t).accepted) step

-- the worker holds a leaf, and has offered nothing since it took it
pub record MayOfferSome (s : State) (worker : ℕ) : Type 0 where
  pub holds : HoldsSome s worker
  pub first_time : ¬ (IsAmong worker s.offered)

-- the step by which a leaf is finished so
abbrev pub step_of : State → Done → FullStep
step_of s done = finishing s done.worker done.leaf (prices_of done.table) done.next

-- the steps that come next in a search
abbrev pub next_steps : Search → List Full → List FullStep
next_steps t steps = steps_from t.opening.problem (length (state t).tables) (length (state t).accepted) steps

-- so many of the steps are made; where these aren't all, the next may not come
pub record AreMade (old new : Search) (steps : List Full) (made : ℕ) : Type 0 where
  pub few : made ≤ length steps
  pub history : MayFollow old.opening (state old) (take made (next_steps old steps))
  -- where all are made
  pub all : made ≡ length steps
      → new ≡ record { opening = old.opening; steps = old.steps ++ next_steps old steps }
  pub stuck : made < length steps → (d : FullStep)
      → ¬ (MayCome old.opening (state_after (state old) (take made (next_steps old steps)))
      (slice_index_or (next_steps old steps) made d))
