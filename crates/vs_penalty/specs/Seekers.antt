-- What plans are sought with.
use Rattle.std.specs.Prelude.{◌≡◌, List, length, All, IfSome, ℤ}
use Rattle.vs_types.specs.declared.layer_set.LayerSet.{LayerSet}
use Rattle.vs_instance.specs.Problem.{Problem}
use Rattle.vs_match.specs.LayerGraph.{LayerGraph}
use Rattle.vs_multi.specs.Multipliers.{AreMultipliers}
use Rattle.vs_multi.specs.Rounds.{IsCase}
use Rattle.vs_plan.specs.CheckedPlan.{Checked, IsChecked}
use Rattle.vs_walk.specs.Penalties.{ArePenalties}
use Rattle.vs_walk.specs.Walkers.{IsWalkerFor}
use Rattle.vs_penalty.specs.declared.choices.Choices.{Choices}
use Rattle.vs_penalty.specs.declared.seeking.Seeker.{Seeker}
use Rattle.vs_penalty.specs.declared.walkers.Walk.{Walk}
use Rattle.vs_penalty.specs.declared.walkers.Turn.{Turn}
use Rattle.vs_penalty.specs.declared.walkers.Walkers.{Walkers}

-- a checked plan of the instance
abbrev pub IsPlanOf : Problem → Checked → Type 0
IsPlanOf p plan = (plan.problem ≡ p) × IsChecked plan

-- the best plan is one of the instance, and there is an entry for each trip
pub record AreChoices (p : Problem) (choices : Choices) : Type 0 where
  pub best : IfSome choices.best (IsPlanOf p)
  pub pool : choices.pool.trips ≡ length p.trips
  pub chosen : length choices.chosen.items ≡ length p.trips

-- penalties, choices and a mean of multipliers of an instance
pub record IsSeekerFor (p : Problem) (seeker : Seeker) : Type 0 where
  pub penalties : ArePenalties p seeker.penalties
  pub choices : AreChoices p seeker.choices
  pub mean : AreMultipliers p seeker.mean.multipliers.items

-- what plans are sought with: a case, multipliers to begin with, and a seeker of its instance
pub record CanSeek (p : Problem) (graphs : List LayerGraph) (sets : List LayerSet) (first : List ℤ)
    (kept : Seeker) : Type 0 where
  pub case : IsCase p graphs sets
  pub multipliers : AreMultipliers p first
  pub seeker : IsSeekerFor p kept

-- on each of these walks a walker for the instance goes
abbrev pub AreWalks : Problem → List Walk → Type 0
AreWalks p walks = All (λ walk. IsWalkerFor p walk.walker) walks

abbrev pub AreWalkers : Problem → Walkers → Type 0
AreWalkers p walkers = AreWalks p walkers.walks.items

-- what a turn of the walkers begins with: a case, multipliers of its instance, and choices with an entry for each trip
pub record IsTurnIn (p : Problem) (graphs : List LayerGraph) (sets : List LayerSet) (turn : Turn) : Type 0 where
  pub case : IsCase p graphs sets
  pub multipliers : AreMultipliers p turn.multipliers.now
  pub pool : turn.pool.now.trips ≡ length p.trips
