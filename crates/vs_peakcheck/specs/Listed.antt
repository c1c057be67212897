-- The deadheads of a problem as a list.
use Rattle.std.specs.Prelude.{◌≡◌, ◌≢◌, ℕ, ◌+◌, ◌*◌, ◌<◌, ◌≤◌, ◌==◌, if◌then◌else◌, Bool, List, length, All, AllPairs, Contains, Option, Some, None, option_map}
use Rattle.std.specs.FinMap as map
use Rattle.vs_instance.specs.declared.parts.Deadhead.{Deadhead}
use Rattle.vs_instance.specs.declared.way.Way.{Way}
use Rattle.vs_instance.specs.Misfits.{are_twins}
use Rattle.vs_instance.specs.Problem.{Problem}

-- the way from stop k to stop s as a deadhead
abbrev pub deadhead : ℕ → ℕ → Way → Deadhead
deadhead k s w = record {
  from = record { 0 = k };
  to = record { 0 = s };
  minutes = w.minutes;
  metres = w.metres;
}

-- the deadhead from stop k to another stop s, where it is given
abbrev pub deadhead_given : Problem → ℕ → ℕ → Option Deadhead
deadhead_given p k s = if k == s then None else option_map (deadhead k s) (map.get p.deadheads (k, s))

-- the deadhead is one of the problem
pub record IsGiven (p : Problem) (d : Deadhead) : Type 0 where
  pub from : d.from.0 < p.stops
  pub to : d.to.0 < p.stops
  pub given : map.get p.deadheads (d.from.0, d.to.0) ≡ Some (record { minutes = d.minutes; metres = d.metres })

-- where a pair of stops comes among all pairs
abbrev pub place_of : Problem → ℕ → ℕ → ℕ
place_of p k s = k * p.stops + s

-- all deadheads of the first so many pairs, each once
pub record AreDeadheadsBelow (p : Problem) (places : ℕ) (deadheads : List Deadhead) : Type 0 where
  pub few : length deadheads ≤ places
  pub given : All (IsGiven p) deadheads
  pub before : All (λ d. place_of p d.from.0 d.to.0 < places) deadheads
  pub once : AllPairs (λ d e. are_twins d e ≡ Bool.false) deadheads
  pub all : (k s : ℕ) (w : Way) → k < p.stops → s < p.stops → place_of p k s < places
      → map.get p.deadheads (k, s) ≡ Some w → k ≢ s → Contains deadheads (deadhead k s w)

abbrev pub AreAllDeadheads : Problem → List Deadhead → Type 0
AreAllDeadheads p deadheads = AreDeadheadsBelow p (p.stops * p.stops) deadheads
