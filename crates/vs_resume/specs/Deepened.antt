-- What a solver finds in a part of an instance.
use Rattle.std.specs.Prelude.{◌≡◌, ℕ, ◌≤◌, None}
use Rattle.vs_instance.specs.Problem.{Problem}
use Rattle.vs_tree.specs.Search.{Search, state}
use Rattle.vs_tree.specs.Takes.{IsOver}
use Rattle.vs_cert.specs.AnswerLaws.{EachReachesTheStart}

-- A search of the part with this budget that began with no plan. Once it finished some node, each of its leaves is
-- worth no less than the value at the starting multipliers.
pub record IsBegunOn (p : Problem) (nodes : ℕ) (t : Search) : Type 0 where
  pub problem : t.opening.problem ≡ p
  pub budget : t.opening.budget ≡ nodes
  pub first : t.opening.first ≡ None
  pub reaches : 1 ≤ (state t).finished → EachReachesTheStart t.opening (state t)

-- A search of the part with this budget that began with no plan and is over. It finished some node, and each of its
-- leaves is worth no less than the value at the starting multipliers.
pub record IsDeepened (p : Problem) (nodes : ℕ) (t : Search) : Type 0 where
  pub problem : t.opening.problem ≡ p
  pub budget : t.opening.budget ≡ nodes
  pub first : t.opening.first ≡ None
  pub over : IsOver t.opening (state t)
  pub some : 1 ≤ (state t).finished
  pub reaches : EachReachesTheStart t.opening (state t)
