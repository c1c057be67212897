-- What each move of a layer is worth at most, by the trips.
use Rattle.std.specs.Prelude.{◌≡◌, ℕ, Bool, List, Option, None, Some, slice_index_or, ℤ, neg_ℤ, ◌-ℤ◌}
use Rattle.vs_instance.specs.Problem.{Problem}
use Rattle.vs_instance.specs.Pieces.{out_piece, link_piece, in_piece}
use Rattle.vs_instance.specs.HoldingTable.{scaled}
use Rattle.vs_match.specs.Events.{MayRun}
use Rattle.vs_prices.specs.declared.table.Table.{Table}
use Rattle.vs_prices.specs.Table.{into_price}
use Rattle.vs_need.specs.declared.aim.Aim.{Aim}
use Rattle.vs_need.specs.declared.aim.Aim.TheVariants as aim
use Rattle.vs_need.specs.Greatest.{IsGreatest}

-- x is what entering a trip that i connects to is worth, less the way to it
pub record IsNextWorth (p : Problem) (table : Table) (l i : ℕ) (x : ℤ) : Type 0 where
  pub next : ℕ
  pub piece : ℕ
  pub may_run : MayRun p l next
  pub is_link : link_piece p l i next ≡ Some piece
  pub worth : x ≡ into_price p table l next -ℤ scaled table.ray piece

-- for each trip that layer l may run the greatest of these, for all others none
pub record AreNeeds (p : Problem) (table : Table) (l : ℕ) (answer : List (Option ℤ)) : Type 0 where
  pub permitted : (i : ℕ) → MayRun p l i → IsGreatest (IsNextWorth p table l i) (slice_index_or answer i None)
  pub others : (i : ℕ) → ¬ (MayRun p l i) → slice_index_or answer i None ≡ None

-- x is what a move that there is costs, counted negative
pub record IsPieceWorth (ray : Bool) (found : Option ℕ) (x : ℤ) : Type 0 where
  pub piece : ℕ
  pub is_piece : found ≡ Some piece
  pub worth : x ≡ neg_ℤ (scaled ray piece)

-- for each trip that layer l may run what its move costs, counted negative, for all others none
pub record AreWorths (p : Problem) (l : ℕ) (ray : Bool) (piece : ℕ → Option ℕ) (found : List (Option ℤ)) : Type 0 where
  pub permitted : (i : ℕ) → MayRun p l i → IsGreatest (IsPieceWorth ray (piece i)) (slice_index_or found i None)
  pub others : (i : ℕ) → ¬ (MayRun p l i) → slice_index_or found i None ≡ None

-- what a pass finds
abbrev pub IsFoundFor : Problem → Table → ℕ → Aim → List (Option ℤ) → Type 0
IsFoundFor p table l aim.Next found = AreNeeds p table l found
IsFoundFor p table l aim.PullIn found = AreWorths p l table.ray (in_piece p l) found
IsFoundFor p table l aim.PullOut found = AreWorths p l table.ray (out_piece p l) found
IsFoundFor p table l (aim.After i) found = MayRun p l i.0 → AreWorths p l table.ray (link_piece p l i.0) found
