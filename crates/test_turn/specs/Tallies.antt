-- What is said of the tally that the tests share.
use Rattle.std.specs.Prelude.{◌≡◌, ℕ, ◌*◌, ◌≤◌, Bool, if◌then◌else◌, List, [], ◌∷◌, ◌++◌, length}
use Rattle.atomic_table.specs.Seated.{TableId}
use Rattle.vs_turn.specs.Seats.{SeatModel}

-- the amounts after an amount was added, or wasn't
abbrev pub amounts_after : Bool → List (ℕ × ℕ) → ℕ × ℕ → List (ℕ × ℕ)
amounts_after added amounts amount = if added then amounts ++ amount ∷ [] else amounts

-- a seat of this turn with so many tickets that has made so many entries, at most so often for each ticket
pub record HasMade (turn : TableId) (times tickets : ℕ) (r : SeatModel × ℕ) : Type 0 where
  pub of_turn : r.0.turn ≡ turn
  pub count : length r.0.tickets ≡ tickets
  pub made : length r.0.mine ≡ r.1
  pub most : r.1 ≤ times * tickets
