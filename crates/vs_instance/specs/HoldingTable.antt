-- When the prices of one layer are no higher than its moves allow.
use Rattle.std.specs.Prelude.{ℕ, ◌*◌, ◌<◌, Bool, if◌then◌else◌, List, length, IfSome, slice_index_or, ℤ, pos, ◌+ℤ◌, ◌≤ℤ◌}
use Rattle.vs_instance.specs.Problem.{Problem}
use Rattle.vs_instance.specs.Ways.{Permitted}
use Rattle.vs_instance.specs.Pieces.{out_piece, link_piece, in_piece}

-- a piece of cost in 1/1000 of a cost unit; in a ray every piece counts nothing
abbrev pub scaled : Bool → ℕ → ℤ
scaled ray piece = if ray then pos 0 else pos (1000 * piece)

-- the price of trip i
abbrev pub price_of : List ℤ → ℕ → ℤ
price_of prices i = slice_index_or prices i (pos 0)

-- The prices for entering and for leaving each trip, and for a vehicle, hold in layer l. Over all trips i and j
-- permitted there, no move from
-- the depot into a trip, from a trip into another, or from a trip back to the depot is worth more than it costs.
pub record HoldsInLayer (p : Problem) (l : ℕ) (ray : Bool) (into from : List ℤ) (fleet : ℤ) : Type 0 where
  pub vehicle : pos 0 ≤ℤ fleet
  pub outs : (i : ℕ) → i < length p.trips → Permitted p l i
      → IfSome (out_piece p l i) (λ c. price_of into i ≤ℤ (scaled ray c +ℤ fleet))
  pub links : (i j : ℕ) → i < length p.trips → j < length p.trips → Permitted p l i → Permitted p l j
      → IfSome (link_piece p l i j) (λ c. price_of into j ≤ℤ (price_of from i +ℤ scaled ray c))
  pub ins : (i : ℕ) → i < length p.trips → Permitted p l i
      → IfSome (in_piece p l i) (λ c. pos 0 ≤ℤ (price_of from i +ℤ scaled ray c))
