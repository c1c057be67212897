-- Pieces of cost against the moves that they pay for.
use Rattle.std.specs.Prelude.{ℕ, ◌↔◌, IsSome}
use Rattle.vs_instance.specs.Problem.{Problem}
use Rattle.vs_instance.specs.Ways.{Connects, HasPullIn, HasPullOut, Rests}
use Rattle.vs_instance.specs.Pieces.{out_piece, link_piece, rest_piece, in_piece}

-- there is a piece of cost exactly where there is its move
pub record PiecesExistWhereMovesDo (p : Problem) : Type 0 where
  pub out : (l i : ℕ) → IsSome (out_piece p l i) ↔ HasPullOut p l i
  pub link : (l i j : ℕ) → IsSome (link_piece p l i j) ↔ Connects p i j
  pub rest : (l i j : ℕ) → IsSome (rest_piece p l i j) ↔ Rests p l i j
  pub back : (l i : ℕ) → IsSome (in_piece p l i) ↔ HasPullIn p l i
