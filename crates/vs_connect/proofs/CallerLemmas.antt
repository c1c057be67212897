-- What the crates above cite of this crate's proofs: a piece of cost exists exactly where its move does.
use Rattle.std.proofs.Common.{rules}
use Rattle.vs_instance.specs.Problem.{Problem}
use Rattle.vs_connect.specs.Laws.{PiecesExistWhereMovesDo}

-- the law of pieces and moves, for proofs in the crates above
pub pieces_exist : (p : Problem) → PiecesExistWhereMovesDo p
pieces_exist p = search rules
