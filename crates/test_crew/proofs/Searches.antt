-- What is known of searches that have just begun.
use Rattle.std.proofs.Common.{ℕ, []}
use Rattle.vs_tree.specs.History.{IsAmong}

-- none is among none
pub none-gone : (worker : ℕ) → ¬ (IsAmong worker [])
none-gone worker (k, is) = absurd cc
