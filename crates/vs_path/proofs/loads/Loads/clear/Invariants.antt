use Rattle.std.proofs.Common.{◌≡◌, ◌<◌, ℕ, [], map}
use Rattle.vs_path.specs.Loads.{listed_at}
use Rattle.vs_path.proofs.loads.Loads.clear.Given as goal

-- the lists so far are empty
abbrev pub invariant-loop-list : goal.invariant-loop-list
invariant-loop-list l = (v : ℕ) → v < l.list-index → listed_at (map (λ list. list.items) l.list-items) v ≡ []
