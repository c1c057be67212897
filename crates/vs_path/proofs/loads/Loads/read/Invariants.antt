use Rattle.std.proofs.Common.{◌≡◌, ◌<◌, ℕ, get_or, true}
use Rattle.vs_path.specs.Loads.{AreByNode, IsListed, lists_in}
use Rattle.vs_path.proofs.loads.Loads.read.Given as goal

-- the arcs so far are listed
abbrev pub invariant-loop-k : goal.invariant-loop-k
invariant-loop-k l = record {
  by_node : AreByNode l.net (lists_in l.self);
  all : l.self.complete ≡ true → (j : ℕ) → j < l.k → 0 < get_or l.units j 0 → IsListed l.net (lists_in l.self) j;
}
