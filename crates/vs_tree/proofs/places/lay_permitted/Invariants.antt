use Rattle.std.proofs.Common.{◌≡◌, ℕ, ◌<◌, ◌≤◌}
use Rattle.vs_instance.specs.Restriction.{set_of}
use Rattle.vs_tree.specs.Cuts.{laid}
use Rattle.vs_tree.proofs.places.lay_permitted.Given as goal

-- the sets before are written, and the others as they were
abbrev pub invariant-loop-i : goal.invariant-loop-i
invariant-loop-i l = record {
  before : (k : ℕ) → k < l.i → set_of l.sets k ≡ laid (set_of l.fn.sets k) (set_of l.permitted k);
  after : (k : ℕ) → l.i ≤ k → set_of l.sets k ≡ set_of l.fn.sets k;
}
