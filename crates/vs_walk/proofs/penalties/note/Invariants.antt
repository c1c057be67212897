use Rattle.std.proofs.Common.{◌≡◌, ℕ, ◌<◌, ◌≤◌, length, false, get_or}
use Rattle.vs_instance.specs.Restriction.{set_of}
use Rattle.vs_walk.specs.Noted.{IsNoted}
use Rattle.vs_walk.proofs.penalties.note.Given as goal

-- the trips so far are noted, and the others not yet
abbrev pub invariant-loop-i : goal.invariant-loop-i
invariant-loop-i l = record {
  each_trip : length l.runs ≡ length l.fn.runs;
  done : (j : ℕ) → j < l.i → IsNoted l.l.0 (get_or l.marks j false) (set_of l.fn.runs j) (set_of l.runs j);
  rest : (j : ℕ) → l.i ≤ j → set_of l.runs j ≡ set_of l.fn.runs j;
}
