use Rattle.std.proofs.Common.{◌≡◌, ℕ, ◌<◌, ◌↔◌, true, false, get_or}
use Rattle.vs_circ.specs.Circulations.{RunTrip}
use Rattle.vs_circ.proofs.running.mark.Given as goal

-- the trips so far are marked exactly where they run
abbrev pub invariant-loop-i : goal.invariant-loop-i
invariant-loop-i l = (j : ℕ) → j < l.i → (get_or l.answer j false ≡ true) ↔ RunTrip l.net l.units j
