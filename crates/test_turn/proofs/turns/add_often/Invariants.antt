use Rattle.std.proofs.Common.{◌≡◌, ◌+◌, ◌≤◌, length}
use Rattle.test_turn.proofs.turns.add_often.Given as goal

abbrev pub invariant-loop-time : goal.invariant-loop-time
invariant-loop-time g l = record {
  turn : l.seat.turn ≡ l.initial.seat.turn;
  tickets : l.seat.tickets ≡ l.initial.seat.tickets;
  made : length l.seat.mine ≡ length l.initial.seat.mine + l.made;
  few : l.made ≤ l.time;
}
