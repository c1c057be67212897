use Rattle.vs_crew.proofs.others.FirstSeats.{IsGiven}
use Rattle.vs_crew.proofs.crew.give_seats.Given as goal

-- the workers from k on have their seats, and the seat is for those below
abbrev pub invariant-loop-k : goal.invariant-loop-k
invariant-loop-k g l =
    IsGiven l.site.turn.now.name l.site.start.now.value l.site.instance.now l.k l.crew l.seat
