use Rattle.std.proofs.Common.{◌+◌, length, ap, ◌∙◌, arith}
use Rattle.vs_turn.specs.Seats.{SeatModel}
use Rattle.vs_turn.specs.Tickets.{without_highest, only_highest}
use Rattle.vs_turn.proofs.CallerLemmas.{length-tickets_from, without_highest-all, only_highest-all}
use Rattle.test_turn.proofs.turns.split_off.Goals as goal

pub split-requires-clause-two : goal.split-requires-clause-two
split-requires-clause-two c =
    let count = ap length c.requires.tickets ∙ length-tickets_from 0 (c.args.maker + 1) in
    let some = c.requires.some in
    omega arith

pub returns-clause-first : goal.returns-clause-first
returns-clause-first c =
    let is = c.split.ensures.first in
    record {
      of_turn = ap (λ (s : SeatModel). s.turn) is ∙ c.requires.turn;
      tickets_are = ap (λ (s : SeatModel). s.tickets) is
          ∙ (ap without_highest c.requires.tickets ∙ without_highest-all c.args.maker);
      none_made = ap (λ (s : SeatModel). s.mine) is ∙ c.requires.none_made;
    }

pub returns-clause-second : goal.returns-clause-second
returns-clause-second c =
    let is = c.split.ensures.second in
    record {
      of_turn = ap (λ (s : SeatModel). s.turn) is ∙ c.requires.turn;
      tickets_are = ap (λ (s : SeatModel). s.tickets) is
          ∙ (ap only_highest c.requires.tickets ∙ only_highest-all c.args.maker);
      none_made = ap (λ (s : SeatModel). s.mine) is ∙ c.requires.none_made;
    }
