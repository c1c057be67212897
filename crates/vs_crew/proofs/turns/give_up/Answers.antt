use Rattle.vs_crew.specs.Sharing.{HasLeft, IsHolding}
use Rattle.vs_crew.proofs.others.Turns.{turn_entries, turn_knows, turn_left}
use Rattle.vs_crew.proofs.turns.give_up.Goals as goal

pub give_back-requires : goal.give_back-requires
give_back-requires g c =
    let held = c.hold-held.ensures in
    record {
      holds = turn_left c.args.site.now.turn.now.name c.args.site.now.start.now.value c.args.w (IsHolding c.args.w)
          c.args.seat c.hold-held.result.seat c.hold-held.result.found c.hold-held.result.value c.value.result.now
          c.requires.holds held.seat held.opening held.begins held.unmade held.found c.value.ensures.value;
    }

pub release-seat-requires-clause-entries : goal.release-seat-requires-clause-entries
release-seat-requires-clause-entries g c =
    let held = c.hold-held.ensures in
    turn_entries c.args.site.now.turn.now.name c.args.site.now.start.now.value c.args.w (IsHolding c.args.w)
    c.args.seat c.hold-held.result.seat c.hold-held.result.found c.hold-held.result.value c.value.result.now
    c.requires.holds held.seat held.opening held.begins held.unmade held.found c.value.ensures.value
    c.give_back.new.self c.give_back.ensures.steps

pub returns : goal.returns
returns g c =
    let held = c.hold-held.ensures in
    record {
      left = turn_knows c.args.site.now.turn.now.name c.args.site.now.start.now.value c.args.w (IsHolding c.args.w)
          c.args.seat c.hold-held.result.seat c.hold-held.result.found c.hold-held.result.value c.value.result.now
          c.requires.holds held.seat held.opening held.begins held.unmade held.found c.value.ensures.value
          c.give_back.new.self c.give_back.ensures.steps (HasLeft c.args.w) c.release-seat.result
          c.give_back.ensures.left c.release-seat.ensures.seat c.release-seat.ensures.knows;
    }
