use Rattle.vs_crew.specs.Leaves.{HasFound}
use Rattle.vs_crew.specs.Sharing.{IsIdle}
use Rattle.vs_crew.proofs.others.Turns.{turn_entries, turn_knows, turn_left}
use Rattle.vs_crew.proofs.turns.hand_in.Goals as goal

pub finish-requires : goal.finish-requires
finish-requires g c =
    let held = c.hold-held.ensures in
    record {
      found = turn_left c.args.site.now.turn.now.name c.args.site.now.start.now.value c.args.w
          (HasFound c.args.w c.args.leaf c.args.finding)
          c.args.seat c.hold-held.result.seat c.hold-held.result.found c.hold-held.result.value c.value.result.now
          c.requires.found held.seat held.opening held.begins held.unmade held.found c.value.ensures.value;
    }

pub release-seat-requires-clause-entries : goal.release-seat-requires-clause-entries
release-seat-requires-clause-entries g c =
    let held = c.hold-held.ensures in
    turn_entries c.args.site.now.turn.now.name c.args.site.now.start.now.value c.args.w
    (HasFound c.args.w c.args.leaf c.args.finding)
    c.args.seat c.hold-held.result.seat c.hold-held.result.found c.hold-held.result.value c.value.result.now
    c.requires.found held.seat held.opening held.begins held.unmade held.found c.value.ensures.value
    c.finish.new.self c.finish.ensures.steps

pub returns : goal.returns
returns g c =
    let held = c.hold-held.ensures in
    record {
      idle = turn_knows c.args.site.now.turn.now.name c.args.site.now.start.now.value c.args.w
          (HasFound c.args.w c.args.leaf c.args.finding)
          c.args.seat c.hold-held.result.seat c.hold-held.result.found c.hold-held.result.value c.value.result.now
          c.requires.found held.seat held.opening held.begins held.unmade held.found c.value.ensures.value
          c.finish.new.self c.finish.ensures.steps (IsIdle c.args.w) c.release-seat.result
          c.finish.ensures.idle c.release-seat.ensures.seat c.release-seat.ensures.knows;
    }
