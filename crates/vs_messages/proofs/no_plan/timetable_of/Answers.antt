use Rattle.vs_reader.proofs.CallerLemmas.{stands_counts}
use Rattle.vs_messages.proofs.no_plan.timetable_of.Goals as goal

pub returns-in-Ok : goal.returns-in-Ok
returns-in-Ok c =
    let timetable = c.in-Ok.timetable in
    let found = c.in-Ok.ensures.found in
    stands_counts c.args.input.now timetable.instance timetable.names found.0 found.1 found.2
