use Rattle.vs_reader.proofs.CallerLemmas.{stands_counts}
use Rattle.vs_reply.proofs.owing.OwedAnswers.{network_refusal_owed, sizes_owed}
use Rattle.vs_reply.proofs.network.answer_network.Goals as goal

pub sizes_of-requires : goal.sizes_of-requires
sizes_of-requires c =
    let found = c.in-Ok.ensures.found in
    stands_counts c.args.bytes.now c.in-Ok.timetable.instance c.in-Ok.timetable.names found.0 found.1 found.2

pub returns-in-Ok : goal.returns-in-Ok
returns-in-Ok c =
    let timetable = c.in-Ok.timetable in
    let found = c.in-Ok.ensures.found in
    sizes_owed c.args.bytes.now timetable.instance timetable.names c.sizes_of.result
    (record { before = found.0; rest = found.1; instance = found.2 }) c.sizes_of.ensures

pub returns-in-Err : goal.returns-in-Err
returns-in-Err c =
    network_refusal_owed c.args.bytes.now c.no_instance.result
    (c.no_instance.ensures c.args.bytes.now c.in-Err.ensures.refused)
