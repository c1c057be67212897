use Rattle.vs_reader.proofs.CallerLemmas.{stands_counts}
use Rattle.vs_peak.proofs.PeaksOwed.{peaks_owed, refusal_owed}
use Rattle.vs_peak.proofs.answering.answer_peak.Goals as goal

pub peaks_of-requires : goal.peaks_of-requires
peaks_of-requires c =
    let found = c.in-Ok.ensures.found in
    stands_counts c.args.bytes.now c.in-Ok.timetable.instance c.in-Ok.timetable.names found.0 found.1 found.2

pub returns-in-Ok : goal.returns-in-Ok
returns-in-Ok c =
    let timetable = c.in-Ok.timetable in
    let found = c.in-Ok.ensures.found in
    peaks_owed c.args.bytes.now timetable.instance timetable.names c.peaks_of.result
    (record { before = found.0; rest = found.1; instance = found.2 })
    (stands_counts c.args.bytes.now timetable.instance timetable.names found.0 found.1 found.2) c.peaks_of.ensures

pub returns-in-Err : goal.returns-in-Err
returns-in-Err c =
    refusal_owed c.args.bytes.now c.no_instance.result
    (c.no_instance.ensures c.args.bytes.now c.in-Err.ensures.refused)
