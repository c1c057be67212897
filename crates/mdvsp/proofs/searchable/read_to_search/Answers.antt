use Rattle.std.proofs.Common.{sym}
use Rattle.vs_reader.proofs.CallerLemmas.{stands_counts}
use Rattle.mdvsp.proofs.owing.SearchOwed.{refusal_searched, too_large_searched}
use Rattle.mdvsp.proofs.searchable.read_to_search.Goals as goal

pub returns-in-Some : goal.returns-in-Some
returns-in-Some c =
    let timetable = c.in-Ok.timetable in
    let found = c.in-Ok.ensures.found in
    record {
      text = record { before = found.0; rest = found.1; instance = found.2 };
      counts = stands_counts c.args.bytes.now timetable.instance timetable.names found.0 found.1 found.2;
      budget_is = sym c.in-Some.ensures.budget;
      few = c.in-Some.ensures.few;
    }

pub returns-in_ok-too_large-in-None : goal.returns-in_ok-too_large-in-None
returns-in_ok-too_large-in-None c =
    let timetable = c.in-Ok.timetable in
    let found = c.in-Ok.ensures.found in
    too_large_searched c.args.effort c.args.bytes.now c.in_ok-too_large-in-None.too_large timetable.instance
    timetable.names
    (record { before = found.0; rest = found.1; instance = found.2 })
    (sym c.in-None.ensures.budget) c.in_ok-too_large-in-None.ensures

pub returns-in_ok-refusal-in-Err : goal.returns-in_ok-refusal-in-Err
returns-in_ok-refusal-in-Err c =
    refusal_searched c.args.effort c.args.bytes.now c.in_ok-refusal-in-Err.refusal
    (c.in_ok-refusal-in-Err.ensures c.args.bytes.now c.in-Err.ensures.refused)
