use Rattle.vs_reader.proofs.CallerLemmas.{stands_counts}
use Rattle.example_judge.proofs.timetable_of.Goals as goal

pub returns-in-Ok : goal.returns-in-Ok
returns-in-Ok c =
    let input = c.in-Ok.input in
    let e = c.in-Ok.ensures in
    record {
      counts = stands_counts c.args.text.now input.instance input.names input.before input.rest e.found;
      counted = e.counted;
    }
