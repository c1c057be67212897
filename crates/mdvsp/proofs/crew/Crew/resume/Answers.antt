use Rattle.vs_reader.proofs.CallerLemmas.{stands_counts}
use Rattle.mdvsp.proofs.crew.Crew.resume.Goals as goal

pub resume_case-requires-clause-counts : goal.resume_case-requires-clause-counts
resume_case-requires-clause-counts g c lifetimes outlive =
    let input = c.in-Ok.case.input in
    let text = c.in-Ok.ensures.found in
    stands_counts c.args.bytes.now input.instance input.names text.before text.rest text.instance
