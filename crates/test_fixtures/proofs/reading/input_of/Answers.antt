use Rattle.vs_reader.proofs.CallerLemmas.{stands_counts}
use Rattle.test_fixtures.proofs.reading.input_of.Goals as goal

pub returns-in-Ok-clause-counts : goal.returns-in-Ok-clause-counts
returns-in-Ok-clause-counts c =
    let input = c.in-Ok.input in
    stands_counts _ input.instance input.names input.before input.rest c.in-Ok.ensures.found
