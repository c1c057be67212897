use Rattle.vs_trace.proofs.reading.said.said_at.Goals as goal

pub returns-in-Some-begin_said-clause-says : goal.returns-in-Some-begin_said-clause-says
returns-in-Some-begin_said-clause-says c = c.in-Some-begin_said.ensures.says c.args.input.now.names
