use Rattle.vs_peakcheck.proofs.reading.prices.fleet_at.Goals as goal

pub returns-in-Err-clause-refused : goal.returns-in-Err-clause-refused
returns-in-Err-clause-refused c =
    c.wrong_price.ensures.fleet c.args.l.0 c.args.count c.requires.no_block c.in-Err.ensures.refused
