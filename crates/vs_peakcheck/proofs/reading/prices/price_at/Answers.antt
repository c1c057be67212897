use Rattle.vs_peakcheck.proofs.reading.prices.price_at.Goals as goal

pub returns-in-Err-clause-refused : goal.returns-in-Err-clause-refused
returns-in-Err-clause-refused c = λ later.
    c.wrong_price.ensures.price c.args.l.0 c.args.i.0 later c.in-Err.ensures.refused
