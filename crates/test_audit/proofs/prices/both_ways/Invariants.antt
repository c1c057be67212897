use Rattle.test_audit.proofs.prices.both_ways.Given as goal

abbrev pub ghost-broken_for : goal.ghost-broken_for
ghost-broken_for a = a._instance.now
