use Rattle.vs_need.proofs.judging.broken_for.Given as goal

abbrev pub ghost-broken_fast : goal.ghost-broken_fast
ghost-broken_fast g a = g.p
