use Rattle.vs_replay.proofs.finishing.table_holds.Given as goal

abbrev pub ghost-broken_for : goal.ghost-broken_for
ghost-broken_for a = a._instance.now
