use Rattle.vs_need.proofs.judging.broken_in_layer.Given as goal

abbrev pub ghost-broken_move : goal.ghost-broken_move
ghost-broken_move g a = g.p
