use Rattle.vs_need.proofs.scratch.Scratch.find_outs.Given as goal

abbrev pub ghost-find : goal.ghost-find
ghost-find g a = g.p
