use Rattle.vs_need.proofs.scratch.Scratch.find_ins.Given as goal

abbrev pub ghost-find : goal.ghost-find
ghost-find g a = g.p
