use Rattle.vs_need.proofs.finding.needs.Given as goal

abbrev pub ghost-find_nexts : goal.ghost-find_nexts
ghost-find_nexts g a = g.p
