use Rattle.vs_need.proofs.judging.broken_move.Given as goal

abbrev pub ghost-find_outs : goal.ghost-find_outs
ghost-find_outs g a = g.p

abbrev pub ghost-find_nexts : goal.ghost-find_nexts
ghost-find_nexts g a = g.p

abbrev pub ghost-find_ins : goal.ghost-find_ins
ghost-find_ins g a = g.p

abbrev pub ghost-first_suspect : goal.ghost-first_suspect
ghost-first_suspect g a = g.p

abbrev pub ghost-find_links : goal.ghost-find_links
ghost-find_links g a = g.p

abbrev pub ghost-first_link : goal.ghost-first_link
ghost-first_link g a = g.p
