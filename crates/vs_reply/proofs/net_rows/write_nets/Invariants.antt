use Rattle.vs_reply.proofs.written.NetworkRows.{HasRowsBelow}
use Rattle.vs_reply.proofs.net_rows.write_nets.Given as goal

-- the rows of the layers so far are written
abbrev pub invariant-loop-l : goal.invariant-loop-l
invariant-loop-l l = HasRowsBelow l.instance l.names l.l l.fn.text l.text
