use Rattle.vs_rows.proofs.words.Numbers.{Reads}
use Rattle.vs_rows.proofs.numbers.natural.Given as goal

abbrev pub invariant-loop-i : goal.invariant-loop-i
invariant-loop-i l = Reads l.digits l.i l.n
