use Rattle.vs_trace.proofs.AlikeTraces.{traces_alike}
use Rattle.vs_trace.proofs.read_laws.traces_of_rows_are_alike.Goals as goal

pub returns : goal.returns
returns c = λ p names rows t u layers trips one two. traces_alike p names layers trips rows t u one two
