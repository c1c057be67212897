use Rattle.vs_rows.proofs.CallerLemmas.{err_weaker, ok_weaker}
use Rattle.vs_trace.proofs.AlikeTraces.{traces_alike}
use Rattle.vs_trace.proofs.RefusedOnce.{refusal_leaves_none}
use Rattle.vs_trace.proofs.reading.whole.read.Goals as goal

pub returns-clause-only : goal.returns-clause-only
returns-clause-only c =
    ok_weaker c.read_rows.result _ _ c.read_rows.ensures.found
    (λ t text other is. traces_alike c.args.input.now.instance c.args.input.now.names c.layers.ensures.names
    c.trips.ensures.names c.args.input.now.rest t other text is)

pub returns-clause-none : goal.returns-clause-none
returns-clause-none c =
    err_weaker c.read_rows.result _ _ c.read_rows.ensures.refused
    (λ e refused is t text. refusal_leaves_none c.args.input.now.instance c.args.input.now.names
    c.layers.ensures.names c.trips.ensures.names c.args.input.now.before c.args.input.now.rest e t refused is text)
