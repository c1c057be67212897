use Rattle.vs_document.proofs.alike.AlikeDocuments.{alike}
use Rattle.vs_rows.proofs.CallerLemmas.{err_weaker, ok_weaker}
use Rattle.vs_document.proofs.rows.RefusedOnce.{refusal_leaves_none}
use Rattle.vs_document.proofs.reading.document.read.Goals as goal

pub returns-clause-only : goal.returns-clause-only
returns-clause-only c =
    ok_weaker c.read_rows.result _ _ c.read_rows.ensures.found
    (λ d text other is. alike c.args.input.now.instance c.args.input.now.names c.args.input.now.rest d other
    c.layers.ensures.names c.trips.ensures.names text is)

pub returns-clause-none : goal.returns-clause-none
returns-clause-none c =
    err_weaker c.read_rows.result _ _ c.read_rows.ensures.refused
    (λ e refused is d text. refusal_leaves_none c.args.input.now.instance c.args.input.now.names c.layers.ensures.names
    c.trips.ensures.names c.args.input.now.before c.args.input.now.rest e d refused is text)
