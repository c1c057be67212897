use Rattle.std.proofs.lemmas.Result.{IfErr-weaker}
use Rattle.vs_peakcheck.proofs.rows.RefusedOnce.{refusal_leaves_none}
use Rattle.vs_peakcheck.proofs.reading.text.read.Goals as goal

pub returns-clause-none : goal.returns-clause-none
returns-clause-none c =
    IfErr-weaker c.read_rows.result _ _
    (λ e refused is claimed text. refusal_leaves_none c.args.input.now.instance c.args.input.now.names
    c.layers.ensures.names c.trips.ensures.names c.args.input.now.before c.args.input.now.rest e claimed refused is
    text)
    c.read_rows.ensures.refused
