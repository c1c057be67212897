use Rattle.std.proofs.Common.{[], ◌∷◌}
use Rattle.std.specs.Prelude.{codes, decimal}
use Rattle.std.proofs.lemmas.Result.{IfOk-equal}
use Rattle.vs_reply.specs.Network.{count_fields, rest_fields}
use Rattle.vs_reply.proofs.written.RowsInParts.{row_in_more_parts}
use Rattle.vs_reply.proofs.net_rows.write_sizes.Goals as goal

pub returns : goal.returns
returns c =
    IfOk-equal c.end_row.result _ _ _ c.end_row.ensures
    (row_in_more_parts c.args.text.now _ _ _ _ (codes "network") (c.args.layer.now ∷ c.args.net.now ∷ [])
    (count_fields c.args.counts) (decimal c.args.full) (rest_fields c.args.stay c.args.counts)
    c.in_ok-begin_sizes.ensures c.in_ok-write_counts.ensures c.in_ok-number.ensures c.in_ok-write_rests.ensures)
