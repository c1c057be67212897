use Rattle.std.proofs.Common.{◌∷◌}
use Rattle.vs_reader.specs.Rows.{row_of}
use Rattle.vs_trace.specs.Places.{InTable}
use Rattle.vs_trace.proofs.PricePlaces.{no_price_order, price_range}
use Rattle.vs_trace.proofs.reading.wrong.wrong_price.Goals as goal

pub returns-in-Another : goal.returns-in-Another
returns-in-Another c = λ n price later wrong.
    let input = c.args.input.now in
    let other = rw c.in-Another.is at wrong in
    c.another_row.ensures (InTable n (price ∷ later)) (λ e. cc)
    (no_price_order input.instance n input.names (row_of input.rest c.args.row) price later other.1)

pub returns-in-Range : goal.returns-in-Range
returns-in-Range c = λ n price later wrong.
    rw c.refusal.ensures
    (price_range c.args.input.now n c.args.row price later (rw c.in-Range.is at wrong))
