use Rattle.std.proofs.Common.{◌∷◌}
use Rattle.vs_document.specs.Places.{InTable}
use Rattle.vs_document.proofs.parts.PricePlaces.{price_elsewhere, price_range}
use Rattle.vs_document.proofs.reading.prices.wrong_price.Goals as goal

pub returns-in-Another : goal.returns-in-Another
returns-in-Another c = λ n price later wrong.
    let input = c.args.input.now in
    let other = rw c.in-Another.is at wrong in
    c.another_row.ensures (InTable n (price ∷ later)) (λ e. cc) (λ said. tt)
    (λ said says. price_elsewhere input.instance n price later said (other.1 said says))

pub returns-in-Range : goal.returns-in-Range
returns-in-Range c = λ n price later wrong.
    rw c.refusal.ensures
    (price_range c.args.input.now n c.args.row price later (rw c.in-Range.is at wrong))
