use Rattle.vs_prices.proofs.Rounding.{next_rounded, whole_rounded}
use Rattle.vs_prices.proofs.table_worth.rounded_up.Goals as goal

pub returns-then-value-scale-gt0 : goal.returns-then-value-scale-gt0
returns-then-value-scale-gt0 c =
    next_rounded c.args.value c.from-scale.result c.ranges.value c.from-scale.ensures c.if-value-scale-gt0.true

pub returns-else-value-scale-gt0 : goal.returns-else-value-scale-gt0
returns-else-value-scale-gt0 c =
    whole_rounded c.args.value c.from-scale.result c.ranges.value c.from-scale.ensures c.if-value-scale-gt0.false
