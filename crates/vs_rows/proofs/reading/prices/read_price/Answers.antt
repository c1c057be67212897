use Rattle.std.proofs.Common.{arith, inl, inr}
use Rattle.vs_rows.proofs.tables.PriceRows.{no_price, no_price_behind, price_of_another, price_range, price_read}
use Rattle.vs_rows.proofs.reading.prices.read_price.Goals as goal
use Rattle.vs_rows.proofs.reading.prices.read_price.Goals.{then-layer-l-via-then-layer-l, then-layer-l-via-else-layer-l+then-trip-i}

pub returns-then-row-len-clause-refused : goal.returns-then-row-len-clause-refused
returns-then-row-len-clause-refused c =
    no_price_behind c.args.input.now c.args.row c.args.l.0 c.args.i.0 c.requires
    (omega (arith, c.if-row-len.true, c.len.ensures))

pub returns-in_default-clause-refused : goal.returns-in_default-clause-refused
returns-in_default-clause-refused c =
    no_price c.args.input.now c.args.row c.args.l.0 c.args.i.0 c.requires c.in_default.ensures.none

pub returns-then-layer-l-clause-refused : goal.returns-then-layer-l-clause-refused
returns-then-layer-l-clause-refused c =
    price_of_another c.args.input.now c.args.row c.args.l.0 (omega (arith, c.if-row-len.false, c.len.ensures))
    c.args.i.0 c.in-Some.layer.0 c.in-Some.trip.0 c.in-Some.into c.in-Some.from c.in-Some.ensures.found
    c.layers.ensures.names c.trips.ensures.names
    (elim c.then-layer-l.branch [
      | then-layer-l-via-then-layer-l w ↦ inl w.if-layer-l.true
      | then-layer-l-via-else-layer-l+then-trip-i w ↦ inr w.if-trip-i.true
    ])

pub returns-in_default-both_in_range-clause-refused : goal.returns-in_default-both_in_range-clause-refused
returns-in_default-both_in_range-clause-refused c =
    price_range c.args.input.now c.args.row c.args.l.0 (omega (arith, c.if-row-len.false, c.len.ensures))
    c.args.i.0 c.in-Some.layer.0 c.in-Some.trip.0 c.in-Some.into c.in-Some.from c.in-Some.ensures.found
    c.if-layer-l.false c.if-trip-i.false c.in_default-both_in_range.ensures

pub returns-clause-found : goal.returns-clause-found
returns-clause-found c =
    let both = c.in-Some-both_in_range.ensures in
    price_read c.args.input.now c.args.row c.args.l.0 (omega (arith, c.if-row-len.false, c.len.ensures)) c.args.i.0
    c.in-Some.layer.0 c.in-Some.trip.0 c.in-Some.into c.in-Some.from c.in-Some.ensures.found c.if-layer-l.false
    c.if-trip-i.false c.in-Some-both_in_range.into c.in-Some-both_in_range.from both.1 both.2 both.0.0 both.0.1
