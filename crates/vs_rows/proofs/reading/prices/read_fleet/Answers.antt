use Rattle.std.proofs.Common.{arith}
use Rattle.vs_rows.proofs.tables.PriceRows.{fleet_of_another, fleet_range, fleet_read, no_fleet, no_fleet_behind}
use Rattle.vs_rows.proofs.reading.prices.read_fleet.Goals as goal

pub returns-then-row-len-clause-refused : goal.returns-then-row-len-clause-refused
returns-then-row-len-clause-refused c =
    no_fleet_behind c.args.input.now c.args.row c.args.l.0 c.requires (omega (arith, c.if-row-len.true, c.len.ensures))

pub returns-in_default-clause-refused : goal.returns-in_default-clause-refused
returns-in_default-clause-refused c =
    no_fleet c.args.input.now c.args.row c.args.l.0 c.requires c.in_default.ensures.none

pub returns-then-layer-l-clause-refused : goal.returns-then-layer-l-clause-refused
returns-then-layer-l-clause-refused c =
    fleet_of_another c.args.input.now c.args.row c.args.l.0 (omega (arith, c.if-row-len.false, c.len.ensures))
    c.in-Some.layer.0 c.in-Some.price c.in-Some.ensures.found c.layers.ensures.names c.trips.ensures.names
    c.if-layer-l.true

pub returns-in_default-in_range-clause-refused : goal.returns-in_default-in_range-clause-refused
returns-in_default-in_range-clause-refused c =
    fleet_range c.args.input.now c.args.row c.args.l.0 (omega (arith, c.if-row-len.false, c.len.ensures))
    c.in-Some.layer.0 c.in-Some.price c.in-Some.ensures.found c.if-layer-l.false c.in_default-in_range.ensures

pub returns-clause-found : goal.returns-clause-found
returns-clause-found c =
    fleet_read c.args.input.now c.args.row c.args.l.0 (omega (arith, c.if-row-len.false, c.len.ensures))
    c.in-Some.layer.0 c.in-Some.price c.in-Some.ensures.found c.if-layer-l.false c.in-Some-in_range.price
    c.in-Some-in_range.ensures.1 c.in-Some-in_range.ensures.0
