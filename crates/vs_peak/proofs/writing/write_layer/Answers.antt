use Rattle.std.proofs.Common.{◌≡◌, ◌<◌, pos, List, length, subst, ◌∙◌, arith, rules, to_z, of_z, w64, FitsSigned}
use Rattle.std.proofs.lemmas.Int.{to_z-of_z}
use Rattle.std.proofs.lemmas.List.{get_or_default}
use Rattle.vs_instance.specs.HoldingTable.{price_of}
use Rattle.vs_plan.specs.declared.block.Block.{Block}
use Rattle.vs_peak.specs.Writing.{AddsPeakRows, own_rows}
use Rattle.vs_peak.proofs.WrittenPeaks.{layer_written, trips_named}
use Rattle.vs_peak.proofs.writing.write_layer.Goals as goal

pub write_blocks-requires-clause-trips : goal.write_blocks-requires-clause-trips
write_blocks-requires-clause-trips c =
    trips_named c.args.instance.now c.args.l.0 c.args.trips.now (length c.args.names.now.trips) c.requires.trips
    c.requires.names.trips

pub write_prices-requires-clause-trips : goal.write_prices-requires-clause-trips
write_prices-requires-clause-trips c =
    trips_named c.args.instance.now c.args.l.0 c.args.trips.now (length c.args.names.now.trips) c.requires.trips
    c.requires.names.trips

pub returns : goal.returns
returns c =
    let names = c.args.names.now in
    let claimed = c.args.claimed.now in
    let fleet = c.index.result.now in
    let fleets = claimed.table.fleet.items in
    let fits : FitsSigned w64 fleet = search rules in
    let some : 0 < length fleets = omega (arith, c.requires.claimed.fits.fleet_size) in
    let fleet_is : to_z w64 (of_z w64 fleet) ≡ price_of fleets 0 =
    to_z-of_z w64 fleet fits ∙ c.index.ensures ∙ get_or_default fleets 0 fleet (pos 0) some in
    let Blocks : List Block → Type 0 = λ bs. AddsPeakRows names (own_rows c.args.l c.args.trips.now bs)
    c.write_count.new.text c.write_blocks.new.text in
    layer_written names c.args.instance.now c.args.l c.args.trips.now claimed (to_z w64 (of_z w64 fleet))
    c.args.text.now c.write_count.new.text c.write_blocks.new.text c.write_fleet.new.text c.write_prices.new.text
    c.requires.trips c.requires.claimed fleet_is c.in_ok-write_count.ensures
    (subst Blocks c.deref.ensures.value c.in_ok-write_blocks.ensures) c.in_ok-write_fleet.ensures
    c.in_ok-write_prices.ensures
