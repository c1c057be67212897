use Rattle.std.proofs.Common.{◌<◌, ◌++◌, ℤ, length, get_or, ap, ◌∙◌, arith, rules, to_z, of_z, w64, FitsSigned}
use Rattle.std.proofs.lemmas.Int.{to_z-of_z}
use Rattle.std.proofs.lemmas.List.{get_or_default}
use Rattle.vs_reader.specs.Rows.{line}
use Rattle.vs_rows.specs.DocumentRows.{PriceRow}
use Rattle.vs_peakcheck.specs.Counting.{numbered}
use Rattle.vs_peakcheck.specs.PeakRows.{PartRow, written_peak}
use Rattle.vs_peak.specs.Writing.{AddsPeakRow}
use Rattle.vs_peak.proofs.WrittenPeaks.{prices_more}
use Rattle.vs_peak.proofs.writing.write_prices.Goals as goal

pub loop-k-preserved : goal.loop-k-preserved
loop-k-preserved c =
    let names = c.args.names.now in
    let l = c.args.l.0 in
    let trips = c.args.trips.now in
    let k = c.loop-k.k in
    let i = get_or trips k (numbered 0) in
    let a = c.index.result.now in
    let b = c.index-in-loop-k.result.now in
    let text = c.loop-k.text in
    let within : k < length trips = omega (arith, c.loop-k-test.true) in
    let a_fits : FitsSigned w64 a = search rules in
    let b_fits : FitsSigned w64 b = search rules in
    let one : AddsPeakRow names (PartRow (PriceRow l i.0 a b)) text c.write_price.new.text =
    c.in_ok-write_price.ensures
    ∙ ap (λ (z : ℤ). text ++ line (written_peak names (PartRow (PriceRow l i.0 z (to_z w64 (of_z w64 b))))))
    (to_z-of_z w64 a a_fits)
    ∙ ap (λ (z : ℤ). text ++ line (written_peak names (PartRow (PriceRow l i.0 a z)))) (to_z-of_z w64 b b_fits) in
    prices_more names l trips c.args.table.now.into.items c.args.table.now.from.items k i a b c.args.text.now text
    c.write_price.new.text within c.requires.into c.requires.from (get_or_default trips k (numbered 0) i within)
    c.index.ensures c.index-in-loop-k.ensures c.loop-k.invariant one
