use Rattle.vs_peakcheck.specs.Places.{AtBlocks, AtPrices}
use Rattle.vs_peakcheck.proofs.rows.OtherKinds.{no_fleet, no_price}
use Rattle.vs_peakcheck.proofs.rows.PricedRows.{fleet_range, price_range}
use Rattle.vs_peakcheck.proofs.reading.prices.wrong_price.Goals as goal

pub returns-in-Another : goal.returns-in-Another
returns-in-Another c =
    let input = c.args.input.now in
    record {
      fleet = λ l count ended wrong.
          let other = rw c.in-Another.is at wrong in
          c.another_row.ensures (AtBlocks l count) (λ e. cc) (no_fleet input c.args.row l count ended other);
      price = λ l i later wrong.
          let other = rw c.in-Another.is at wrong in
          c.another_row.ensures (AtPrices l i later) (λ e. cc) (no_price input c.args.row l i later other);
    }

pub returns-in-Range : goal.returns-in-Range
returns-in-Range c =
    let input = c.args.input.now in
    record {
      fleet = λ l count ended wrong.
          rw c.refusal.ensures (fleet_range input c.args.row l count (rw c.in-Range.is at wrong));
      price = λ l i later wrong.
          rw c.refusal.ensures (price_range input c.args.row l i later (rw c.in-Range.is at wrong));
    }
