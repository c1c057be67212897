use Rattle.vs_prices.proofs.PricePlaces.{price_at}
use Rattle.vs_prices.proofs.table.Table.into_price.Goals as goal

pub returns-clause-value : goal.returns-clause-value
returns-clause-value c =
    price_at c.args.instance.now c.args.self.now.into.items c.args.l.0 c.args.i.0 c.trips.result c.index.result.now
    c.requires.layer c.requires.trip
    c.requires.fits.into_size c.requires.fits.into c.trips.ensures.count c.index.ensures
