-- Tables that differ only by where they are stored.
use Rattle.std.specs.Prelude.{◌≡◌}
use Rattle.vs_prices.specs.declared.table.Table.{Table}

pub record AreSame (table copy : Table) : Type 0 where
  pub into : copy.into.items ≡ table.into.items
  pub from : copy.from.items ≡ table.from.items
  pub fleet : copy.fleet.items ≡ table.fleet.items
  pub ray : copy.ray ≡ table.ray
