use Rattle.vs_prices.proofs.UnratedTables.{is_also_ray}
use Rattle.vs_prices.proofs.table_worth.unrated_tables_are_rays.Goals as goal

pub returns : goal.returns
returns c = is_also_ray
