-- What crates above cite of these proofs.
pub use Rattle.vs_node.proofs.searches.WorkedSearches.{worked_searches_reach_the_start}
pub use Rattle.vs_node.proofs.tables.Comparing.{worth_no_less-by, worth_no_less-itself, worth_no_less-trans}
