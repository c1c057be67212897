-- What the crates above cite of the proofs here.
--
-- of a layer's net, its nodes, arcs and walks
pub use Rattle.vs_match.proofs.composition.NetEnds.{no_point_at_first}
pub use Rattle.vs_match.proofs.events.Places.{placed}
pub use Rattle.vs_match.proofs.matches.TripIndexes.{get_or-copies, trip_number-is}
pub use Rattle.vs_match.proofs.order.RightArcs.{no_fault}
pub use Rattle.vs_match.proofs.walks.WaitingChains.{path_cost-append}
-- of circulations that are divided into blocks
pub use Rattle.vs_match.proofs.decomposition.FlowSums.{as_one, times, times-first}
pub use Rattle.vs_match.proofs.decomposition.UnitSteps.{moved, one_more, some_stands, step}
pub use Rattle.vs_match.proofs.decomposition.Arriving.{all_reached, arrived, done_first, last_of_some, stands_first, under_first}
pub use Rattle.vs_match.proofs.decomposition.Dividing.{block_in, blocks_along, circulation_decomposes, decompose}
