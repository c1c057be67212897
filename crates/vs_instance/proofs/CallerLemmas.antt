-- What the crates above cite of this crate's proofs.
-- what an instance tells of its parts
pub use Rattle.vs_instance.proofs.Known.{layer_of-IsLayer, rated-below, trip_of-IsTrip, way-other, way-within}
-- what pieces of cost come to, as often as there are trips
pub use Rattle.vs_instance.proofs.costs.DearestPieces.{dearest-below, fixed-rated-payable, in_payable, multiplier-least, multiplier-most, out_payable, payable-≤, rated-payable, trip_payable}
-- the restriction that restricts nothing
pub use Rattle.vs_instance.proofs.PermittedSets.{permitted_sets-IsRestriction, plans_lie_within, set_of-permitted_sets}
-- the first of what is wrong
pub use Rattle.vs_instance.proofs.misfits.Firsts.{first-skip, first-stop, first_below, first_below-found, first_below-past, first_below-step, first_from, first_from-here, first_from-more, first_from-past, none_from_first}
-- what holds of all that is wrong
pub use Rattle.vs_instance.proofs.misfits.FirstHolds.{All-each, All-numbers, All-when, first_holds}
-- lists in which nothing stands
pub use Rattle.vs_instance.proofs.misfits.Empty.{None, both_none, each_none, false_from_none, none-append, none_each, none_from_false, none_numbers, number_none}
-- deadheads, put one by one into the ways
pub use Rattle.vs_instance.proofs.misfits.Given.{given_all, own_way}
-- what a refusal tells
pub use Rattle.vs_instance.proofs.misfits.Judged.{refuses}
-- pieces of cost that there are
pub use Rattle.vs_instance.proofs.costs.PieceLemmas.{in_taken, out_taken}
-- links, straight or by the depot
pub use Rattle.vs_instance.proofs.costs.Links.{IsRest, link_taken, rest_taken}
-- what a block costs, by its pieces
pub use Rattle.vs_instance.proofs.costs.BlockPieces.{IsChain, blocks_cost_their_pieces, chain_of_block, first_of_chain, last_of-is, last_of_chain, last_trip, links_cost, trips_cost}
-- totals over trips and blocks
pub use Rattle.vs_instance.proofs.costs.Totals.{same_totals, total-by_count, total-map_add, total-map_append, total-map_le, total-map_sub, total-nothing, total-range_le, total-range_next}
-- the trips of blocks
pub use Rattle.vs_instance.proofs.costs.TripsOfBlocks.{All-all_trips, blocks-le-trips}
-- pairs of stops in their order
pub use Rattle.vs_instance.proofs.deadheads.Pairs.{pair_cmp-IsAntisymmetric, pair_cmp-total, same_pair, tied_same}
-- what blocks pay at prices
pub use Rattle.vs_instance.proofs.costs.LayerDuality.{IsOwnBlock, block_pays, blocks_pay, scaled-add, scaled-none, trips_inside}
-- tests of blocks
pub use Rattle.vs_instance.proofs.lagrangian.DecidedBlocks.{dec_has}
-- Lagrangian values, below plans and there
pub use Rattle.vs_instance.proofs.lagrangian.LayersOfPlan.{values_bound_plans}
pub use Rattle.vs_instance.proofs.lagrangian.Values.{values_exist}
-- problems where nothing costs anything
pub use Rattle.vs_instance.proofs.FreeProblems.{free, in-without_rates, layer_of-without_rates, link-without_rates, out-without_rates, trip-without_rates}
-- parts of problems in which fewer layers may run the trips
pub use Rattle.vs_instance.proofs.NarrowedProblems.{length-narrowed, narrowed-IsInstance, trip_of-narrowed}
