-- What the crates above cite of this crate's proofs.
-- members of sets
pub use Rattle.vs_types.proofs.Members.{Contains-filter, Contains-members, Contains-members_below, Has-below, IsStrictlyIncreasing-members, layer_numbers-range, members-some}
-- what a set leaves of another
pub use Rattle.vs_types.proofs.Rests.{Has-rest, rest-within, SharesOut, shares_out, some-layers}
-- the test of proper parts
pub use Rattle.vs_types.proofs.ProperParts.{proper_from_test, test_from_proper}
-- tests, and values that there may be
pub use Rattle.vs_types.proofs.Tests.{and_false, each_some, less_not, match_false, no-matter, not_less}
-- lists with one element more
pub use Rattle.vs_types.proofs.Lists.{Contains-cons_cases, map-replicate, range_more}
-- lists that get one more at their end, and lists that are filled place by place
pub use Rattle.vs_types.proofs.Pushed.{AreSoFar, pushed-more}
pub use Rattle.vs_types.proofs.Places.{place_filled, row_inside}
-- products of an integer with a natural number
pub use Rattle.vs_types.proofs.Products.{none_times, times_add, times_le, times_more, times_none, times_one, times_sub, times_sum}
