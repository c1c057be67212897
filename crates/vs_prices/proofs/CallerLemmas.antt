-- What crates above cite of these proofs.
pub use Rattle.vs_prices.proofs.BoundOrder.{else_no_less, no_less-both, no_less-refl, no_less-trans, reaches_more}
pub use Rattle.vs_prices.proofs.Duality.{bounds_plans, least-le, least_above}
pub use Rattle.vs_prices.proofs.FirstBreaks.{first_at_back, first_at_link, first_at_out, first_nowhere}
pub use Rattle.vs_prices.proofs.NoBreaks.{holds_nowhere_broken, nowhere_broken, same_test}
pub use Rattle.vs_prices.proofs.PriceNumbers.{IsScaled, scaled-IsScaled}
pub use Rattle.vs_prices.proofs.PricePlaces.{zero_at, zero_prices_in, zeros_hold}
pub use Rattle.vs_prices.proofs.RealBreaks.{all_broken}
pub use Rattle.vs_prices.proofs.Rounding.{rounded_up-IsRoundedUp}
pub use Rattle.vs_prices.proofs.RunningTotals.{product_within}
pub use Rattle.vs_prices.proofs.Worths.{worth_is, worth_of-IsWorth, worth_once}
pub use Rattle.vs_prices.proofs.UnratedTables.{is_also_ray}
pub use Rattle.vs_prices.proofs.RunIn.{IsRunIn, narrower, run_once, runs_in, set_of-other, set_of-same, wider}
pub use Rattle.vs_prices.proofs.Restrictions.{left-restricts, leaves_restrict, restriction-layers, right-restricts}
pub use Rattle.vs_prices.proofs.Sharing.{lies_in_one}
