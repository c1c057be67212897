-- What crates above may cite of these proofs.
pub use Rattle.vs_tree.proofs.Accepted.{below-before, cheaper_or_not, last-is, last-more}
pub use Rattle.vs_tree.proofs.Entries.{same_opening, same_step}
pub use Rattle.vs_tree.proofs.LawfulPrices.{lawful_fits, lawful_worth, one_worth, worth_of_table, zeros_lawful}
pub use Rattle.vs_tree.proofs.LawfulPrices.{lawful_holds}
pub use Rattle.vs_tree.proofs.Spots.{leaf_within}
pub use Rattle.vs_tree.proofs.search.Facts.{history-last, state-append, state-last}
pub use Rattle.vs_tree.proofs.search.Hands.{among-filter, filter-among, idle-hand}
pub use Rattle.vs_tree.proofs.sound.Closed.{last-prices}
pub use Rattle.vs_tree.proofs.sound.GaveBack.{among-cons}
pub use Rattle.vs_tree.proofs.sound.Grown.{Where, lower, nowhere, other, split, split-here, split-lower, split-nowhere}
pub use Rattle.vs_tree.proofs.sound.Grown.{split-other, split-upper, upper, where_is}
pub use Rattle.vs_tree.proofs.sound.Histories.{first_sound, histories_are_sound, not_held, step_sound}
pub use Rattle.vs_tree.proofs.sound.Relabelled.{held-before, leaves-kept, prices-kept, same-worth, sets-kept, spot-here}
pub use Rattle.vs_tree.proofs.sound.Relabelled.{spot-there}
pub use Rattle.vs_tree.proofs.trees.Histories.{states_are_trees}
pub use Rattle.vs_tree.proofs.trees.Parts.{times-cons}
pub use Rattle.vs_tree.proofs.BoundOrder.{lesser-no_less, same_bound}
pub use Rattle.vs_tree.proofs.SetMembers.{member}
pub use Rattle.vs_tree.proofs.NarrowerSets.{narrower-no_less, with_set-within}
