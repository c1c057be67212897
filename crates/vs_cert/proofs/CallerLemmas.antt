-- What crates above may cite of these proofs.
pub use Rattle.vs_cert.proofs.states.FirstPlaces.{first_times_few}
pub use Rattle.vs_cert.proofs.states.MadeDocuments.{states_have_documents}
pub use Rattle.vs_cert.proofs.states.MadePlans.{make_plan}
pub use Rattle.vs_cert.proofs.states.Numberings.{first_times-more, stands-append, stands-last, stands-more}
pub use Rattle.vs_cert.proofs.states.TreeShapes.{rows_of_instance}
pub use Rattle.vs_cert.proofs.states.TreeTables.{first_times-All, named_within, numbers_within, tables_rows-prices}
pub use Rattle.vs_cert.proofs.states.WorthRange.{worth_below}
pub use Rattle.vs_cert.proofs.AnswerBounds.{AreNoLess, IsOneOf, cost_among, lesser_is_bound, not_open}
pub use Rattle.vs_cert.proofs.AnswerCounts.{closed_leaves}
pub use Rattle.vs_cert.proofs.AnswerWorths.{AreSpotWorths, worths-append}
pub use Rattle.vs_cert.proofs.EnoughBudgets.{enough_budgets_leave_nothing_open}
pub use Rattle.vs_cert.proofs.LeafCounts.{few_leaves}
pub use Rattle.vs_cert.proofs.NamedTables.{named_in_order, renumbered_splits}
pub use Rattle.vs_cert.proofs.StateAnswers.{bounds_reach_the_start, finished_searches_answer, searches_answer_so_far}
pub use Rattle.vs_cert.proofs.StateDocuments.{reaches, renumbered_good}
pub use Rattle.vs_cert.proofs.states.TreeDocument.{vec-items, vec_of}
