-- What crates above may cite of these proofs.
pub use Rattle.vs_reply.proofs.owing.OwedAnswers.{owed_so}
pub use Rattle.vs_reply.proofs.once.OneCase.{case_refused, same_case}
pub use Rattle.vs_reply.proofs.once.OneAnswer.{one_made, one_of_blocks, one_of_check, one_of_network, one_of_peakcheck}
pub use Rattle.vs_reply.proofs.one_row.OneNet.{one_network}
pub use Rattle.vs_reply.proofs.one_row.OneRefusal.{one_refusal}
