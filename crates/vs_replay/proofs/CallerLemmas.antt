-- What crates above may cite of these proofs.
pub use Rattle.vs_replay.proofs.AgreeingPrices.{turned}
pub use Rattle.vs_replay.proofs.StepByStep.{count_steps}
pub use Rattle.vs_replay.proofs.ToldSteps.{AreTold, alike_history, same_is, told_histories_come_back, with_told, worth_here, worth_there}
pub use Rattle.vs_replay.proofs.ComeBack.{documents_come_back}
pub use Rattle.vs_replay.proofs.OneDocument.{one_document}
pub use Rattle.vs_replay.proofs.OneReplay.{one_of_replay, one_replay_status}
pub use Rattle.vs_replay.proofs.WrittenBack.{written_traces_replay}
