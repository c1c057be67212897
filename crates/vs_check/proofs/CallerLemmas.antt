-- What crates above may cite of these proofs.
pub use Rattle.vs_check.proofs.AlikeDocuments.{judged_alike}
pub use Rattle.vs_check.proofs.Claims.{prove_their_claims}
pub use Rattle.vs_check.proofs.NamedFlaws.{break_of, faults_named, first_of_verdict, verdict_named}
pub use Rattle.vs_check.proofs.AgreeingTables.{same_map, same_value, same_vehicle}
