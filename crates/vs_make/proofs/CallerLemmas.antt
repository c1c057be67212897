-- What crates above cite of these proofs.
pub use Rattle.vs_make.proofs.MadeText.{made_text}
