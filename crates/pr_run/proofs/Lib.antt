pub use Rattle.pr_sources.proofs.pr_words as pr_words
pub use Rattle.pr_sources.proofs as pr_sources
pub mod BytesLemmas
pub mod GoingLemmas
pub mod RunLemmas
pub mod TurnLemmas
pub mod SteppingLemmas
pub mod ReportLemmas
pub mod KeepLemmas
pub mod CaseLemmas
