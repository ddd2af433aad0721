pub use Rattle.pr_words.proofs as pr_words
pub mod DrawnLemmas
pub mod StageLemmas
pub mod TellingLemmas
