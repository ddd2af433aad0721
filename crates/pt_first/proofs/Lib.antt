pub use Rattle.pr_words.proofs as pr_words
mod GuestRows
pub mod PeekLemmas
pub mod StandingLemmas
pub mod StartLemmas
