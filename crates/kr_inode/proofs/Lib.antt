pub use Rattle.pr_base.proofs as pr_base
pub mod BodyLemmas
pub mod BytesLemmas
pub mod ChangeLemmas
pub mod EntryLemmas
pub mod NameLemmas
pub mod Rows
pub mod SameLemmas
pub mod StoredLemmas
