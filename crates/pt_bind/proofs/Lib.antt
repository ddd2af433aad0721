pub use Rattle.pr_base.proofs as pr_base
pub mod ByteLemmas
pub mod IndexLemmas
pub mod LawLemmas
pub mod RowLemmas
pub mod TagLemmas
