pub use Rattle.kr_seen.proofs.pr_base as pr_base
pub use Rattle.kr_seen.proofs.law_lawful as law_lawful
pub use Rattle.kr_seen.proofs as kr_seen
pub mod WorkedRules
pub mod AboveLemmas
pub mod ChangeLemmas
pub mod GuestLemmas
pub mod RowLemmas
pub mod UseLemmas
pub mod ProspectLemmas
pub mod UnjudgedLemmas
pub mod OwnerLemmas
pub mod AlikeLemmas
pub mod JudgedLemmas
pub mod ToldLemmas
pub mod MarkLemmas
pub mod NotedLemmas
