pub use Rattle.law_allowed.proofs.kr_model as kr_model
pub use Rattle.law_allowed.proofs.law_lawful as law_lawful
pub use Rattle.law_allowed.proofs as law_allowed
pub use Rattle.law_steady.proofs as law_steady
pub use Rattle.kr_rows.proofs.kr_ops as kr_ops
pub use Rattle.kr_transfer.proofs.kr_seen as kr_seen
pub use Rattle.kr_rows.proofs as kr_rows
pub mod OperatingLemmas
pub mod LawfulLemmas
pub mod EndingLemmas
pub mod TextLemmas
pub mod LinkLemmas
pub mod EntryLemmas
pub mod NumberedLemmas
pub mod AroundLemmas
pub mod ShownLemmas
pub mod ResolveLemmas
pub mod NamingLemmas
pub mod MountLemmas
pub mod WalkedLemmas
pub mod ToldLemmas
pub mod RefusedLemmas
pub mod CallLemmas
pub mod ChangeLemmas
pub mod ForetoldLemmas
pub mod AlteringLemmas
