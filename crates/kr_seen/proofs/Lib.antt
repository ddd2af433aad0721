pub use Rattle.kr_ops.proofs.pr_base as pr_base
pub use Rattle.kr_ops.proofs.rv_mem as rv_mem
pub use Rattle.kr_ops.proofs.kr_inode as kr_inode
pub use Rattle.kr_ops.proofs.kr_tree as kr_tree
pub use Rattle.kr_ops.proofs.kr_view as kr_view
pub use Rattle.kr_ops.proofs.kr_files as kr_files
pub use Rattle.kr_ops.proofs.kr_model as kr_model
pub use Rattle.kr_ops.proofs.law_lawful as law_lawful
pub use Rattle.kr_ops.proofs as kr_ops
pub mod NumberedLemmas
pub mod DirectoryLemmas
pub mod FindLemmas
pub mod LivingLemmas
pub mod GuestLemmas
pub mod StandingLemmas
pub mod CarryLemmas
pub mod BaseLemmas
pub mod TargetLemmas
pub mod KnownLemmas
pub mod TakenLemmas
pub mod TableLemmas
pub mod LookLemmas
pub mod ChangeLemmas
pub mod StepLemmas
pub mod PerformLemmas
pub mod UsingLemmas
pub mod SteadyLemmas
pub mod FrontLemmas
