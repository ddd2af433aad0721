pub use Rattle.kr_first.proofs.pr_base as pr_base
pub use Rattle.kr_first.proofs.rv_mem as rv_mem
pub use Rattle.kr_first.proofs.kr_tree as kr_tree
pub use Rattle.kr_first.proofs.law_lawful as law_lawful
pub use Rattle.kr_first.proofs.law_allowed as law_allowed
pub use Rattle.kr_first.proofs.kr_perform as kr_perform
pub use Rattle.kr_first.proofs.kr_exec as kr_exec
pub use Rattle.kr_first.proofs.kr_execve as kr_execve
pub use Rattle.kr_first.proofs as kr_first
pub mod ExecuteLemmas
pub mod ExpandLemmas
pub mod FindLemmas
pub mod LimitLemmas
pub mod LookLemmas
pub mod PlanLemmas
pub mod ShownLemmas
pub mod WorkLemmas
pub mod PlainLemmas
pub mod RefuseLemmas
pub mod ShowLemmas
pub mod ImageLemmas
pub mod EndLemmas
pub mod LineLemmas
pub mod PutLemmas
pub mod RoomLemmas
pub mod ListLemmas
pub mod CopyLemmas
pub mod BareLemmas
pub mod HeldLemmas
pub mod StandLemmas
pub mod ReadLemmas
