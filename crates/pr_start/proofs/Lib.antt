pub use Rattle.pt_tracer.proofs.pr_base as pr_base
pub use Rattle.kr_core.proofs.kr_tree as kr_tree
pub use Rattle.kr_core.proofs.kr_view as kr_view
pub use Rattle.kr_core.proofs.kr_mounts as kr_mounts
pub use Rattle.kr_core.proofs.law_allowed as law_allowed
pub use Rattle.kr_core.proofs.kr_start as kr_start
pub use Rattle.pt_tracer.proofs.pt_bind as pt_bind
pub mod SearchLemmas
pub mod BeginLemmas
pub mod TracedLemmas
pub mod FirstLemmas
