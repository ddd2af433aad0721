pub use Rattle.kr_view.proofs.kr_inode as kr_inode
pub use Rattle.kr_view.proofs.kr_tree as kr_tree
pub use Rattle.kr_view.proofs as kr_view
pub mod HostNameLemmas
pub mod LastLemmas
pub mod NameLemmas
pub mod OutcomeLemmas
pub mod ResolveLemmas
pub mod StackLemmas
pub mod StepLemmas
pub mod WayUpLemmas
