pub use Rattle.kr_model.proofs.pr_base as pr_base
pub use Rattle.kr_model.proofs.rv_mem as rv_mem
pub use Rattle.kr_model.proofs.kr_inode as kr_inode
pub use Rattle.kr_model.proofs.kr_tree as kr_tree
pub use Rattle.kr_model.proofs.kr_view as kr_view
pub use Rattle.kr_model.proofs.kr_procfs as kr_procfs
pub use Rattle.kr_model.proofs.kr_files as kr_files
pub use Rattle.kr_model.proofs as kr_model
pub mod SumLemmas
pub mod HoldingLemmas
pub mod StandingLemmas
pub mod TreeChangeLemmas
pub mod TreeShapeLemmas
pub mod NameChangeLemmas
pub mod ProcessChangeLemmas
pub mod CountLemmas
pub mod FileChangeLemmas
pub mod AfterLemmas
pub mod OwnChangeLemmas
pub mod DescriptorChangeLemmas
pub mod OpeningLemmas
pub mod MovingLemmas
pub mod ForkingLemmas
pub mod EndingLemmas
pub mod ChangeLemmas
