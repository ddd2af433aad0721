pub use Rattle.law_lawful.proofs.pr_base as pr_base
pub use Rattle.law_lawful.proofs.rv_mem as rv_mem
pub use Rattle.law_lawful.proofs.kr_inode as kr_inode
pub use Rattle.law_lawful.proofs.kr_tree as kr_tree
pub use Rattle.law_lawful.proofs.kr_view as kr_view
pub use Rattle.law_lawful.proofs.kr_procfs as kr_procfs
pub use Rattle.law_lawful.proofs.kr_files as kr_files
pub use Rattle.law_lawful.proofs.kr_model as kr_model
pub use Rattle.law_lawful.proofs as law_lawful
pub mod ListLemmas
pub mod ChangeLemmas
pub mod ServeLemmas
pub mod UseLemmas
pub mod CloseLemmas
pub mod ClosingLemmas
pub mod EndingLemmas
pub mod OpeningLemmas
pub mod NameLemmas
pub mod PageLemmas
pub mod PlaceLemmas
pub mod ForkLemmas
pub mod AskLemmas
