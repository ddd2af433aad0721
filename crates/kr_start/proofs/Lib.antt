pub use Rattle.elf_load.proofs.pr_base as pr_base
pub use Rattle.elf_load.proofs.rv_mem as rv_mem
pub use Rattle.elf_load.proofs as elf_load
pub use Rattle.kr_text.proofs.kr_tree as kr_tree
pub use Rattle.law_walks.proofs.kr_mounts as kr_mounts
pub use Rattle.law_walks.proofs.kr_model as kr_model
pub use Rattle.kr_ops.proofs.law_lawful as law_lawful
pub use Rattle.law_allowed.proofs as law_allowed
pub use Rattle.law_walks.proofs.pt_bind as pt_bind
pub use Rattle.law_walks.proofs as law_walks
pub mod PinLemmas
pub mod StartLemmas
pub mod ConsoleLemmas
pub mod FirstLemmas
pub mod LastLemmas
pub mod FieldLemmas
pub mod TreeLemmas
pub mod SoFarLemmas
pub mod ReadLemmas
pub mod GrownLemmas
pub mod ReadyLemmas
