pub use Rattle.kr_start.proofs.pr_base as pr_base
pub use Rattle.kr_start.proofs.rv_mem as rv_mem
pub use Rattle.kr_start.proofs.elf_load as elf_load
pub use Rattle.kr_start.proofs.kr_tree as kr_tree
pub use Rattle.kr_execve.proofs.kr_view as kr_view
pub use Rattle.kr_start.proofs.kr_mounts as kr_mounts
pub use Rattle.kr_start.proofs.kr_model as kr_model
pub use Rattle.kr_start.proofs.law_lawful as law_lawful
pub use Rattle.kr_start.proofs.law_allowed as law_allowed
pub use Rattle.kr_execve.proofs.kr_perform as kr_perform
pub use Rattle.kr_execve.proofs.kr_exec as kr_exec
pub use Rattle.kr_execve.proofs as kr_execve
pub use Rattle.kr_start.proofs as kr_start
pub use Rattle.kr_start.proofs.pt_bind as pt_bind
pub use Rattle.kr_start.proofs.law_walks as law_walks
pub mod BeginLemmas
pub mod DefinitionLemmas
pub mod LawLemmas
pub mod NumberLemmas
pub mod StandingLemmas
