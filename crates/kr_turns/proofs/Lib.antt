pub use Rattle.kr_calm.proofs.pr_base as pr_base
pub use Rattle.kr_steps.proofs.rv_cpu as rv_cpu
pub use Rattle.kr_execve.proofs.elf_load as elf_load
pub use Rattle.kr_execve.proofs.kr_calls as kr_calls
pub use Rattle.kr_calm.proofs.law_lawful as law_lawful
pub use Rattle.kr_hostview.proofs.kr_ops as kr_ops
pub use Rattle.kr_calm.proofs.kr_seen as kr_seen
pub use Rattle.kr_steps.proofs.kr_perform as kr_perform
pub use Rattle.kr_execve.proofs.kr_exec as kr_exec
pub use Rattle.kr_calm.proofs as kr_calm
pub use Rattle.kr_steps.proofs as kr_steps
pub use Rattle.kr_steps.proofs.kr_stops as kr_stops
pub use Rattle.kr_steps.proofs.law_steady as law_steady
pub mod EditingLemmas
pub mod HereLemmas
pub mod NumberLemmas
pub mod PlainLemmas
pub mod JoinLemmas
pub mod StepLemmas
pub mod BreakLemmas
pub mod JudgeLemmas
pub mod NotedLemmas
pub mod ShelfLemmas
pub mod TargetLemmas
pub mod ApartLemmas
pub mod MakingLemmas
pub mod WaitingLemmas
pub mod AlteringLemmas
pub mod AlteredLemmas
pub mod AgreeLemmas
