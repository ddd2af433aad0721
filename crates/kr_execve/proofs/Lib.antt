pub use Rattle.elf_load.proofs as elf_load
pub use Rattle.kr_exec.proofs.kr_view as kr_view
pub use Rattle.kr_exec.proofs.kr_calls as kr_calls
pub use Rattle.kr_perform.proofs as kr_perform
pub use Rattle.kr_exec.proofs as kr_exec
pub mod AroundLemmas
pub mod BeginningLemmas
pub mod ExitLemmas
pub mod LeftLemmas
pub mod LimitLemmas
pub mod LineLemmas
pub mod LoadingLemmas
pub mod PlannedLemmas
pub mod ProgramLemmas
pub mod PuttingLemmas
pub mod ReadingLemmas
pub mod StandingLemmas
