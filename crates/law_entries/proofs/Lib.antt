pub use Rattle.kr_loose.proofs as kr_loose
pub mod StayLemmas
pub mod BeginLemmas
pub mod WalkLemmas
pub mod PlanLemmas
pub mod ExecveBytes
pub mod ExecveScripts
pub mod ExecvePlans
pub mod EntryLemmas
pub mod ExitLemmas
pub mod EditLemmas
pub mod NumberLemmas
pub mod WaitLemmas
pub mod MarkLemmas
pub mod LocalLemmas
