pub use Rattle.kr_core.proofs.rv_mem as rv_mem
pub use Rattle.kr_core.proofs.kr_view as kr_view
pub use Rattle.kr_core.proofs.law_allowed as law_allowed
pub use Rattle.kr_core.proofs.kr_stops as kr_stops
pub use Rattle.kr_core.proofs.kr_start as kr_start
pub use Rattle.kr_core.proofs.kr_turns as kr_turns
pub mod JoinLemmas
pub mod GoingLemmas
pub mod JudgeLemmas
pub mod BehindLemmas
pub mod MovedLemmas
pub mod GoneLemmas
pub mod PartLemmas
pub mod LooseRows
pub mod UnmarkedLemmas
pub mod PartingLemmas
pub mod LivingLemmas
pub mod MarkCallLemmas
pub mod MarkTurnLemmas
pub mod IdleLemmas
pub mod WaitingLemmas
