pub use Rattle.kr_loose.proofs as kr_loose
pub use Rattle.law_beside.proofs as law_beside
pub mod BelowLemmas
pub mod AloneLemmas
pub mod OtherLemmas
pub mod StopLemmas
pub mod RunningLemmas
pub mod CallLemmas
pub mod StepLemmas
pub mod RunLemmas
pub mod BesidesLemmas
pub mod UnwatchedLemmas
