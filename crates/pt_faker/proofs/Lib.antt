pub use Rattle.kr_stops.proofs.law_lawful as law_lawful
pub use Rattle.kr_exec.proofs as kr_exec
pub use Rattle.kr_stops.proofs as kr_stops
mod AnswerLemmas
pub mod AuxiliaryLemmas
pub mod FakerLemmas
pub mod FakingLemmas
pub mod StopLemmas
mod ReadLemmas
pub mod HeldLemmas
pub mod ReachLemmas
pub mod StartedLemmas
