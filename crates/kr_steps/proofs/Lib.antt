pub use Rattle.rv_cpu.proofs.rv_mem as rv_mem
pub use Rattle.rv_cpu.proofs as rv_cpu
pub use Rattle.kr_perform.proofs.law_allowed as law_allowed
pub use Rattle.kr_stops.proofs as kr_stops
pub use Rattle.kr_perform.proofs.law_steady as law_steady
pub use Rattle.kr_perform.proofs as kr_perform
pub mod ComputingLemmas
pub mod KillLemmas
pub mod PickLemmas
pub mod DecodedLemmas
pub mod PieceLemmas
pub mod RowLemmas
pub mod WaitLemmas
