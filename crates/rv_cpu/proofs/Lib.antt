pub use Rattle.rv_mem.proofs as rv_mem
pub mod AlikeLemmas
pub mod CallLemmas
mod EdgeCases
pub mod RunLemmas
