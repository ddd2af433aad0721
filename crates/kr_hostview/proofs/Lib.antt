pub use Rattle.kr_seen.proofs.kr_ops as kr_ops
pub mod HostLemmas
pub mod NumberLemmas
pub mod LawLemmas
pub mod WalkLemmas
