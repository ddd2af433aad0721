pub use Rattle.kr_seen.proofs.rv_mem as rv_mem
pub use Rattle.kr_seen.proofs.law_lawful as law_lawful
pub use Rattle.kr_seen.proofs.kr_ops as kr_ops
pub mod PipeLemmas
pub mod FcntlLemmas
pub mod DescriptorLemmas
pub mod ProcessLemmas
pub mod WaitLemmas
pub mod CloneLemmas
pub mod PagingLemmas
pub mod BreakLemmas
pub mod LowestLemmas
