pub use Rattle.pt_canon.proofs.pr_base as pr_base
pub use Rattle.kr_calls.proofs.rv_mem as rv_mem
pub use Rattle.kr_calls.proofs as kr_calls
pub use Rattle.pt_canon.proofs.pt_bind as pt_bind
pub use Rattle.pt_canon.proofs as pt_canon
mod BackLemmas
mod EditRows
mod NamedLemmas
mod PartedLemmas
mod ShelfLemmas
