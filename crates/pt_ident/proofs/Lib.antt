pub use Rattle.kr_calls.proofs.rv_mem as rv_mem
mod ByteLemmas
mod NumberLemmas
mod StatLemmas
mod TableLemmas
mod OwnerLemmas
