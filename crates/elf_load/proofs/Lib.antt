pub use Rattle.rv_mem.proofs.pr_base as pr_base
pub use Rattle.rv_mem.proofs as rv_mem
pub mod AddressedLemmas
pub mod CountLemmas
pub mod ImageLemmas
pub mod ListLemmas
pub mod PlacedLemmas
