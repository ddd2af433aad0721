pub use Rattle.rv_mem.specs.pr_base as pr_base
pub use Rattle.rv_mem.specs as rv_mem
pub mod Arguments
pub mod Decodes
pub mod Decoding
pub mod DirectoryEntries
pub mod Expansion
pub mod Kinds
pub mod PathUses
pub mod CallTable
pub mod PathTable
pub mod Scripts
pub mod Stats
pub mod Texts
