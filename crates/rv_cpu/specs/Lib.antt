pub use Rattle.rv_mem.specs.pr_base as pr_base
pub use Rattle.rv_mem.specs.rv_table as rv_table
pub use Rattle.rv_mem.specs as rv_mem
pub mod Amos
pub mod Groups
pub mod Laws
pub mod Loads
pub mod Run
pub mod Step
pub mod Words
