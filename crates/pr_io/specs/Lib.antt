pub use Rattle.pr_base.specs as pr_base
pub mod Drawn
pub mod Faults
pub mod File
pub mod Memory
pub mod Moves
pub mod Replacing
