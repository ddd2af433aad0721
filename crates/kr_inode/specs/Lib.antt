pub use Rattle.pr_base.specs as pr_base
pub mod Changes
pub mod Entries
pub mod Inode
pub mod Names
pub mod Rights
pub mod Stored
pub mod GroundLemmas
