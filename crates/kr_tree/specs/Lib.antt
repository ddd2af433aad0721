pub use Rattle.kr_inode.specs.pr_base as pr_base
pub use Rattle.kr_inode.specs as kr_inode
pub mod Changes
pub mod Holds
pub mod Lawful
pub mod Names
pub mod Rights
pub mod Tree
