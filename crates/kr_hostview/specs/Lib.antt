pub use Rattle.kr_seen.specs.pr_base as pr_base
pub use Rattle.kr_seen.specs.kr_inode as kr_inode
pub use Rattle.kr_seen.specs.kr_files as kr_files
pub use Rattle.kr_seen.specs.kr_ops as kr_ops
pub mod Asked
pub mod Laws
pub mod NoJumps
pub mod OnHost
pub mod Peeking
pub mod Texts
