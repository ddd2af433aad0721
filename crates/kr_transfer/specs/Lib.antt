pub use Rattle.kr_seen.specs.kr_inode as kr_inode
pub use Rattle.kr_seen.specs as kr_seen
pub mod Channels
pub mod Moving
pub mod Writing
pub mod Listing
