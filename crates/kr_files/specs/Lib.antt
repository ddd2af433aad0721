-- what the calls promise
pub use Rattle.kr_tree.specs.kr_inode as kr_inode
pub use Rattle.kr_tree.specs as kr_tree
pub mod Descriptors
pub mod Files
pub mod Laws
pub mod Opened
pub mod Pipes
-- what stands above them
pub mod Serves
pub mod WithoutMounts
-- how all that is kept
pub mod OpenFiles
pub mod Slots
pub mod Sound
pub mod StoredPipes
