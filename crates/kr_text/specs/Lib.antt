pub use Rattle.kr_tree.specs.kr_inode as kr_inode
pub use Rattle.kr_tree.specs as kr_tree
pub mod Answers
pub mod Canonical
pub mod Drawn
pub mod Fields
pub mod FirstNames
pub mod Lines
pub mod Order
pub mod Pieces
pub mod Reading
pub mod Results
pub mod Same
pub mod Spots
