-- What the contracts of private functions cite: a walk on its way, with its code at hand. No public promise does.
pub use Rattle.kr_view.specs.kr_inode as kr_inode
pub use Rattle.kr_view.specs.kr_tree as kr_tree
pub use Rattle.kr_view.specs as kr_view
pub mod Components
pub mod HostNames
pub mod Positions
pub mod Rests
pub mod Sights
pub mod Stacks
pub mod Steps
pub mod Ways
