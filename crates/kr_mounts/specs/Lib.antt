pub use Rattle.pt_bind.specs.pr_base as pr_base
pub use Rattle.kr_walk.specs.kr_inode as kr_inode
pub use Rattle.kr_walk.specs.kr_tree as kr_tree
pub use Rattle.kr_walk.specs.kr_view as kr_view
pub use Rattle.pt_bind.specs as pt_bind
pub mod Bounds
pub mod Found
pub mod Growth
pub mod Index
pub mod Locations
pub mod MountTable
pub mod Order
pub mod Passes
pub mod Points
pub mod Sources
pub mod Spots
pub mod Standing
pub mod Stored
pub mod Texts
pub mod Turns
pub mod Ways
