pub use Rattle.law_walks.specs.kr_inode as kr_inode
pub use Rattle.law_walks.specs.kr_tree as kr_tree
pub use Rattle.law_walks.specs.kr_view as kr_view
pub use Rattle.law_walks.specs.kr_mounts as kr_mounts
pub use Rattle.law_walks.specs.kr_procfs as kr_procfs
pub use Rattle.law_walks.specs.kr_files as kr_files
pub use Rattle.law_walks.specs.kr_model as kr_model
pub use Rattle.kr_calm.specs.kr_seen as kr_seen
pub use Rattle.kr_calm.specs as kr_calm
pub use Rattle.law_walks.specs.pt_canon as pt_canon
pub use Rattle.law_walks.specs as law_walks
pub mod Changes
pub mod Following
pub mod Losses
pub mod Matching
pub mod Moving
pub mod Standing
pub mod Tagging
pub mod Taking
pub mod Uses
pub mod Keeping
