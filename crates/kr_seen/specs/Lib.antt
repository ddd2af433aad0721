pub use Rattle.kr_ops.specs.pr_base as pr_base
pub use Rattle.kr_ops.specs.rv_mem as rv_mem
pub use Rattle.kr_ops.specs.kr_inode as kr_inode
pub use Rattle.kr_ops.specs.kr_tree as kr_tree
pub use Rattle.kr_ops.specs.kr_view as kr_view
pub use Rattle.kr_ops.specs.kr_procfs as kr_procfs
pub use Rattle.kr_ops.specs.kr_files as kr_files
pub use Rattle.kr_ops.specs.kr_calls as kr_calls
pub use Rattle.kr_ops.specs.kr_model as kr_model
pub use Rattle.kr_ops.specs.law_lawful as law_lawful
pub use Rattle.kr_ops.specs as kr_ops
pub mod Carried
pub mod Held
pub mod Laws
pub mod Numbered
pub mod Shown
pub mod Standing
pub mod Targets
pub mod Carrying
pub mod CallWalks
pub mod Asked
pub mod Placed
pub mod Performing
pub mod PerformedRows
pub mod Resolved
pub mod Told
pub mod Using
pub mod MountLaws
pub mod Mounts
