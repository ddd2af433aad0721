pub use Rattle.kr_calls.specs.pr_base as pr_base
pub use Rattle.kr_calls.specs.rv_mem as rv_mem
pub use Rattle.kr_files.specs.kr_inode as kr_inode
pub use Rattle.kr_files.specs.kr_tree as kr_tree
pub use Rattle.kr_procfs.specs.kr_view as kr_view
pub use Rattle.kr_procfs.specs as kr_procfs
pub use Rattle.kr_files.specs as kr_files
pub use Rattle.kr_calls.specs as kr_calls
pub mod State
pub mod Change
pub mod ChangeKinds
pub mod Applied
pub mod Bare
pub mod Images
pub mod Known
pub mod Seen
pub mod Reply
-- what calls come to
pub mod Asking
pub mod Pieces
pub mod DescriptorRows
pub mod FileRows
pub mod NameRows
pub mod AttributeRows
pub mod DirectoryRows
pub mod MemoryRows
pub mod ProcessRows
pub mod IdentityRows
pub mod Operation
pub mod Uses
pub mod ProcessDirectory
pub mod HostView
pub mod Peeks
pub mod Walks
pub mod Lawful
pub mod Conditions
pub mod Judged
pub mod Laws
