pub use Rattle.kr_transfer.specs.kr_inode as kr_inode
pub use Rattle.law_allowed.specs.kr_view as kr_view
pub use Rattle.law_allowed.specs.kr_files as kr_files
pub use Rattle.law_allowed.specs.kr_calls as kr_calls
pub use Rattle.law_allowed.specs.kr_model as kr_model
pub use Rattle.law_allowed.specs.law_lawful as law_lawful
pub use Rattle.law_allowed.specs as law_allowed
pub use Rattle.law_steady.specs as law_steady
pub use Rattle.kr_rows.specs.kr_ops as kr_ops
pub use Rattle.kr_transfer.specs.kr_seen as kr_seen
pub use Rattle.kr_rows.specs as kr_rows
pub mod Operating
pub mod Lawful
pub mod Naming
pub mod Resolving
pub mod Walked
pub mod Calling
pub mod Altering
