pub use Rattle.pt_canon.specs.pr_base as pr_base
pub use Rattle.law_lawful.specs.kr_inode as kr_inode
pub use Rattle.pt_canon.specs.pt_bind as pt_bind
pub use Rattle.law_lawful.specs.kr_files as kr_files
pub use Rattle.pt_canon.specs as pt_canon
pub use Rattle.law_lawful.specs.kr_tree as kr_tree
pub use Rattle.law_lawful.specs.kr_view as kr_view
pub use Rattle.law_lawful.specs.kr_model as kr_model
pub mod Steady
pub mod TextSteady
pub mod NamesLast
pub mod Exact
pub mod Calls
pub mod Along
pub mod Bytes
pub mod Told
pub mod Ahead
