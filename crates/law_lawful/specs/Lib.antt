pub use Rattle.kr_model.specs.pr_base as pr_base
pub use Rattle.kr_model.specs.rv_mem as rv_mem
pub use Rattle.kr_model.specs.kr_inode as kr_inode
pub use Rattle.kr_model.specs.kr_tree as kr_tree
pub use Rattle.kr_model.specs.kr_view as kr_view
pub use Rattle.kr_model.specs.kr_procfs as kr_procfs
pub use Rattle.kr_model.specs.kr_files as kr_files
pub use Rattle.kr_model.specs.kr_calls as kr_calls
pub use Rattle.kr_model.specs as kr_model
pub mod Holding
pub mod Laws
