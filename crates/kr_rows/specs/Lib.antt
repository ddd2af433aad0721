pub use Rattle.kr_seen.specs.rv_mem as rv_mem
pub use Rattle.kr_seen.specs.kr_tree as kr_tree
pub use Rattle.kr_seen.specs.kr_view as kr_view
pub use Rattle.kr_seen.specs.kr_procfs as kr_procfs
pub use Rattle.kr_seen.specs.kr_files as kr_files
pub use Rattle.kr_seen.specs.kr_calls as kr_calls
pub use Rattle.kr_seen.specs.kr_model as kr_model
pub use Rattle.kr_seen.specs.kr_ops as kr_ops
pub mod Commands
