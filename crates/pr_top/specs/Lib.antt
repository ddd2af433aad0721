pub use Rattle.pr_start.specs.pr_base as pr_base
pub use Rattle.pr_run.specs.pr_io as pr_io
pub use Rattle.pr_start.specs.kr_inode as kr_inode
pub use Rattle.pr_start.specs.kr_tree as kr_tree
pub use Rattle.pr_gen.specs.kr_text as kr_text
pub use Rattle.pr_start.specs.kr_view as kr_view
pub use Rattle.pr_run.specs.kr_mounts as kr_mounts
pub use Rattle.pr_start.specs.pr_words as pr_words
pub use Rattle.pr_run.specs.pr_sources as pr_sources
pub use Rattle.pr_run.specs as pr_run
pub mod Opening
pub mod Again
