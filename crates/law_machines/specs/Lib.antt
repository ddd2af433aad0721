pub use Rattle.pr_top.specs.pr_io as pr_io
pub use Rattle.pr_top.specs.kr_inode as kr_inode
pub use Rattle.pr_top.specs.kr_tree as kr_tree
pub use Rattle.pr_top.specs.kr_view as kr_view
pub use Rattle.law_paths.specs.kr_mounts as kr_mounts
pub use Rattle.law_starts.specs.kr_turns as kr_turns
pub use Rattle.law_starts.specs.law_turns as law_turns
pub use Rattle.pr_top.specs.pr_words as pr_words
pub use Rattle.pr_top.specs.pr_sources as pr_sources
pub use Rattle.law_starts.specs.pr_start as pr_start
pub use Rattle.pr_top.specs.pr_run as pr_run
pub use Rattle.pr_top.specs as pr_top
pub mod Asking
pub mod Given
pub mod GivenOpenings
pub mod FakedStarts
pub mod Starts
pub mod Tables
pub mod Turns
pub mod Agreeing
pub mod FakedAgreeing
pub mod Reports
pub mod Watching
pub mod Openings
pub mod Watchers
