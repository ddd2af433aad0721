pub use Rattle.pr_io.specs as pr_io
pub use Rattle.kr_start.specs.kr_tree as kr_tree
pub use Rattle.kr_start.specs.kr_text as kr_text
pub use Rattle.kr_start.specs.kr_mounts as kr_mounts
pub use Rattle.kr_start.specs.kr_model as kr_model
pub use Rattle.pr_words.specs as pr_words
pub mod Asking
pub mod Within
pub mod Reading
pub mod Telling
pub mod Names
pub mod Answers
