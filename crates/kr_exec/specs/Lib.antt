pub use Rattle.elf_read.specs as elf_read
pub use Rattle.kr_walk.specs.kr_tree as kr_tree
pub use Rattle.kr_walk.specs.kr_view as kr_view
pub use Rattle.kr_calls.specs as kr_calls
pub mod Answers
pub mod Exec
pub mod Finding
pub mod Interpreters
pub mod Lists
