pub use Rattle.kr_first.specs.pr_base as pr_base
pub use Rattle.kr_first.specs.rv_mem as rv_mem
pub use Rattle.kr_first.specs.elf_read as elf_read
pub use Rattle.kr_first.specs.elf_load as elf_load
pub use Rattle.kr_first.specs.kr_tree as kr_tree
pub use Rattle.kr_first.specs.law_lawful as law_lawful
pub use Rattle.kr_first.specs.law_allowed as law_allowed
pub use Rattle.kr_first.specs.kr_perform as kr_perform
pub use Rattle.kr_first.specs.kr_exec as kr_exec
pub use Rattle.kr_first.specs.kr_execve as kr_execve
pub use Rattle.kr_first.specs as kr_first
pub use Rattle.law_edits.specs.pt_args as pt_args
pub mod Executing
pub mod Expanding
pub mod Finding
pub mod Planning
pub mod Refusing
pub mod Showing
pub mod Working
pub mod Images
pub mod Ending
pub mod Room
pub mod Lists
pub mod Shelves
pub mod Reading
