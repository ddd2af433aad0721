pub use Rattle.kr_start.specs.pr_base as pr_base
pub use Rattle.kr_start.specs.rv_mem as rv_mem
pub use Rattle.kr_start.specs.elf_read as elf_read
pub use Rattle.kr_start.specs.elf_load as elf_load
pub use Rattle.kr_start.specs.kr_inode as kr_inode
pub use Rattle.kr_start.specs.kr_tree as kr_tree
pub use Rattle.kr_start.specs.kr_text as kr_text
pub use Rattle.kr_execve.specs.kr_view as kr_view
pub use Rattle.kr_start.specs.kr_mounts as kr_mounts
pub use Rattle.kr_start.specs.kr_procfs as kr_procfs
pub use Rattle.kr_start.specs.kr_files as kr_files
pub use Rattle.kr_execve.specs.kr_calls as kr_calls
pub use Rattle.kr_start.specs.kr_model as kr_model
pub use Rattle.kr_start.specs.law_lawful as law_lawful
pub use Rattle.kr_start.specs.law_allowed as law_allowed
pub use Rattle.kr_execve.specs.kr_perform as kr_perform
pub use Rattle.kr_execve.specs.kr_exec as kr_exec
pub use Rattle.kr_execve.specs as kr_execve
pub use Rattle.kr_start.specs as kr_start
pub use Rattle.kr_start.specs.pt_bind as pt_bind
pub use Rattle.kr_start.specs.law_walks as law_walks
pub mod Starting
pub mod Started
pub mod Laws
