pub use Rattle.elf_load.specs.elf_read as elf_read
pub use Rattle.elf_load.specs as elf_load
pub use Rattle.kr_exec.specs.kr_tree as kr_tree
pub use Rattle.kr_exec.specs.kr_view as kr_view
pub use Rattle.kr_exec.specs.kr_calls as kr_calls
pub use Rattle.kr_perform.specs.kr_seen as kr_seen
pub use Rattle.kr_perform.specs as kr_perform
pub use Rattle.kr_exec.specs as kr_exec
pub mod Execution
pub mod Executing
