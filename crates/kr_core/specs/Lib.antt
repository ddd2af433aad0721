pub use Rattle.kr_turns.specs.pr_base as pr_base
pub use Rattle.kr_turns.specs.rv_table as rv_table
pub use Rattle.kr_turns.specs.rv_mem as rv_mem
pub use Rattle.kr_turns.specs.rv_cpu as rv_cpu
pub use Rattle.kr_turns.specs.elf_read as elf_read
pub use Rattle.kr_turns.specs.elf_load as elf_load
pub use Rattle.kr_first.specs.kr_inode as kr_inode
pub use Rattle.kr_first.specs.kr_tree as kr_tree
pub use Rattle.kr_first.specs.kr_text as kr_text
pub use Rattle.kr_turns.specs.kr_view as kr_view
pub use Rattle.kr_first.specs.kr_mounts as kr_mounts
pub use Rattle.kr_first.specs.kr_files as kr_files
pub use Rattle.kr_first.specs.kr_calls as kr_calls
pub use Rattle.kr_first.specs.kr_model as kr_model
pub use Rattle.kr_turns.specs.law_lawful as law_lawful
pub use Rattle.kr_first.specs.law_allowed as law_allowed
pub use Rattle.kr_first.specs.law_walks as law_walks
pub use Rattle.kr_turns.specs.kr_seen as kr_seen
pub use Rattle.kr_turns.specs.kr_exec as kr_exec
pub use Rattle.kr_turns.specs.kr_execve as kr_execve
pub use Rattle.kr_first.specs as kr_first
pub use Rattle.kr_turns.specs.kr_calm as kr_calm
pub use Rattle.kr_turns.specs.kr_steps as kr_steps
pub use Rattle.kr_turns.specs as kr_turns
pub use Rattle.kr_turns.specs.kr_stops as kr_stops
pub use Rattle.kr_first.specs.kr_start as kr_start
pub mod Between
pub mod Moving
pub mod Standing
pub mod Kernel
pub mod Stepping
pub mod Counting
pub mod Runs
