pub use Rattle.kr_hostview.specs.pr_base as pr_base
pub use Rattle.kr_steps.specs.rv_table as rv_table
pub use Rattle.kr_steps.specs.rv_mem as rv_mem
pub use Rattle.kr_steps.specs.rv_cpu as rv_cpu
pub use Rattle.kr_execve.specs.elf_read as elf_read
pub use Rattle.kr_execve.specs.elf_load as elf_load
pub use Rattle.kr_execve.specs.kr_view as kr_view
pub use Rattle.kr_steps.specs.kr_model as kr_model
pub use Rattle.kr_calm.specs.law_lawful as law_lawful
pub use Rattle.kr_steps.specs.law_allowed as law_allowed
pub use Rattle.kr_hostview.specs.kr_ops as kr_ops
pub use Rattle.kr_calm.specs.kr_seen as kr_seen
pub use Rattle.kr_execve.specs.kr_exec as kr_exec
pub use Rattle.kr_execve.specs as kr_execve
pub use Rattle.kr_calm.specs as kr_calm
pub use Rattle.kr_steps.specs as kr_steps
pub use Rattle.kr_steps.specs.law_steady as law_steady
pub use Rattle.kr_steps.specs.kr_stops as kr_stops
pub mod Held
pub mod Agreeing
pub mod HeldLaws
pub mod Shelving
pub mod Target
pub mod PlainCall
pub mod Breaking
pub mod Looking
pub mod Noting
pub mod Coming
pub mod Turn
pub mod CallSteps
pub mod Making
pub mod Run
pub mod Laws
pub mod Steps
