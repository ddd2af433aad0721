pub use Rattle.rv_mem.specs.pr_base as pr_base
pub use Rattle.rv_mem.specs as rv_mem
pub use Rattle.elf_read.specs as elf_read
pub mod FirstStack
pub mod Image
pub mod Placed
