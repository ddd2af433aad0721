pub use Rattle.rv_asm.specs.pr_base as pr_base
pub use Rattle.rv_asm.specs.rv_table as rv_table
pub use Rattle.rv_cpu.specs.rv_mem as rv_mem
pub use Rattle.rv_asm.specs as rv_asm
pub mod Loops
