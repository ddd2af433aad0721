pub use Rattle.elf_read.specs as elf_read
pub mod Layout
