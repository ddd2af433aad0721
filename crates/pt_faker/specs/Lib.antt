pub use Rattle.kr_exec.specs.elf_read as elf_read
pub use Rattle.elf_load.specs as elf_load
pub use Rattle.pt_ident.specs.kr_inode as kr_inode
pub use Rattle.kr_stops.specs.kr_model as kr_model
pub use Rattle.kr_exec.specs as kr_exec
pub use Rattle.kr_stops.specs as kr_stops
pub use Rattle.pt_ident.specs as pt_ident
pub mod Carrying
pub mod Asking
pub mod Faking
pub mod FakingLaws
pub mod Stopping
pub mod Reading
pub mod Started
pub mod Watches
