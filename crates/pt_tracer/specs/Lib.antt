pub use Rattle.law_steady.specs.pr_base as pr_base
pub use Rattle.pt_results.specs.rv_mem as rv_mem
pub use Rattle.pt_faker.specs.elf_read as elf_read
pub use Rattle.pt_faker.specs.elf_load as elf_load
pub use Rattle.pt_faker.specs.kr_inode as kr_inode
pub use Rattle.pt_results.specs.pt_args as pt_args
pub use Rattle.pt_faker.specs.kr_exec as kr_exec
pub use Rattle.pt_faker.specs.kr_stops as kr_stops
pub use Rattle.law_steady.specs.pt_bind as pt_bind
pub use Rattle.law_steady.specs.pt_canon as pt_canon
pub use Rattle.pt_results.specs as pt_results
pub use Rattle.pt_script.specs as pt_script
pub use Rattle.law_steady.specs as law_steady
pub use Rattle.pt_faker.specs.pt_ident as pt_ident
pub use Rattle.pt_faker.specs as pt_faker
pub mod Agreeing
pub mod AgreeingLaws
pub mod Answering
pub mod Keeping
pub mod Pausing
pub mod Planning
pub mod Poking
pub mod Registers
pub mod ScriptEdit
pub mod TracerLaws
pub mod Watched
