pub use Rattle.elf_load.specs.pr_base as pr_base
pub use Rattle.elf_load.specs.rv_mem as rv_mem
pub use Rattle.elf_load.specs.elf_read as elf_read
pub use Rattle.elf_load.specs as elf_load
pub use Rattle.kr_text.specs.kr_inode as kr_inode
pub use Rattle.kr_text.specs.kr_tree as kr_tree
pub use Rattle.kr_text.specs as kr_text
pub use Rattle.law_walks.specs.kr_mounts as kr_mounts
pub use Rattle.law_walks.specs.kr_procfs as kr_procfs
pub use Rattle.law_walks.specs.kr_files as kr_files
pub use Rattle.law_walks.specs.kr_model as kr_model
pub use Rattle.kr_ops.specs.law_lawful as law_lawful
pub use Rattle.law_allowed.specs as law_allowed
pub use Rattle.kr_ops.specs as kr_ops
pub use Rattle.law_walks.specs.pt_bind as pt_bind
pub use Rattle.law_walks.specs as law_walks
pub mod Start
pub mod Laws
pub mod Beginning
pub mod ListedLaws
pub mod Ready
