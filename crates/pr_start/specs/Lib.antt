pub use Rattle.pt_tracer.specs.pr_base as pr_base
pub use Rattle.pt_tracer.specs.rv_mem as rv_mem
pub use Rattle.pt_tracer.specs.elf_read as elf_read
pub use Rattle.pt_tracer.specs.kr_inode as kr_inode
pub use Rattle.kr_core.specs.kr_tree as kr_tree
pub use Rattle.kr_core.specs.kr_view as kr_view
pub use Rattle.kr_core.specs.kr_mounts as kr_mounts
pub use Rattle.pt_first.specs.kr_calls as kr_calls
pub use Rattle.kr_core.specs.law_allowed as law_allowed
pub use Rattle.pt_tracer.specs.kr_exec as kr_exec
pub use Rattle.kr_core.specs.kr_first as kr_first
pub use Rattle.kr_core.specs as kr_core
pub use Rattle.kr_core.specs.kr_start as kr_start
pub use Rattle.pt_tracer.specs.pt_bind as pt_bind
pub use Rattle.pt_tracer.specs.pt_canon as pt_canon
pub use Rattle.pt_first.specs.pt_script as pt_script
pub use Rattle.pt_tracer.specs.pt_ident as pt_ident
pub use Rattle.pt_tracer.specs.pt_faker as pt_faker
pub use Rattle.pt_tracer.specs as pt_tracer
pub use Rattle.pt_first.specs as pt_first
pub use Rattle.pt_first.specs.pr_words as pr_words
pub mod Directory
pub mod Command
pub mod Beginning
pub mod Numbers
pub mod Machines
pub mod TracedBeginning
