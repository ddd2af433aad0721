pub use Rattle.kr_calls.proofs.pr_base as pr_base
pub use Rattle.kr_calls.proofs.rv_mem as rv_mem
pub use Rattle.kr_calls.proofs as kr_calls
pub use Rattle.kr_files.proofs.kr_inode as kr_inode
pub use Rattle.kr_files.proofs.kr_tree as kr_tree
pub use Rattle.kr_procfs.proofs.kr_view as kr_view
pub use Rattle.kr_procfs.proofs as kr_procfs
pub use Rattle.kr_files.proofs as kr_files
pub mod TreeLemmas
pub mod LayoutLemmas
pub mod BareLemmas
pub mod KnownLemmas
pub mod ImageLemmas
pub mod CallLemmas
pub mod RefusalLemmas
pub mod KeepingLemmas
pub mod KeepingPieces
pub mod KeepingDescriptorRows
pub mod KeepingFileRows
pub mod KeepingNameRows
pub mod KeepingAttributeRows
pub mod KeepingOtherRows
pub mod KeepingCalls
pub mod KindLemmas
pub mod LineLemmas
pub mod BuiltLemmas
pub mod StayLemmas
pub mod ShapeLemmas
pub mod SlotLemmas
pub mod OperationRows
pub mod NameLemmas
pub mod ProcessLemmas
pub mod ToldLemmas
