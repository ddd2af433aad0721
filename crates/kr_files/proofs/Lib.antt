pub use Rattle.kr_tree.proofs.kr_inode as kr_inode
pub use Rattle.kr_tree.proofs as kr_tree
pub mod AnswerLemmas
pub mod ClaimLemmas
pub mod CloseLemmas
pub mod CountLemmas
pub mod DescriptorLemmas
pub mod EntryLemmas
pub mod KindLemmas
pub mod LawLemmas
pub mod MountLemmas
pub mod OpenFileLemmas
pub mod PipeLemmas
pub mod ServedLemmas
pub mod ServesLemmas
pub mod SlotLemmas
pub mod SoundLemmas
