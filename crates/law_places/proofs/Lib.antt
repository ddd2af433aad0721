pub use Rattle.law_walks.proofs.kr_inode as kr_inode
pub use Rattle.law_walks.proofs.kr_tree as kr_tree
pub use Rattle.law_walks.proofs.kr_view as kr_view
pub use Rattle.law_walks.proofs.kr_files as kr_files
pub use Rattle.law_walks.proofs.kr_model as kr_model
pub use Rattle.kr_calm.proofs.kr_seen as kr_seen
pub use Rattle.kr_calm.proofs as kr_calm
pub use Rattle.law_walks.proofs as law_walks
pub mod BelowLemmas
pub mod ChangeLemmas
pub mod EndLemmas
pub mod FollowLemmas
pub mod KeptLemmas
pub mod MatchLemmas
pub mod MoveKeepLemmas
pub mod MoveLemmas
pub mod MovedEntryLemmas
pub mod MovedLemmas
pub mod RememberLemmas
pub mod RemoveLemmas
pub mod RightLemmas
pub mod ShownLemmas
pub mod SlotLemmas
pub mod SourceLemmas
pub mod SpaceLemmas
pub mod TagLemmas
pub mod TreeLemmas
pub mod WayLemmas
pub mod InUseLemmas
pub mod KeepLemmas
pub mod RenameLemmas
pub mod SearchLemmas
pub mod CalmSourceLemmas
