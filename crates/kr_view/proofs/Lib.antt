pub use Rattle.kr_tree.proofs.kr_inode as kr_inode
pub use Rattle.kr_tree.proofs as kr_tree
pub mod ArrivalLemmas
pub mod DirectoryLemmas
pub mod GuestNameLemmas
pub mod HostReachLemmas
pub mod JumpedLemmas
pub mod LandingLemmas
pub mod LivingLemmas
pub mod NodeLemmas
pub mod PlaceLemmas
pub mod ProcessLemmas
pub mod ProcessNameLemmas
pub mod ReachLemmas
pub mod ReachedLemmas
pub mod RestLemmas
pub mod SlashedLemmas
pub mod StayingLemmas
pub mod TableLemmas
