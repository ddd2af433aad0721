pub use Rattle.kr_seen.proofs.kr_inode as kr_inode
pub use Rattle.kr_seen.proofs as kr_seen
pub mod ChannelLemmas
pub mod SizeLemmas
pub mod PieceLemmas
pub mod MovingLemmas
pub mod ViewLemmas
pub mod ReadingLemmas
pub mod WritingLemmas
pub mod WrittenLemmas
pub mod ListLemmas
pub mod ListingLemmas
pub mod DescriptorLemmas
pub mod ShownLemmas
pub mod RiseLemmas
pub mod EntriesLemmas
