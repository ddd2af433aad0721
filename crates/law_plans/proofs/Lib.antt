pub use Rattle.law_edits.proofs.pr_base as pr_base
pub use Rattle.law_edits.proofs.pt_bind as pt_bind
pub use Rattle.law_places.proofs.kr_seen as kr_seen
pub use Rattle.law_places.proofs.kr_calm as kr_calm
pub use Rattle.law_places.proofs.law_walks as law_walks
pub use Rattle.law_places.proofs as law_places
pub use Rattle.law_edits.proofs as law_edits
pub mod AllLemmas
pub mod BaseLemmas
pub mod CreateLemmas
pub mod EntryLemmas
pub mod FoundLemmas
pub mod LeadLemmas
pub mod LookLemmas
pub mod MoveLemmas
pub mod OneLemmas
pub mod OpenLemmas
pub mod PathLemmas
pub mod PlanLemmas
pub mod ReadLemmas
pub mod RequestLemmas
pub mod StayLemmas
pub mod TakeLemmas
pub mod TextLemmas
pub mod TwoLemmas
pub mod WholeLemmas
pub mod DecodedLemmas
pub mod EditLemmas
mod FollowLemmas
mod ShortLeadLemmas
pub mod LinkLemmas
mod ReachedLemmas
mod ShortLemmas
