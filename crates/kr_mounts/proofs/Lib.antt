pub use Rattle.pt_bind.proofs.pr_base as pr_base
pub use Rattle.kr_walk.proofs.kr_tree as kr_tree
pub use Rattle.kr_walk.proofs.kr_view as kr_view
pub mod BeforeLemmas
pub mod BoundLemmas
pub mod CutLemmas
pub mod GrowthLemmas
pub mod HostLemmas
pub mod IndexLemmas
pub mod LeadLemmas
pub mod LocationLemmas
pub mod MountLemmas
pub mod OrderLemmas
pub mod PassLemmas
pub mod ReachLemmas
pub mod Rows
pub mod SightLemmas
pub mod SourceLemmas
pub mod StandLemmas
pub mod StayLemmas
pub mod StopLemmas
pub mod TableLemmas
pub mod TurnLemmas
pub mod WayLemmas
