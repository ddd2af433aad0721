pub use Rattle.kr_model.proofs.kr_inode as kr_inode
pub use Rattle.kr_mounts.proofs.kr_tree as kr_tree
pub use Rattle.kr_mounts.proofs.kr_view as kr_view
pub use Rattle.kr_mounts.proofs as kr_mounts
pub use Rattle.kr_model.proofs.kr_files as kr_files
pub use Rattle.kr_model.proofs.kr_calls as kr_calls
pub use Rattle.kr_model.proofs as kr_model
pub use Rattle.pt_canon.proofs.pt_bind as pt_bind
pub mod AgreeLemmas
pub mod CanonLemmas
pub mod FactLemmas
pub mod HandedLemmas
pub mod InUseLemmas
pub mod LinkLemmas
pub mod LookLemmas
pub mod NamedLemmas
pub mod PeekLemmas
pub mod PlainLemmas
pub mod PointLemmas
pub mod StandingLemmas
pub mod StartLemmas
pub mod StateLemmas
pub mod TableLemmas
pub mod UpLemmas
pub mod TreeLemmas
pub mod SpaceLemmas
pub mod BareLookLemmas
pub mod SteadyLemmas
pub mod BareStateLemmas
pub mod OneMountLemmas
pub mod BareFactLemmas
pub mod SightLemmas
