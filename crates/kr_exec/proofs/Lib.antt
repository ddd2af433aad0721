pub use Rattle.kr_walk.proofs.kr_tree as kr_tree
pub use Rattle.kr_walk.proofs.kr_view as kr_view
pub use Rattle.kr_calls.proofs as kr_calls
pub mod ExecRows
pub mod LimitLemmas
pub mod ListLemmas
pub mod RunningLemmas
pub mod PlanLemmas
