pub use Rattle.kr_turns.proofs.pr_base as pr_base
pub use Rattle.kr_first.proofs.rv_mem as rv_mem
pub use Rattle.kr_turns.proofs.rv_cpu as rv_cpu
pub use Rattle.kr_first.proofs.kr_tree as kr_tree
pub use Rattle.kr_first.proofs.kr_view as kr_view
pub use Rattle.kr_first.proofs.kr_mounts as kr_mounts
pub use Rattle.kr_turns.proofs.kr_calls as kr_calls
pub use Rattle.kr_first.proofs.kr_model as kr_model
pub use Rattle.kr_turns.proofs.law_lawful as law_lawful
pub use Rattle.kr_first.proofs.law_allowed as law_allowed
pub use Rattle.kr_turns.proofs.kr_seen as kr_seen
pub use Rattle.kr_turns.proofs.kr_perform as kr_perform
pub use Rattle.kr_turns.proofs.kr_steps as kr_steps
pub use Rattle.kr_turns.proofs as kr_turns
pub use Rattle.kr_turns.proofs.kr_stops as kr_stops
pub use Rattle.kr_first.proofs.kr_start as kr_start
pub mod KernelLemmas
mod MetLemmas
pub mod PausedLemmas
pub mod StandingLemmas
pub mod SteppingLemmas
pub mod CountingLemmas
pub mod StartLemmas
