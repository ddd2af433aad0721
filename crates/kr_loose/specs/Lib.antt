pub use Rattle.kr_core.specs.rv_mem as rv_mem
pub use Rattle.kr_core.specs.kr_inode as kr_inode
pub use Rattle.kr_core.specs.kr_tree as kr_tree
pub use Rattle.kr_core.specs.kr_text as kr_text
pub use Rattle.kr_core.specs.kr_turns.kr_view as kr_view
pub use Rattle.kr_core.specs.kr_turns.kr_model as kr_model
pub use Rattle.kr_core.specs.law_allowed as law_allowed
pub use Rattle.kr_core.specs.kr_turns.kr_stops as kr_stops
pub use Rattle.kr_core.specs.kr_start as kr_start
pub use Rattle.kr_core.specs.kr_first as kr_first
pub use Rattle.kr_core.specs.kr_calm as kr_calm
pub use Rattle.kr_core.specs.kr_turns as kr_turns
pub use Rattle.kr_core.specs.kr_turns.law_steady as law_steady
pub use Rattle.kr_core.specs as kr_core
pub mod LooseRun
pub mod Slots
pub mod Quiet
pub mod Judging
pub mod Behind
pub mod Going
pub mod Laws
pub mod Marks
pub mod Parting
pub mod WaitingCalls
pub mod Local
