pub use Rattle.kr_core.specs.rv_mem as rv_mem
pub use Rattle.kr_core.specs.kr_view as kr_view
pub use Rattle.kr_core.specs.kr_model as kr_model
pub use Rattle.kr_core.specs.law_allowed as law_allowed
pub use Rattle.kr_core.specs.kr_stops as kr_stops
pub use Rattle.kr_core.specs.kr_steps as kr_steps
pub use Rattle.kr_core.specs.kr_turns as kr_turns
pub use Rattle.kr_core.specs as kr_core
pub use Rattle.law_kept.specs as law_kept
pub mod Beside
pub mod Changes
pub mod Calls
pub mod Picks
pub mod Opened
