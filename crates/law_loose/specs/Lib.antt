pub use Rattle.kr_loose.specs.kr_view as kr_view
pub use Rattle.kr_loose.specs.kr_model as kr_model
pub use Rattle.kr_loose.specs.kr_stops as kr_stops
pub use Rattle.kr_loose.specs.kr_turns as kr_turns
pub use Rattle.kr_loose.specs.kr_core as kr_core
pub use Rattle.kr_loose.specs as kr_loose
pub use Rattle.law_beside.specs as law_beside
pub mod Staying
pub mod Lagging
pub mod Images
pub mod Unwatched
