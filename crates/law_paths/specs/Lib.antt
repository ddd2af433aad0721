pub use Rattle.law_plans.specs.kr_mounts as kr_mounts
pub use Rattle.law_stops.specs as law_stops
pub mod Calls
pub mod FakedCalls
