pub use Rattle.law_machines.specs as law_machines
pub use Rattle.law_loose.specs as law_loose
pub use Rattle.law_entries.specs as law_entries
pub mod Fresh
pub mod Staying
pub mod Midway
pub mod Schedules
pub mod Turnwise
pub mod Loosely
pub mod LooseWords
