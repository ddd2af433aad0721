pub use Rattle.rv_cpu.specs.rv_table as rv_table
pub use Rattle.rv_cpu.specs.rv_mem as rv_mem
pub use Rattle.rv_cpu.specs as rv_cpu
pub use Rattle.kr_stops.specs.kr_model as kr_model
pub use Rattle.kr_perform.specs.law_allowed as law_allowed
pub use Rattle.kr_stops.specs as kr_stops
pub use Rattle.kr_perform.specs.law_steady as law_steady
pub mod Computing
pub mod Answering
pub mod Settling
pub mod Waiting
pub mod Calls
pub mod Waits
