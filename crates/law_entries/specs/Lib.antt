pub use Rattle.kr_loose.specs as kr_loose
pub use Rattle.pt_tracer.specs as pt_tracer
pub mod Lasting
pub mod Marking
pub mod Programs
pub mod Traced
