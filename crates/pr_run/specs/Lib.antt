pub use Rattle.kr_loose.specs as kr_loose
pub use Rattle.pr_sources.specs.pr_io as pr_io
pub use Rattle.pr_sources.specs.kr_mounts as kr_mounts
pub use Rattle.pr_sources.specs as pr_sources
pub mod Slots
pub mod Going
pub mod Report
pub mod Puts
pub mod Alike
pub mod Case
pub mod Keeping
pub mod Stepping
pub mod Laws
