pub use Rattle.pr_base.specs as pr_base
pub mod Headers
pub mod Plans
pub mod Rules
