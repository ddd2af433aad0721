pub use Rattle.pr_base.specs as pr_base
pub mod Encoding
pub mod Rows
pub mod Small
