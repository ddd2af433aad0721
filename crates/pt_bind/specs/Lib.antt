pub use Rattle.pr_base.specs as pr_base
pub mod Binding
pub mod Kept
pub mod Laws
pub mod Tags
