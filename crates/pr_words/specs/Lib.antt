pub use Rattle.pr_base.specs as pr_base
pub mod Answers
pub mod Bindings
pub mod Kept
pub mod Meaning
pub mod ReadBack
pub mod Reading
pub mod Rules
pub mod Sound
pub mod Spelling
pub mod Steps
pub mod Values
pub mod Variables
pub mod Command
