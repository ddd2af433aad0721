pub use Rattle.rv_table.specs.pr_base as pr_base
pub use Rattle.rv_table.specs as rv_table
pub mod Actions
pub mod Code
pub mod Layout
pub mod Marks
pub mod Memory
pub mod Page
pub mod PageList
pub mod Pages
pub mod Places
pub mod Scan
