pub use Rattle.rv_table.proofs as rv_table
pub mod Reach
pub mod Rows
pub mod Near
pub mod Programs
