pub use Rattle.rv_table.specs.pr_base as pr_base
pub use Rattle.rv_table.specs as rv_table
pub mod Assembly
pub mod Laws
pub mod Program
